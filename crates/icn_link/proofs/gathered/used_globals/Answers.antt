use Rattle.std.proofs.Common.{◌∙◌, ap, Bor}
use Rattle.icn_unit.specs.declared.unit.ProcCode.{ProcCode}
use Rattle.icn_unit.specs.declared.unit.UnitInstr.{UnitInstr}
use Rattle.icn_unit.specs.declared.unit.UnitName.{UnitName}
use Rattle.icn_unit.specs.UnitViews.{proc_seen}
use Rattle.std.specs.Prelude.{List}
use Rattle.std.specs.List.{flat_map}
use Rattle.icn_link.specs.FirstMentions.{with_texts}
use Rattle.icn_link.specs.Mentions.{function_used, functions_used}
use Rattle.icn_link.specs.Views.{texts_seen}
use Rattle.icn_link.proofs.GatheringLoops.{texts_step}
use Rattle.icn_link.proofs.gathered.used_globals.Goals as goal

pub loop-proc-preserved : goal.loop-proc-preserved
loop-proc-preserved c =
    texts_step (λ (item : Bor ProcCode). proc_seen item.now) functions_used c.args.procs.now c.loop-proc.proc-index c.proc-item.result
    (texts_seen c.loop-proc.names.keys) _
    c.loop-proc-test.true c.proc-item.is
    (c.in_ok-enter_functions_used.ensures
    ∙ ap (λ (entries : List UnitName). with_texts (texts_seen c.loop-proc.names.keys) (flat_map (function_used entries) c.deref-in-loop-proc.result.now))
    c.deref.ensures.value
    ∙ ap (λ (instrs : List UnitInstr). with_texts (texts_seen c.loop-proc.names.keys) (flat_map (function_used c.proc-item.result.now.names.items) instrs))
    c.deref-in-loop-proc.ensures.value)
    ∙ c.loop-proc.invariant
