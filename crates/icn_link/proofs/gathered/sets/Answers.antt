use Rattle.std.proofs.Common.{◌∙◌, ap, Bor}
use Rattle.icn_unit.specs.declared.unit.ProcCode.{ProcCode}
use Rattle.icn_unit.specs.UnitViews.{proc_seen}
use Rattle.std.specs.List.{flat_map}
use Rattle.icn_unit.specs.declared.unit.UnitInstr.{UnitInstr}
use Rattle.icn_link.specs.FirstMentions.{with_texts}
use Rattle.icn_link.specs.Mentions.{mentioned_in, set_in, mention_of}
use Rattle.icn_link.specs.Views.{texts_seen}
use Rattle.icn_link.proofs.GatheringLoops.{texts_step}
use Rattle.icn_link.proofs.gathered.sets.Goals as goal

pub loop-proc-preserved : goal.loop-proc-preserved
loop-proc-preserved c =
    texts_step (λ (item : Bor ProcCode). proc_seen item.now) (mentioned_in set_in) c.args.procs.now c.loop-proc.proc-index c.proc-item.result
    (texts_seen c.loop-proc.found.keys) _
    c.loop-proc-test.true c.proc-item.is (c.in_ok-enter_sets_used.ensures
    ∙ ap (λ items. with_texts (texts_seen c.loop-proc.found.keys) (flat_map (λ (instr : UnitInstr). set_in (mention_of instr)) items)) c.deref.ensures.value)
    ∙ c.loop-proc.invariant
