use Rattle.std.proofs.Common.{◌∙◌, ap, Bor}
use Rattle.icn_unit.specs.declared.unit.ProcCode.{ProcCode}
use Rattle.icn_unit.specs.UnitViews.{proc_seen}
use Rattle.std.specs.List.{flat_map}
use Rattle.icn_unit.specs.declared.unit.UnitInstr.{UnitInstr}
use Rattle.icn_link.specs.FirstMentions.{with_integers}
use Rattle.icn_link.specs.Mentions.{integer_in, mentioned_in, mention_of}
use Rattle.icn_link.proofs.GatheringLoops.{integers_step}
use Rattle.icn_link.proofs.gathered.integers.Goals as goal

pub loop-proc-preserved : goal.loop-proc-preserved
loop-proc-preserved c =
    integers_step (λ (item : Bor ProcCode). proc_seen item.now)
    (mentioned_in integer_in) c.args.procs.now c.loop-proc.proc-index c.proc-item.result c.loop-proc.found.keys _
    c.loop-proc-test.true c.proc-item.is (c.in_ok-enter_integers_used.ensures
    ∙ ap (λ items. with_integers c.loop-proc.found.keys (flat_map (λ (instr : UnitInstr). integer_in (mention_of instr)) items)) c.deref.ensures.value)
    ∙ c.loop-proc.invariant
