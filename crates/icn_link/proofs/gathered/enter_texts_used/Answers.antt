use Rattle.std.proofs.Common.{◌∙◌}
use Rattle.icn_unit.specs.declared.unit.UnitInstr.{UnitInstr}
use Rattle.icn_link.specs.Mentions.{text_in, mention_of}
use Rattle.icn_link.specs.Views.{texts_seen}
use Rattle.icn_link.proofs.GatheringLoops.{own_texts_step}
use Rattle.icn_link.proofs.gathered.enter_texts_used.Goals as goal

pub loop-instr-preserved : goal.loop-instr-preserved
loop-instr-preserved c =
    own_texts_step (λ (instr : UnitInstr). text_in (mention_of instr)) c.args.instrs.now c.loop-instr.instr-index c.instr-item.result
    (texts_seen c.loop-instr.texts.keys) _
    c.loop-instr-test.true c.instr-item.is c.in_ok-enter_text_used.ensures
    ∙ c.loop-instr.invariant
