use Rattle.std.proofs.Common.{◌∙◌}
use Rattle.icn_unit.specs.declared.unit.UnitInstr.{UnitInstr}
use Rattle.icn_link.specs.Mentions.{field_in, mention_of}
use Rattle.icn_link.specs.Views.{texts_seen}
use Rattle.icn_link.proofs.GatheringLoops.{own_texts_step}
use Rattle.icn_link.proofs.gathered.enter_fields_used.Goals as goal

pub loop-instr-preserved : goal.loop-instr-preserved
loop-instr-preserved c =
    own_texts_step (λ (instr : UnitInstr). field_in (mention_of instr)) c.args.instrs.now c.loop-instr.instr-index c.instr-item.result
    (texts_seen c.loop-instr.names.keys) _
    c.loop-instr-test.true c.instr-item.is c.in_ok-enter_field_used.ensures
    ∙ c.loop-instr.invariant
