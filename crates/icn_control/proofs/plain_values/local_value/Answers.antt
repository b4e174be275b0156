use Rattle.std.proofs.Common.{arith, sym, ◌∙◌}
use Rattle.icn_frames.specs.Stacks as held
use Rattle.icn_control.proofs.PlainValueSteps.{local_told}
use Rattle.icn_control.proofs.plain_values.local_value.Goals as goal

pub returns-then-is_plain_operand : goal.returns-then-is_plain_operand
returns-then-is_plain_operand g c =
    local_told (held.locals c.args.frames.now.flat) c.args.slot c.local_slot.result c.local_as_operand-value.result c.args.index c.local_count-count.result
    c.requires (omega (arith, c.if-index-count.false)) c.local_count-count.ensures.all c.local_slot.ensures c.local_as_operand-value.ensures
    (sym c.is_plain_operand.ensures ∙ c.if-is_plain_operand.true)
