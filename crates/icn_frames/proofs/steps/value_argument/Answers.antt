use Rattle.std.proofs.Common.{sym, ◌∙◌}
use Rattle.icn_frames.proofs.CalledWithFacts.{value_argument_is}
use Rattle.icn_frames.proofs.steps.value_argument.Goals as goal

pub returns-then-is_plain_local : goal.returns-then-is_plain_local
returns-then-is_plain_local g c =
    value_argument_is c.args.base c.args.own c.args.cells.now.cells c.args.slot c.operand_as_local-local.result c.operand_as_local-local.ensures
    (sym c.is_plain_local.ensures ∙ c.if-is_plain_local.true)
