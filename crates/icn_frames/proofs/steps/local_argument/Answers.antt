use Rattle.std.proofs.Common.{arith, sym, ◌∙◌}
use Rattle.icn_frames.proofs.CalledWithFacts.{local_argument_is}
use Rattle.icn_frames.proofs.steps.local_argument.Goals as goal

pub returns-then-is_plain_local : goal.returns-then-is_plain_local
returns-then-is_plain_local g c =
    local_argument_is c.args.base c.args.own c.args.index c.args.cells.now.cells c.args.slot c.slot_above-local.result c.requires.is
    (omega (arith, c.if-index-own.false)) c.slot_above-local.ensures (sym c.is_plain_local.ensures ∙ c.if-is_plain_local.true)
