use Rattle.std.proofs.Common.{arith, sym}
use Rattle.icn_value.specs.declared.val.Val.TheVariants as Vals
use Rattle.icn_frames.specs.Stacks as held
use Rattle.icn_machine.proofs.ToldSteps.{held_as}
use Rattle.icn_machine.proofs.told.cset_held.Goals as goal

pub local-requires : goal.local-requires
local-requires g c = omega (arith, c.local_count.ensures.count, c.if-index-local_count.false)

pub returns : goal.returns
returns g c =
    held_as (λ x. Vals.Chars x) (held.locals c.args.frames.now.flat) c.args.index c.local.result c.cset_of.result (sym c.local.ensures) c.cset_of.ensures
