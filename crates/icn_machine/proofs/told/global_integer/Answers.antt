use Rattle.icn_value.specs.declared.val.Val.TheVariants as Vals
use Rattle.icn_machine.proofs.ToldSteps.{held_as}
use Rattle.icn_machine.proofs.told.global_integer.Goals as goal

pub returns : goal.returns
returns c =
    held_as (λ x. Vals.Integer x) c.args.world.now.globals.items c.args.index c.in_ok-val.val c.integer_of.result c.in_ok-val.ensures c.integer_of.ensures
