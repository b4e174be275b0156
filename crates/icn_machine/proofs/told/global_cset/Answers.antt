use Rattle.icn_value.specs.declared.val.Val.TheVariants as Vals
use Rattle.icn_machine.proofs.ToldSteps.{held_as}
use Rattle.icn_machine.proofs.told.global_cset.Goals as goal

pub returns : goal.returns
returns c = held_as (λ x. Vals.Chars x) c.args.world.now.globals.items c.args.index c.in_ok-val.val c.cset_of.result c.in_ok-val.ensures c.cset_of.ensures
