use Rattle.icn_value.specs.declared.val.Val.TheVariants as Vals
use Rattle.icn_machine.proofs.ToldSteps.{held_as}
use Rattle.icn_machine.proofs.told.global_text.Goals as goal

pub returns : goal.returns
returns c = held_as (λ x. Vals.Text x) c.args.world.now.globals.items c.args.index c.in_ok-val.val c.text_of.result c.in_ok-val.ensures c.text_of.ensures
