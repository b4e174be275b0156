use Rattle.icn_value.specs.declared.val.Val.TheVariants as Vals
use Rattle.icn_machine.proofs.ToldSteps.{by_value}
use Rattle.icn_machine.proofs.told.own_cset.Goals as goal

pub returns : goal.returns
returns g c globals =
    by_value (λ x. Vals.Chars x) globals c.args.frames.now.flat c.args.count c.in_ok-val.val c.cset_of.result c.in_ok-val.ensures c.cset_of.ensures
