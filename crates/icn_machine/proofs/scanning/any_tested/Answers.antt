use Rattle.icn_value.specs.declared.val.Val.TheVariants as Vals
use Rattle.icn_machine.proofs.PlainCallSteps.{operands_there}
use Rattle.icn_machine.proofs.scanning.any_tested.Goals as goal

pub cset_told-requires : goal.cset_told-requires
cset_told-requires g c = operands_there 0 c.args.frames.now.flat c.requires

pub returns-clause-tests : goal.returns-clause-tests
returns-clause-tests g c = record {
  value = Vals.Chars c.in_ok-wanted.wanted;
  below = c.in_ok-wanted.ensures;
  comes = λ names outside locals. c.any_in_subject.ensures.row outside locals;
}
