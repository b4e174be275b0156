use Rattle.icn_value.specs.declared.val.Val.TheVariants as Vals
use Rattle.icn_machine.proofs.PlainCallSteps.{operands_there}
use Rattle.icn_machine.proofs.PlainFunctionSteps.{top_live}
use Rattle.icn_machine.proofs.scanning.match_tested.Goals as goal

pub text_told-requires : goal.text_told-requires
text_told-requires g c = operands_there 0 c.args.frames.now.flat c.requires.operand

pub match_in_subject-requires : goal.match_in_subject-requires
match_in_subject-requires g c =
    let w = c.args.world.now in
    (top_live c.requires.live.0 w c.args.frames.now.flat (Vals.Text c.in_ok-wanted.wanted) w.sound.live_globals c.requires.operand c.requires.live.1
    c.in_ok-wanted.ensures).live

pub returns-clause-tests : goal.returns-clause-tests
returns-clause-tests g c = record {
  value = Vals.Text c.in_ok-wanted.wanted;
  below = c.in_ok-wanted.ensures;
  comes = λ names outside locals. c.match_in_subject.ensures.row outside locals;
}
