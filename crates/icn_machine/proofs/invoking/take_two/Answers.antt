use Rattle.icn_control.proofs.TakenOperandSteps.{pop_there}
use Rattle.icn_machine.proofs.ElementSteps.{second_pops, two_taken}
use Rattle.std.proofs.Common.{[]}
use Rattle.icn_machine.proofs.invoking.take_two.Goals as goal

pub pop-upper-requires : goal.pop-upper-requires
pop-upper-requires g c = pop_there 1 c.args.frames.now.flat [] c.requires

pub pop-lower-requires : goal.pop-lower-requires
pop-lower-requires g c = second_pops c.args.frames.now.flat c.pop-upper.new.self.flat c.pop-upper.result c.pop-upper.ensures.flat c.requires

pub returns : goal.returns
returns g c =
    two_taken c.args.frames.now.flat c.pop-upper.new.self.flat c.pop-lower.new.self.flat c.pop-upper.result c.pop-lower.result c.pop-upper.ensures.flat
    c.pop-lower.ensures.flat
