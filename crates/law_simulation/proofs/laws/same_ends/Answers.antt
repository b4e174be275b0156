use Rattle.law_simulation.proofs.FirstLawForFiles.{same_ends, same_flat}
use Rattle.law_simulation.proofs.laws.same_ends.Goals as goal

pub returns-clause-on_marks : goal.returns-clause-on_marks
returns-clause-on_marks c = λ files tables launch seen h. let s = same_ends files tables h in (s.to launch seen, s.from launch seen)

pub returns-clause-on_stacks : goal.returns-clause-on_stacks
returns-clause-on_stacks c = λ files tables launch seen h. let s = same_flat files tables h in (s.to launch seen, s.from launch seen)
