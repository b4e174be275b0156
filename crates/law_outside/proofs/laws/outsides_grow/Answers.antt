use Rattle.icn_run.specs.Stacks.{flat, empty}
use Rattle.icn_run.specs.Chains.{linked_calls, empty as no_chain}
use Rattle.law_outside.proofs.GrowingOutside.{reached_extends, steps_extend}
use Rattle.law_outside.proofs.LastingFacts.{extends_itself, from_outside}
use Rattle.law_outside.proofs.OutsideRows.{operation_leaves, function_leaves, again_leaves}
use Rattle.law_outside.proofs.Evaluations.{means_leaves}
use Rattle.law_outside.proofs.CodeRuns.{run_leaves}
use Rattle.law_outside.proofs.laws.outsides_grow.Goals as goal

pub returns-clause-operations : goal.returns-clause-operations
returns-clause-operations c = λ op items at. operation_leaves (from_outside at.outside) op items at (extends_itself at.outside)

pub returns-clause-functions : goal.returns-clause-functions
returns-clause-functions c = λ names func items at. function_leaves (from_outside at.outside) names func items at (extends_itself at.outside)

pub returns-clause-resumed : goal.returns-clause-resumed
returns-clause-resumed c = λ residual at. again_leaves (from_outside at.outside) residual at (extends_itself at.outside)

pub returns-clause-reached : goal.returns-clause-reached
returns-clause-reached c = reached_extends

pub returns-clause-steps : goal.returns-clause-steps
returns-clause-steps c = steps_extend

pub returns-clause-meant : goal.returns-clause-meant
returns-clause-meant c = λ program launch seen m. means_leaves (from_outside launch.outside) program launch seen (extends_itself launch.outside) m

pub returns-clause-on_stacks : goal.returns-clause-on_stacks
returns-clause-on_stacks c =
    λ tables launch seen r. run_leaves flat tables (from_outside launch.outside) empty launch r.count seen (extends_itself launch.outside) r.is

pub returns-clause-on_marks : goal.returns-clause-on_marks
returns-clause-on_marks c = λ repeats tables launch seen r. run_leaves (linked_calls repeats) tables (from_outside launch.outside) no_chain launch r.count seen
    (extends_itself launch.outside) r.is
