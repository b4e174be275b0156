use Rattle.law_prune.proofs.RelatedRuns.{pruned_marks, pruned_stacks}
use Rattle.law_prune.proofs.laws.pruned_code_runs_alike.Goals as goal

pub returns-clause-on_marks : goal.returns-clause-on_marks
returns-clause-on_marks c = λ tables keep launch seen h k. pruned_marks tables keep launch seen h k

pub returns-clause-on_stacks : goal.returns-clause-on_stacks
returns-clause-on_stacks c = λ tables keep launch seen h k. pruned_stacks tables keep launch seen h k
