use Rattle.law_stacks.proofs.ForwardRuns.{flat_ends, linked_ends}
use Rattle.law_stacks.proofs.runs_end.Goals as goal

pub returns-clause-on_stacks : goal.returns-clause-on_stacks
returns-clause-on_stacks c = flat_ends

pub returns-clause-on_marks : goal.returns-clause-on_marks
returns-clause-on_marks c = linked_ends
