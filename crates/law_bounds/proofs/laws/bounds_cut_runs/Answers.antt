use Rattle.std.proofs.Common.{[]}
use Rattle.law_simulation.specs.FirstLaw.{dropped_procedures, with_turns}
use Rattle.law_bounds.proofs.CutRuns.{runs_part}
use Rattle.law_bounds.proofs.EachRow.{function_overlooks, operation_overlooks, resumed_overlooks}
use Rattle.law_bounds.proofs.laws.bounds_cut_runs.Goals as goal

pub returns-clause-operations : goal.returns-clause-operations
returns-clause-operations c = operation_overlooks

pub returns-clause-functions : goal.returns-clause-functions
returns-clause-functions c = function_overlooks

pub returns-clause-resumed : goal.returns-clause-resumed
returns-clause-resumed c = resumed_overlooks

pub returns-clause-on_stacks : goal.returns-clause-on_stacks
returns-clause-on_stacks c = λ tables launch fewer more part whole le x y. runs_part tables [] launch fewer more part whole le x y

pub returns-clause-meant : goal.returns-clause-meant
returns-clause-meant c = λ files tables launch fewer more part whole linked le x y.
    runs_part tables (dropped_procedures files) launch fewer more part whole le
    ((c.same_ends.ensures.on_stacks files tables (with_turns fewer launch) part linked).0 x)
    ((c.same_ends.ensures.on_stacks files tables (with_turns more launch) whole linked).0 y)
