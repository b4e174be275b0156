use Rattle.std.proofs.Common.{ap, ◌∙◌}
use Rattle.icn_coexp.specs.Transfers.{first_table}
use Rattle.icn_machine.proofs.starting.machine_with.Goals as goal

pub returns-clause-table : goal.returns-clause-table
returns-clause-table g c = c.in_ok-stacks.ensures.table ∙ ap first_table c.in_ok-frames.ensures
