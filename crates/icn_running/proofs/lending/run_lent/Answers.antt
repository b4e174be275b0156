use Rattle.std.proofs.Common.{◌∙◌, sym}
use Rattle.icn_running.proofs.lending.run_lent.Goals as goal

pub returns-clause-same_files : goal.returns-clause-same_files
returns-clause-same_files g c = c.run_on-stopped.new.streams.files.lent ∙ sym c.requires.files_lent

pub returns-clause-same_input : goal.returns-clause-same_input
returns-clause-same_input g c = c.run_on-stopped.new.streams.input.lent ∙ sym c.requires.input_lent

pub returns-clause-same_output : goal.returns-clause-same_output
returns-clause-same_output g c = c.run_on-stopped.new.streams.output.lent ∙ sym c.requires.output_lent

pub returns-clause-same_errors : goal.returns-clause-same_errors
returns-clause-same_errors g c = c.run_on-stopped.new.streams.errors.lent ∙ sym c.requires.errors_lent

pub returns-clause-steps : goal.returns-clause-steps
returns-clause-steps g c = c.run_on-stopped.ensures.steps
