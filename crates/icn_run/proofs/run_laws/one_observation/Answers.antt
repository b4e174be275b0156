use Rattle.icn_run.proofs.OneObservation.{flat_once, linked_once}
use Rattle.icn_run.proofs.run_laws.one_observation.Goals as goal

pub returns-clause-on_stacks : goal.returns-clause-on_stacks
returns-clause-on_stacks c = flat_once

pub returns-clause-on_marks : goal.returns-clause-on_marks
returns-clause-on_marks c = linked_once
