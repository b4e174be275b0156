use Rattle.icn_units.proofs.ProcedureLabels.{labels_are_distinct, are_placed}
use Rattle.icn_units.proofs.code_laws.labels_have_one_place.Goals as goal

pub returns-clause-differ : goal.returns-clause-differ
returns-clause-differ c met procedure faultless = labels_are_distinct met procedure faultless

pub returns-clause-placed : goal.returns-clause-placed
returns-clause-placed c met procedure faultless = are_placed met procedure faultless
