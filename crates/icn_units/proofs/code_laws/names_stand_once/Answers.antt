use Rattle.icn_units.proofs.EntryNames.{code_names_differ, code_names_in_order, code_variables_named}
use Rattle.icn_units.proofs.code_laws.names_stand_once.Goals as goal

pub returns-clause-differ : goal.returns-clause-differ
returns-clause-differ c met procedure faultless = code_names_differ met procedure faultless

pub returns-clause-order : goal.returns-clause-order
returns-clause-order c met procedure faultless = code_names_in_order met procedure faultless

pub returns-clause-variables : goal.returns-clause-variables
returns-clause-variables c met procedure faultless = code_variables_named met procedure faultless
