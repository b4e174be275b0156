use Rattle.icn_tree.specs.NameSets.{none_met}
use Rattle.icn_units.proofs.FileNames.{names_are_same, unit_fields_differ, unit_owners_differ, unit_procedures_differ}
use Rattle.icn_units.proofs.code_laws.file_names_differ.Goals as goal

pub returns-clause-procedures : goal.returns-clause-procedures
returns-clause-procedures c file faultless = unit_procedures_differ none_met file faultless

pub returns-clause-owners : goal.returns-clause-owners
returns-clause-owners c file faultless = unit_owners_differ none_met file faultless

pub returns-clause-same : goal.returns-clause-same
returns-clause-same c file = names_are_same file

pub returns-clause-fields : goal.returns-clause-fields
returns-clause-fields c file faultless = unit_fields_differ none_met file faultless
