use Rattle.cases_grammar.proofs.RowsHold.{atoms_hold, suffixes_hold, forms_hold, levels_hold, groups_hold, prefixes_hold, nearest_hold, operands_hold, files_hold}
use Rattle.cases_grammar.proofs.table.rows.Goals as goal

pub returns : goal.returns
returns c = record {
  atoms = atoms_hold;
  suffixes = suffixes_hold;
  forms = forms_hold;
  levels = levels_hold;
  groups = groups_hold;
  prefixes = prefixes_hold;
  nearest = nearest_hold;
  operands = operands_hold;
  files = files_hold;
}
