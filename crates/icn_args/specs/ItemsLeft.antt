-- What is left of reading items, in front of what was read.
use Rattle.std.specs.Prelude.{List, ◌++◌}
use Rattle.icn_value.specs.Values.{Value, Item}
use Rattle.icn_defs.specs.Rows.{Finds}
use Rattle.icn_defs.specs.ReadAndAssign.{the_values}

-- the values of what is left, behind those that are read
abbrev pub values_behind : List Value → List Item → Finds (List Value)
values_behind done rest next = the_values rest (λ more. next (done ++ more))
