use Rattle.std.proofs.Common.{◌≡◌, ◌+◌, ◌*◌, ◌-◌, ℕ, List, ◌++◌}
use Rattle.std.specs.List.{flat_map, range_with_len}
use Rattle.icont_units.specs.Generated.{numbered_from, numbers, procedure_lines}
use Rattle.icont_units.proofs.program_lines.add_procedures.Given as goal

abbrev pub invariant-loop-i : goal.invariant-loop-i
invariant-loop-i l = record {
  is : (later : List (List ℕ)) → l.lines.items ++ numbered_from (3 * l.i + 1) (flat_map procedure_lines (range_with_len (l.i + 1) (l.count - l.i)) ++ later)
      ≡ l.initial.lines.items ++ numbered_from 1 (flat_map procedure_lines (numbers l.count) ++ later);
}
