use Rattle.std.proofs.Common.{◌≡◌, ◌+◌, ◌*◌, ◌-◌, ℕ, List, ◌++◌, map}
use Rattle.std.specs.List.{range_with_len}
use Rattle.icont_units.specs.Generated.{numbered_from, numbers, sum_line}
use Rattle.icont_units.proofs.program_lines.add_sums.Given as goal

abbrev pub invariant-loop-i : goal.invariant-loop-i
invariant-loop-i l = record {
  is : (later : List (List ℕ)) → l.lines.items ++ numbered_from (3 * l.count + 3 + l.i) (map sum_line (range_with_len (l.i + 1) (l.count - l.i)) ++ later)
      ≡ l.initial.lines.items ++ numbered_from (3 * l.count + 3) (map sum_line (numbers l.count) ++ later);
}
