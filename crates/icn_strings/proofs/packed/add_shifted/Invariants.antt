use Rattle.std.proofs.Common.{◌≡◌, ◌≤◌, ◌+◌, ◌++◌, length, map, take}
use Rattle.std.specs.Prelude.{vec_len}
use Rattle.std.specs.Vec.{vec_capacity}
use Rattle.icn_strings.specs.PackedRuns.{shifted}
use Rattle.icn_strings.proofs.packed.add_shifted.Given as goal

-- the runs so far stand behind the others, and there is room for the rest
abbrev pub invariant-loop-run : goal.invariant-loop-run
invariant-loop-run l = record {
  items : l.runs.items ≡ l.initial.runs.items ++ map (shifted l.at) (take l.run-index l.fresh);
  len : vec_len l.runs ≡ vec_len l.initial.runs + l.run-index;
  room : vec_len l.initial.runs + length l.fresh ≤ vec_capacity l.runs;
}
