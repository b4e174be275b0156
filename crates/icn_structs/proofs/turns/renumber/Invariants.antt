use Rattle.std.proofs.Common.{◌≡◌, ◌<◌, ◌≤◌, ◌-◌, ℕ, length, slice_get, slice_index_or, Some}
use Rattle.icn_structs.specs.GapLists.{present}
use Rattle.icn_structs.proofs.turns.renumber.Given as goal

abbrev pub invariant-loop-number : goal.invariant-loop-number
invariant-loop-number l = record {
  same_length : length l.places.items ≡ length l.fn.places.items;
  within : l.place ≤ length (present l.order);
  done : (place number : ℕ) → place < l.place → slice_get (present l.order) place ≡ Some number → slice_index_or l.places.items number 0 ≡ place;
}

abbrev pub decreases-loop-number : goal.decreases-loop-number
decreases-loop-number l = length (present l.order) - l.place
