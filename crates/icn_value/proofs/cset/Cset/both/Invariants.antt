use Rattle.std.proofs.Common.{◌≡◌, ℕ, ◌<◌, ◌≤◌, length, slice_index}
use Rattle.std.specs.Int.Bits.{bit_and}
use Rattle.icn_value.proofs.cset.Cset.both.Given as goal

-- the words before the place are met, and those from it on as they were
abbrev pub invariant-loop-place : goal.invariant-loop-place
invariant-loop-place l = record {
  bytes : length l.words ≡ 4;
  done : (k : ℕ) → k < l.place → slice_index l.words k ≡ bit_and (slice_index l.fn.self.words k) (slice_index l.other.words k);
  ahead : (k : ℕ) → l.place ≤ k → slice_index l.words k ≡ slice_index l.fn.self.words k;
}
