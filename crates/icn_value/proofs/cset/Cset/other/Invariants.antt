use Rattle.std.proofs.Common.{◌≡◌, ℕ, ◌<◌, ◌≤◌, ◌^◌, length, slice_index, w64}
use Rattle.std.specs.Int.{bit_not}
use Rattle.icn_value.proofs.cset.Cset.other.Given as goal

-- the words before the place are turned, and those from it on as they were
abbrev pub invariant-loop-place : goal.invariant-loop-place
invariant-loop-place l = record {
  bytes : length l.words ≡ 4;
  small : (k : ℕ) → k < l.place → slice_index l.fn.self.words k < 2 ^ 64;
  done : (k : ℕ) → k < l.place → slice_index l.words k ≡ bit_not w64 (slice_index l.fn.self.words k);
  ahead : (k : ℕ) → l.place ≤ k → slice_index l.words k ≡ slice_index l.fn.self.words k;
}
