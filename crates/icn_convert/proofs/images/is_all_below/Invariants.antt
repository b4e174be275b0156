use Rattle.std.proofs.Common.{◌≡◌, ℕ, ◌<◌, get_or}
use Rattle.icn_convert.proofs.images.is_all_below.Given as goal

-- each byte so far is that of its place
abbrev pub invariant-loop-place : goal.invariant-loop-place
invariant-loop-place l = (k : ℕ) → k < l.place → get_or l.bytes k 0 ≡ k
