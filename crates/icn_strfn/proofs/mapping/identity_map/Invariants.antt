use Rattle.std.proofs.Common.{◌≡◌, ℕ, ◌<◌, length, get_or}
use Rattle.icn_strfn.proofs.mapping.identity_map.Given as goal

-- the bytes so far stand at their places
abbrev pub invariant-loop-byte : goal.invariant-loop-byte
invariant-loop-byte l = record { long : length l.bytes ≡ 256; placed : (k : ℕ) → k < l.byte → get_or l.bytes k 0 ≡ k }
