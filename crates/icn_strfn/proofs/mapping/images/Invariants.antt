use Rattle.std.proofs.Common.{◌≡◌, ℕ, ◌<◌, length, get_or, drop, fold}
use Rattle.std.specs.List.{zip}
use Rattle.icn_defs.specs.Strings.{map_byte}
use Rattle.icn_strfn.proofs.MappedBytes.{becomes}
use Rattle.icn_strfn.proofs.mapping.images.Given as goal

-- with the pairs that are left, each byte becomes what it is to become
abbrev pub invariant-loop-byte : goal.invariant-loop-byte
invariant-loop-byte l = record {
  long : length l.images ≡ 256;
  goes_on : (byte : ℕ) → byte < 256
      → fold (becomes byte) (get_or l.images byte 0) (zip (drop (length l.yielded) l.from) (drop (length l.yielded) l.to)) ≡ map_byte l.from l.to byte;
}
