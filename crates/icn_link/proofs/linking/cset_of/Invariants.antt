use Rattle.std.proofs.Common.{◌≡◌, drop, replicate}
use Rattle.icn_link.specs.Joined.{with_bits}
use Rattle.icn_link.proofs.linking.cset_of.Given as goal

abbrev pub invariant-loop-byte : goal.invariant-loop-byte
invariant-loop-byte l = with_bits l.words (drop l.byte-index l.members) ≡ with_bits (replicate 4 0) l.members
