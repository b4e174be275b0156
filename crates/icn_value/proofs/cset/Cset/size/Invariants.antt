use Rattle.std.proofs.Common.{◌≡◌, ◌≤◌, length}
use Rattle.icn_value.specs.Csets.{members_below}
use Rattle.icn_value.proofs.cset.Cset.size.Given as goal

-- the members below the byte are counted
abbrev pub invariant-loop-byte : goal.invariant-loop-byte
invariant-loop-byte l = record { count : l.count ≡ length (members_below l.self l.byte); small : l.count ≤ l.byte }
