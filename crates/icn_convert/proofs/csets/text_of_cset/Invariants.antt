use Rattle.std.proofs.Common.{◌≡◌, ◌≤◌, length, take}
use Rattle.icn_value.specs.Csets.{members_below}
use Rattle.icn_convert.proofs.csets.text_of_cset.Given as goal

-- the members below the byte stand in front
abbrev pub invariant-loop-byte : goal.invariant-loop-byte
invariant-loop-byte l = record { front : take l.len l.bytes ≡ members_below l.cset l.byte; small : l.len ≤ l.byte; room : length l.bytes ≡ 256 }
