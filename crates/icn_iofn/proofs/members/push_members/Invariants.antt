use Rattle.std.proofs.Common.{◌≡◌, ◌++◌}
use Rattle.icn_value.specs.Csets.{members_below}
use Rattle.icn_iofn.proofs.members.push_members.Given as goal

-- the members below the byte were appended
abbrev pub invariant-loop-byte : goal.invariant-loop-byte
invariant-loop-byte l = l.buffer.items ≡ l.initial.buffer.items ++ members_below l.cset l.byte
