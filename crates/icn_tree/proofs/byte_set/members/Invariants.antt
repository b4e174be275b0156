use Rattle.std.proofs.Common.{◌≡◌}
use Rattle.icn_tree.specs.ByteSets.{members_below}
use Rattle.icn_tree.proofs.byte_set.members.Given as goal

abbrev pub invariant-loop-byte : goal.invariant-loop-byte
invariant-loop-byte l = l.members.items ≡ members_below l.byte l.bytes
