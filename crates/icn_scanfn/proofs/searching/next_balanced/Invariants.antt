use Rattle.std.proofs.Common.{◌≡◌, ◌-◌, ◌≤◌}
use Rattle.icn_value.specs.Members.{members_of}
use Rattle.icn_defs.specs.Scanning.{balanced_position, between}
use Rattle.icn_scanfn.proofs.searching.next_balanced.Given as goal

-- what the search finds, it finds from here on with this count
abbrev pub invariant-loop-at : goal.invariant-loop-at
invariant-loop-at l = record {
  low : 1 ≤ l.at;
  few : l.depth ≤ l.at;
  goes_on : balanced_position (members_of l.wanted) (members_of l.opening) (members_of l.closing) (between l.text l.place l.last) l.place l.count
      ≡ balanced_position (members_of l.wanted) (members_of l.opening) (members_of l.closing) (between l.text l.at l.last) l.at l.depth;
}

abbrev pub decreases-loop-at : goal.decreases-loop-at
decreases-loop-at l = l.last - l.at
