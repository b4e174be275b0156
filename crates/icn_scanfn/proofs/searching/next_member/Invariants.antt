use Rattle.std.proofs.Common.{◌≡◌, ◌-◌, ◌≤◌}
use Rattle.std.specs.List.{find, range_with_len}
use Rattle.icn_value.specs.Members.{contains, members_of}
use Rattle.icn_defs.specs.Scanning.{byte_behind}
use Rattle.icn_scanfn.proofs.searching.next_member.Given as goal

-- what the search finds, it finds from here on
abbrev pub invariant-loop-at : goal.invariant-loop-at
invariant-loop-at l = record {
  low : 1 ≤ l.at;
  goes_on : find (λ place. contains (members_of l.wanted) (byte_behind l.text place)) (range_with_len l.place (l.last - l.place))
      ≡ find (λ place. contains (members_of l.wanted) (byte_behind l.text place)) (range_with_len l.at (l.last - l.at));
}

abbrev pub decreases-loop-at : goal.decreases-loop-at
decreases-loop-at l = l.last - l.at
