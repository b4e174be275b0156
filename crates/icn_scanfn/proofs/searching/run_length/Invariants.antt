use Rattle.std.proofs.Common.{◌≡◌, ◌+◌, ◌-◌, ◌≤◌}
use Rattle.std.specs.List.{prefix_len}
use Rattle.icn_value.specs.Members.{contains, members_of}
use Rattle.icn_defs.specs.Scanning.{between}
use Rattle.icn_scanfn.proofs.searching.run_length.Given as goal

-- all bytes so far are of the cset
abbrev pub invariant-loop-at : goal.invariant-loop-at
invariant-loop-at l = record {
  low : l.from ≤ l.at;
  high : l.at ≤ l.to;
  goes_on : prefix_len (contains (members_of l.wanted)) (between l.text l.from l.to)
      ≡ (l.at - l.from) + prefix_len (contains (members_of l.wanted)) (between l.text l.at l.to);
}

abbrev pub decreases-loop-at : goal.decreases-loop-at
decreases-loop-at l = l.to - l.at
