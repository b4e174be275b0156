use Rattle.std.proofs.Common.{◌≡◌, ◌+◌, ◌≤◌, length, take}
use Rattle.std.specs.List.{suffix_len}
use Rattle.icn_value.specs.Members.{contains, members_of}
use Rattle.icn_strfn.proofs.trimming.trimmed_len.Given as goal

-- what was taken away is the end, as far as it was looked at
abbrev pub invariant-loop-len : goal.invariant-loop-len
invariant-loop-len l = record {
  within : l.len ≤ length l.text;
  goes_on : l.len + suffix_len (contains (members_of l.bytes)) l.text ≡ length l.text + suffix_len (contains (members_of l.bytes)) (take l.len l.text);
}

abbrev pub decreases-loop-len : goal.decreases-loop-len
decreases-loop-len l = l.len
