-- Where strings lie.
use Rattle.std.specs.Prelude.{ℕ, ◌+◌, ◌≤◌, List}
use Rattle.std.specs.List.{sum_by}
use Rattle.icn_strings.specs.declared.byte_range.ByteRange.{ByteRange}

-- the one range lies within the other
pub record IsPart (part whole : ByteRange) : Type 0 where
  pub from : whole.start ≤ part.start
  pub to : part.start + part.len ≤ whole.start + whole.len

-- how many bytes some ranges name, each counted for itself
abbrev pub total_length : List ByteRange → ℕ
total_length ranges = sum_by (λ (range : ByteRange). range.len) ranges
