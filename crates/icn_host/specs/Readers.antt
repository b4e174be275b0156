-- How far a loop has read.
use Rattle.std.specs.Prelude.{◌≡◌, ℕ, ◌+◌, ◌-◌, List, ◌++◌, length, take, Option, IfSome}
use Rattle.std.specs.List.{slice_range, position_or_len}
use Rattle.icn_host.specs.Sources.{is_newline}
use Rattle.icn_host.specs.declared.input.Ahead.{Ahead}
use Rattle.icn_host.specs.declared.input.StdSource.{StdSource}
use Rattle.std.specs.Io.KnownBytes.{Consumes, prepend_known}

-- the reader gave some bytes, and the first of them, up to so many, were appended, with room for so many more
pub record HasRead (before after : Option (List ℕ)) (had has : List ℕ) (most room : ℕ) : Type 0 where
  pub given : List ℕ
  pub consumes : Consumes before after given
  pub appended : has ≡ had ++ take most given
  pub left : room ≡ most - length given

-- the first bytes that a reader has left, up to so many, were appended, where it tells them
abbrev pub ReadsFirst : Option (List ℕ) → ℕ → List ℕ → List ℕ → Type 0
ReadsFirst before count had has = IfSome before (λ bytes. has ≡ had ++ take count bytes)

-- a part of them was appended
abbrev pub ReadsFirstPart : Option (List ℕ) → ℕ → List ℕ → List ℕ → Type 0
ReadsFirstPart before count had has = IfSome before (λ bytes. (n : ℕ) × (has ≡ had ++ take n (take count bytes)))

-- what is left of some bytes, from one place up to another, and of the reader behind them
abbrev pub left_of : List ℕ → ℕ → ℕ → Option (List ℕ) → Option (List ℕ)
left_of bytes at end behind = prepend_known (slice_range bytes at end) behind

-- what is left of a reader that reads ahead: what it has read and not given, and what is left of the reader
-- behind
abbrev pub ahead_left : {R : Type 0} → (R → Option (List ℕ)) → Ahead R → Option (List ℕ)
ahead_left remaining ahead = left_of ahead.bytes ahead.at ahead.end (remaining ahead.reader)

-- what a source has left over a reader that tells it
abbrev pub source_left : {R : Type 0} → (R → Option (List ℕ)) → StdSource R → Option (List ℕ)
source_left remaining source = ahead_left remaining source.ahead

-- some bytes were taken and appended, with room for so many more
pub record HasTaken (before after : Option (List ℕ)) (had has : List ℕ) (most room : ℕ) : Type 0 where
  pub given : List ℕ
  pub consumes : Consumes before after given
  pub appended : has ≡ had ++ given
  pub counted : length given + room ≡ most

-- a part of a line was taken and appended, and its end was not seen
pub record HasLinePart (before after : Option (List ℕ)) (had has : List ℕ) (most room : ℕ) : Type 0 where
  pub taken : HasTaken before after had has most room
  pub clean : position_or_len is_newline taken.given ≡ length taken.given
