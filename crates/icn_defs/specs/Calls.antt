-- How a contract says what a call did that stands for a part of a row: it speaks of all that may follow in
-- the row.
use Rattle.std.specs.Prelude.{◌≡◌}
use Rattle.icn_value.specs.Store.{Setting}
use Rattle.icn_defs.specs.Rows.{Row, Finds, Outcome}

-- this thing is found, and it goes on in this setting
abbrev pub GoesOn : {A : Type 0} → Finds A → Setting → A → Setting → Type 0
GoesOn find before thing after = (next : _ → Row) → find next before ≡ next thing after

-- nothing is found, and it comes to this outcome
abbrev pub ComesTo : {A : Type 0} → Finds A → Setting → Outcome → Type 0
ComesTo find before outcome = (next : _ → Row) → find next before ≡ outcome

-- a check or a change is passed, and it goes on in this setting
abbrev pub Passes : (Row → Row) → Setting → Setting → Type 0
Passes part before after = (next : Row) → part next before ≡ next after

-- it is not passed, and it comes to this outcome
abbrev pub Halts : (Row → Row) → Setting → Outcome → Type 0
Halts part before outcome = (next : Row) → part next before ≡ outcome
