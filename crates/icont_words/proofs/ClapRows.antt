-- What is seen in the rows after some pieces.
use Rattle.std.proofs.Common.{◌≡◌, ◌∙◌, ◌≤◌, ◌+◌, refl, sym, ap, subst, ℕ, ◌||◌, Bool, true, false, true≢false, not, cond, List, [], ◌∷◌, ◌++◌, length, codes, Option, None, Some, is_some, option_map, find, arith, append_assoc}
use Rattle.std.proofs.lemmas.Bool.{and_from, and_parts}
use Rattle.std.proofs.lemmas.Slice.Eq.{bytes_eq-Decides}
use Rattle.std.specs.Str.{bytes_eq}
use Rattle.clap.specs.Walk.{Row, Text, has_row, with_values, without}
use Rattle.clap.specs.declared.builder.value_parser.Reading.{Reading}
use Rattle.clap.specs.declared.builder.value_parser.Reading.TheVariants.{AsWritten}
use Rattle.clap.specs.declared.parser.matches.ValueSource.{ValueSource}
use Rattle.clap.specs.declared.parser.matches.ValueSource.TheVariants.{CommandLine}
use Rattle.icont_words.specs.Words.{Letter, Image, Turns, Number, Piece, Units, Valued, Named, values, names_said}
use Rattle.icont_words.proofs.ClapCommand.{letter_id, same_option}
use Rattle.icont_words.proofs.Uses.{with_use, with_uses, is_new, all_new}

-- how the values of a row are read, and the values
abbrev pub Sight : Type 0
Sight = Option (Reading × List Text)

abbrev pub has_id : Text → Row → Bool
has_id id r = bytes_eq r.id id

abbrev pub sight : Row → Reading × List Text
sight r = (r.reading, r.values)

abbrev pub seen : Text → List Row → Sight
seen id rows = option_map sight (find (has_id id) rows)

-- with more values
abbrev pub more_seen : Sight → List Text → Sight
more_seen None more = Some (AsWritten, more)
more_seen (Some p) more = Some (p.0, p.1 ++ more)

-- Rows of other arguments stay

id_apart : (a b c : Text) → bytes_eq a b ≡ true → bytes_eq b c ≡ false → bytes_eq a c ≡ false
id_apart a b c same other = ap (λ x. bytes_eq x c) ((bytes_eq-Decides a b).0 same) ∙ other

same_id : (a : Text) → bytes_eq a a ≡ true
same_id a = (bytes_eq-Decides a a).1 refl

module _ (q id : Text) (other : bytes_eq q id ≡ false) where
  without_by : (r : Row) (rows : List Row) (t : Bool) → bytes_eq r.id q ≡ t
      → find (has_id id) (without q rows) ≡ find (has_id id) rows
      → find (has_id id) (without q (r ∷ rows)) ≡ find (has_id id) (r ∷ rows)
  without_by r rows true e behind =
      ap (λ t. find (has_id id) (cond t rows (r ∷ without q rows))) e
      ∙ sym (ap (λ t. cond t (Some r) (find (has_id id) rows)) (id_apart r.id q id e other))
  without_by r rows false e behind =
      ap (λ t. find (has_id id) (cond t rows (r ∷ without q rows))) e ∙ ap (λ o. cond (bytes_eq r.id id) (Some r) o) behind

  pub without_other : (rows : List Row) → find (has_id id) (without q rows) ≡ find (has_id id) rows
  without_other [] = refl
  without_other (r ∷ rows) = without_by r rows (bytes_eq r.id q) refl (without_other rows)

  module _ (how : Reading) (source : ValueSource) (more : List Text) where
    with_by : (r : Row) (rows : List Row) (t : Bool) → bytes_eq r.id q ≡ t
        → find (has_id id) (with_values q how source more rows) ≡ find (has_id id) rows
        → find (has_id id) (with_values q how source more (r ∷ rows)) ≡ find (has_id id) (r ∷ rows)
    with_by r rows true e behind =
        let apart = id_apart r.id q id e other in
        rw e (rw apart refl)
    with_by r rows false e behind = rw e (ap (λ o. cond (bytes_eq r.id id) (Some r) o) behind)

    pub with_other : (rows : List Row) → find (has_id id) (with_values q how source more rows) ≡ find (has_id id) rows
    with_other [] = rw other refl
    with_other (r ∷ rows) = with_by r rows (bytes_eq r.id q) refl (with_other rows)

-- The row of an argument gets more values

module _ (q : Text) (source : ValueSource) (more : List Text) where
  same_by : (r : Row) (rows : List Row) (t : Bool) → bytes_eq r.id q ≡ t
      → seen q (with_values q AsWritten source more rows) ≡ more_seen (seen q rows) more
      → seen q (with_values q AsWritten source more (r ∷ rows)) ≡ more_seen (seen q (r ∷ rows)) more
  same_by r rows true e behind = rw e (rw e refl)
  same_by r rows false e behind = rw e (rw e behind)

  pub with_same : (rows : List Row) → seen q (with_values q AsWritten source more rows) ≡ more_seen (seen q rows) more
  with_same [] = rw (same_id q) refl
  with_same (r ∷ rows) = same_by r rows (bytes_eq r.id q) refl (with_same rows)

pub has_seen : (id : Text) (rows : List Row) → has_row id rows ≡ is_some (seen id rows)
has_seen id [] = refl
has_seen id (r ∷ rows) = by (bytes_eq r.id id) (has_seen id rows) where
  by : (t : Bool) → has_row id rows ≡ is_some (seen id rows)
      → (t || has_row id rows) ≡ is_some (option_map sight (cond t (Some r) (find (has_id id) rows)))
  by true behind = refl
  by false behind = behind

without_none : (q : Text) (rows : List Row) → has_row q rows ≡ false → without q rows ≡ rows
without_none q [] absent = refl
without_none q (r ∷ rows) absent = by (bytes_eq r.id q) (without_none q rows) absent where
  by : (t : Bool) → (has_row q rows ≡ false → without q rows ≡ rows) → (t || has_row q rows) ≡ false
      → cond t rows (r ∷ without q rows) ≡ r ∷ rows
  by true behind h = absurd (true≢false h)
  by false behind h = ap (λ rs. r ∷ rs) (behind h)

-- A piece

abbrev pub piece_id : Piece → Text
piece_id Units = codes "units"
piece_id (Valued letter value) = letter_id letter
piece_id (Named name) = codes "file"

abbrev pub piece_value : Piece → Text
piece_value Units = codes "true"
piece_value (Valued letter value) = value
piece_value (Named name) = name

absent_by : (t : Bool) → not t ≡ true → t ≡ false
absent_by true h = absurd (true≢false (sym h))
absent_by false h = refl

set_seen : (q : Text) (value : Text) (rows : List Row) → has_row q rows ≡ false
    → seen q (with_values q AsWritten CommandLine (value ∷ []) (without q rows)) ≡ more_seen (seen q rows) (value ∷ [])
set_seen q value rows absent =
    ap (λ rs. seen q (with_values q AsWritten CommandLine (value ∷ []) rs)) (without_none q rows absent)
    ∙ with_same q CommandLine (value ∷ []) rows

piece_same : (piece : Piece) (rows : List Row) → is_new piece rows ≡ true
    → seen (piece_id piece) (with_use piece rows) ≡ more_seen (seen (piece_id piece) rows) (piece_value piece ∷ [])
piece_same Units rows new = set_seen (codes "units") (codes "true") rows (absent_by (has_row (codes "units") rows) new)
piece_same (Valued letter value) rows new =
    set_seen (letter_id letter) value rows (absent_by (has_row (letter_id letter) rows) new)
piece_same (Named name) rows new = with_same (codes "file") CommandLine (name ∷ []) rows

set_other : (q id : Text) (value : Text) (rows : List Row) → bytes_eq q id ≡ false
    → seen id (with_values q AsWritten CommandLine (value ∷ []) (without q rows)) ≡ seen id rows
set_other q id value rows other =
    ap (option_map sight) (with_other q id other AsWritten CommandLine (value ∷ []) (without q rows)
    ∙ without_other q id other rows)

piece_other : (piece : Piece) (rows : List Row) (id : Text) → bytes_eq (piece_id piece) id ≡ false
    → seen id (with_use piece rows) ≡ seen id rows
piece_other Units rows id other = set_other (codes "units") id (codes "true") rows other
piece_other (Valued letter value) rows id other = set_other (letter_id letter) id value rows other
piece_other (Named name) rows id other =
    ap (option_map sight) (with_other (codes "file") id other AsWritten CommandLine (name ∷ []) rows)

-- All pieces

-- the values that the pieces give an argument
abbrev pub told : Text → List Piece → List Text
told id [] = []
told id (piece ∷ pieces) = cond (bytes_eq (piece_id piece) id) (piece_value piece ∷ told id pieces) (told id pieces)

abbrev pub grown : Sight → List Text → Sight
grown before [] = before
grown None (value ∷ more) = Some (AsWritten, value ∷ more)
grown (Some p) (value ∷ more) = Some (p.0, p.1 ++ value ∷ more)

grown_more : (before : Sight) (value : Text) (more : List Text)
    → grown (more_seen before (value ∷ [])) more ≡ grown before (value ∷ more)
grown_more None value [] = refl
grown_more None value (other ∷ more) = refl
grown_more (Some p) value [] = refl
grown_more (Some p) value (other ∷ more) = ap (λ (vs : List Text). Some (p.0, vs)) (append_assoc p.1 (value ∷ []) (other ∷ more))

grown_by : (piece : Piece) (pieces : List Piece) (rows : List Row) (id : Text) (t : Bool) → bytes_eq (piece_id piece) id ≡ t
    → is_new piece rows ≡ true
    → grown (seen id (with_use piece rows)) (told id pieces)
    ≡ grown (seen id rows) (cond t (piece_value piece ∷ told id pieces) (told id pieces))
grown_by piece pieces rows id true e new =
    let is = (bytes_eq-Decides (piece_id piece) id).0 e in
    subst (λ (x : Text). grown (seen x (with_use piece rows)) (told id pieces)
    ≡ grown (seen x rows) (piece_value piece ∷ told id pieces)) is
    (ap (λ s. grown s (told id pieces)) (piece_same piece rows new)
    ∙ grown_more (seen (piece_id piece) rows) (piece_value piece) (told id pieces))
grown_by piece pieces rows id false e new = ap (λ s. grown s (told id pieces)) (piece_other piece rows id e)

pub seen_uses : (pieces : List Piece) (rows : List Row) (id : Text) → all_new pieces rows ≡ true
    → seen id (with_uses pieces rows) ≡ grown (seen id rows) (told id pieces)
seen_uses [] rows id new = refl
seen_uses (piece ∷ pieces) rows id new =
    let parts = and_parts (is_new piece rows) (all_new pieces (with_use piece rows)) new in
    seen_uses pieces (with_use piece rows) id parts.1 ∙ grown_by piece pieces rows id (bytes_eq (piece_id piece) id) refl parts.0

-- The flag and each option are used once

abbrev pub count : Bool → ℕ
count true = 1
count false = 0

at_most_one : (t : Bool) → count t ≤ 1
at_most_one true = omega arith
at_most_one false = omega arith

abbrev pub uses_of : Text → List Row → List Piece → ℕ
uses_of id rows pieces = count (has_row id rows) + length (told id pieces)

present : (s : Sight) (value : Text) → is_some (more_seen s (value ∷ [])) ≡ true
present None value = refl
present (Some p) value = refl

use_there : (piece : Piece) (rows : List Row) (id : Text) → is_new piece rows ≡ true → bytes_eq (piece_id piece) id ≡ true
    → has_row id (with_use piece rows) ≡ true
use_there piece rows id new e =
    let is = (bytes_eq-Decides (piece_id piece) id).0 e in
    subst (λ (x : Text). has_row x (with_use piece rows) ≡ true) is
    (has_seen (piece_id piece) (with_use piece rows)
    ∙ (ap is_some (piece_same piece rows new) ∙ present (seen (piece_id piece) rows) (piece_value piece)))

use_else : (piece : Piece) (rows : List Row) (id : Text) → bytes_eq (piece_id piece) id ≡ false
    → has_row id (with_use piece rows) ≡ has_row id rows
use_else piece rows id e = has_seen id (with_use piece rows) ∙ (ap is_some (piece_other piece rows id e) ∙ sym (has_seen id rows))

absent : (piece : Piece) (rows : List Row) (id : Text) → is_new piece rows ≡ true → bytes_eq (piece_id piece) id ≡ true
    → bytes_eq (codes "file") id ≡ false
    → has_row id rows ≡ false
absent Units rows id new e no_file =
    subst (λ (x : Text). has_row x rows ≡ false) ((bytes_eq-Decides (codes "units") id).0 e)
    (absent_by (has_row (codes "units") rows) new)
absent (Valued letter value) rows id new e no_file =
    subst (λ (x : Text). has_row x rows ≡ false) ((bytes_eq-Decides (letter_id letter) id).0 e)
    (absent_by (has_row (letter_id letter) rows) new)
absent (Named name) rows id new e no_file = absurd (true≢false (sym e ∙ no_file))

once_by : (piece : Piece) (pieces : List Piece) (rows : List Row) (id : Text) (t : Bool) → bytes_eq (piece_id piece) id ≡ t
    → is_new piece rows ≡ true
    → bytes_eq (codes "file") id ≡ false → uses_of id (with_use piece rows) pieces ≤ 1
    → count (has_row id rows) + length (cond t (piece_value piece ∷ told id pieces) (told id pieces)) ≤ 1
once_by piece pieces rows id true e new no_file behind =
    omega (arith, behind, ap count (use_there piece rows id new e), ap count (absent piece rows id new e no_file))
once_by piece pieces rows id false e new no_file behind = omega (arith, behind, ap count (use_else piece rows id e))

pub used_once : (pieces : List Piece) (rows : List Row) (id : Text) → all_new pieces rows ≡ true → bytes_eq (codes "file") id ≡ false
    → uses_of id rows pieces ≤ 1
used_once [] rows id new no_file = omega (arith, at_most_one (has_row id rows))
used_once (piece ∷ pieces) rows id new no_file =
    let parts = and_parts (is_new piece rows) (all_new pieces (with_use piece rows)) new in
    once_by piece pieces rows id (bytes_eq (piece_id piece) id) refl parts.0 no_file
    (used_once pieces (with_use piece rows) id parts.1 no_file)

-- there is room for what the pieces use
pub record Room (rows : List Row) (pieces : List Piece) : Type 0 where
  pub units : uses_of (codes "units") rows pieces ≤ 1
  pub options : (letter : Letter) → uses_of (letter_id letter) rows pieces ≤ 1

new_by : (t : Bool) (n : ℕ) → count t + (n + 1) ≤ 1 → not t ≡ true
new_by true n room = absurd (omega (arith, room))
new_by false n room = refl

new_option : (letter : Letter) (value : Text) (pieces : List Piece) (rows : List Row) (t : Bool) → t ≡ true
    → count (has_row (letter_id letter) rows) + length
    (cond t (value ∷ told (letter_id letter) pieces) (told (letter_id letter) pieces)) ≤ 1
    → not (has_row (letter_id letter) rows) ≡ true
new_option letter value pieces rows true e room =
    new_by (has_row (letter_id letter) rows) (length (told (letter_id letter) pieces)) (omega (arith, room))
new_option letter value pieces rows false e room = absurd (true≢false (sym e))

new_piece : (piece : Piece) (pieces : List Piece) (rows : List Row) → Room rows (piece ∷ pieces) → is_new piece rows ≡ true
new_piece Units pieces rows room =
    new_by (has_row (codes "units") rows) (length (told (codes "units") pieces)) (omega (arith, room.units))
new_piece (Valued letter value) pieces rows room =
    new_option letter value pieces rows (bytes_eq (letter_id letter) (letter_id letter)) (same_option letter)
    (room.options letter)
new_piece (Named name) pieces rows room = refl

left_by : (piece : Piece) (pieces : List Piece) (rows : List Row) (id : Text) (t : Bool) → bytes_eq (piece_id piece) id ≡ t
    → is_new piece rows ≡ true
    → count (has_row id rows) + length (cond t (piece_value piece ∷ told id pieces) (told id pieces)) ≤ 1
    → uses_of id (with_use piece rows) pieces ≤ 1
left_by piece pieces rows id true e new room = omega (arith, room, ap count (use_there piece rows id new e))
left_by piece pieces rows id false e new room = omega (arith, room, ap count (use_else piece rows id e))

left : (piece : Piece) (pieces : List Piece) (rows : List Row) → Room rows (piece ∷ pieces) → is_new piece rows ≡ true
    → Room (with_use piece rows) pieces
left piece pieces rows room new = record {
  units = left_by piece pieces rows (codes "units") (bytes_eq (piece_id piece) (codes "units")) refl new room.units;
  options =
      λ letter. left_by piece pieces rows (letter_id letter) (bytes_eq (piece_id piece) (letter_id letter)) refl new
      (room.options letter);
}

pub new_from : (pieces : List Piece) (rows : List Row) → Room rows pieces → all_new pieces rows ≡ true
new_from [] rows room = refl
new_from (piece ∷ pieces) rows room =
    let new = new_piece piece pieces rows room in
    and_from (is_new piece rows) (all_new pieces (with_use piece rows)) new
    (new_from pieces (with_use piece rows) (left piece pieces rows room new))

-- What is told of each argument

pub names_told : (pieces : List Piece) → told (codes "file") pieces ≡ names_said pieces
names_told [] = refl
names_told (Units ∷ pieces) = names_told pieces
names_told (Valued Image value ∷ pieces) = names_told pieces
names_told (Valued Turns value ∷ pieces) = names_told pieces
names_told (Valued Number value ∷ pieces) = names_told pieces
names_told (Named name ∷ pieces) = ap (λ names. name ∷ names) (names_told pieces)

value_told : (letter other : Letter) (value : Text) (pieces : List Piece) → told (letter_id letter) pieces ≡ values letter pieces
    → told (letter_id letter) (Valued other value ∷ pieces) ≡ values letter (Valued other value ∷ pieces)
value_told Image Image value pieces behind = ap (λ vs. value ∷ vs) behind
value_told Image Turns value pieces behind = behind
value_told Image Number value pieces behind = behind
value_told Turns Image value pieces behind = behind
value_told Turns Turns value pieces behind = ap (λ vs. value ∷ vs) behind
value_told Turns Number value pieces behind = behind
value_told Number Image value pieces behind = behind
value_told Number Turns value pieces behind = behind
value_told Number Number value pieces behind = ap (λ vs. value ∷ vs) behind

no_units : (letter : Letter) → bytes_eq (codes "units") (letter_id letter) ≡ false
no_units Image = refl
no_units Turns = refl
no_units Number = refl

pub no_file : (letter : Letter) → bytes_eq (codes "file") (letter_id letter) ≡ false
no_file Image = refl
no_file Turns = refl
no_file Number = refl

pub no_letter : (letter : Letter) → bytes_eq (letter_id letter) (codes "units") ≡ false
no_letter Image = refl
no_letter Turns = refl
no_letter Number = refl

pub values_told : (letter : Letter) (pieces : List Piece) → told (letter_id letter) pieces ≡ values letter pieces
values_told letter [] = refl
values_told letter (Units ∷ pieces) =
    ap (λ t. cond t (codes "true" ∷ told (letter_id letter) pieces) (told (letter_id letter) pieces)) (no_units letter)
    ∙ values_told letter pieces
values_told letter (Valued other value ∷ pieces) = value_told letter other value pieces (values_told letter pieces)
values_told letter (Named name ∷ pieces) =
    ap (λ t. cond t (name ∷ told (letter_id letter) pieces) (told (letter_id letter) pieces)) (no_file letter)
    ∙ values_told letter pieces
