-- What `clap` finds in the words is what they say.
use Rattle.std.proofs.Common.{suc, subst, is_some, ◌⊎◌, inl, inr, suc-ne-zero, ◌≡◌, ◌≢◌, ◌∙◌, ◌≤◌, ◌+◌, refl, sym, ap, ap₂, ℕ, ◌==◌, ◌&&◌, ◌||◌, Bool, true, false, true≢false, not, cond, List, [], ◌∷◌, map, length, codes, drop, Option, None, Some, option_map, option_and_then, find, fold, slice_get, string_bytes, String, arith}
use Rattle.std.specs.Prelude.{⊤}
use Rattle.std.proofs.lemmas.Bool.{and_parts, eqb-true}
use Rattle.std.proofs.lemmas.List.{length-map}
use Rattle.std.proofs.lemmas.Str.{IsUtf8-string_bytes}
use Rattle.std.specs.Str.{bytes_eq}
use Rattle.clap.specs.Lexer.{usize_max}
use Rattle.clap.specs.Walk.{Row, Rule, Text, Walk, all_of, finished, first_of, has_row, idle, nothing_held, one_of, row_text, rows_after, rows_of, settled, walk, with_default, with_values}
use Rattle.clap.specs.Simple.{App, HasMatchesOf, matches_of, names_of}
use Rattle.clap.specs.Faults.{built_fault, check_fault, default_fault, defaults_fault, fault_of, is_simple_and_free, settle_fault, walk_fault}
use Rattle.clap.specs.Kinds.{IsAmong, Kinds, or_else}
use Rattle.clap.specs.declared.error.kind.ErrorKind.{ErrorKind}
use Rattle.clap.specs.declared.error.kind.ErrorKind.TheVariants.{OutOfMemory}
use Rattle.clap.specs.Matches.{found_of}
use Rattle.clap.specs.Values.{read_as}
use Rattle.clap.specs.declared.builder.value_parser.Reading.{Reading}
use Rattle.clap.specs.declared.builder.value_parser.Reading.TheVariants.{AsWritten}
use Rattle.clap.specs.declared.parser.matches.ArgMatches.{ArgMatches}
use Rattle.clap.specs.declared.parser.matches.ValueSource.TheVariants.{DefaultValue}
use Rattle.clap.proofs.FaultLemmas.{leaf_fault}
use Rattle.icont_words.specs.Words.{Letter, Image, Turns, Number, Piece, Units, Valued, Named, AreSaidOnce, Says, first, has_units, is_units, own_words, values}
use Rattle.icont_words.specs.Command.{icont_app}
use Rattle.icont_words.specs.Matched.{AreMeant, Holds, values_found}
use Rattle.icont_words.proofs.LeftToRight.{Pieces, said_is_found, said_from, pieces_are_said}
use Rattle.icont_words.proofs.ClapCommand.{clap_command, app_built, is_free, letter_id, nothing_wanted, option_taken, rules_taken, command_shape, taken, taken_is, units_taken}
use Rattle.icont_words.proofs.Uses.{all_new, is_clear, clear_or, takes_said, with_uses}
use Rattle.icont_words.proofs.ClapRows.{Sight, grown, has_id, has_seen, more_seen, names_told, new_from, no_file, no_letter, seen, seen_uses, sight, told, used_once, values_told, with_other, with_same}
use Rattle.icont_words.proofs.ClapWalk.{Goes, and_true, end_clear, end_rows, stands}
use Rattle.icont_words.proofs.WholeWalk.{AreTexts, walk_goes}

-- Counting

units_from : (pieces : List Piece) (n : ℕ)
    → fold (λ m piece. m + cond (is_units piece) 1 0) n pieces ≡ n + length (told (codes "units") pieces)
units_from [] n = omega arith
units_from (Units ∷ pieces) n = omega (arith, units_from pieces (n + 1))
units_from (Valued letter value ∷ pieces) n =
    let other : length (told (codes "units") (Valued letter value ∷ pieces)) ≡ length (told (codes "units") pieces) =
    ap (λ t. length (cond t (value ∷ told (codes "units") pieces) (told (codes "units") pieces))) (no_letter letter) in
    omega (arith, units_from pieces (n + 0), other)
units_from (Named name ∷ pieces) n = omega (arith, units_from pieces (n + 0))

abbrev units_count : List Piece → ℕ
units_count pieces = fold (λ m piece. m + cond (is_units piece) 1 0) 0 pieces

units_told : (pieces : List Piece) → units_count pieces ≡ length (told (codes "units") pieces)
units_told pieces = omega (arith, units_from pieces 0)

pub once : (pieces : List Piece) → all_new pieces [] ≡ true → AreSaidOnce pieces
once pieces new = record {
  units = omega (arith, units_told pieces, used_once pieces [] (codes "units") new refl);
  options =
      λ letter. omega (arith, used_once pieces [] (letter_id letter) new (no_file letter), ap length (values_told letter pieces));
}

pub all_new_from : (pieces : List Piece) → AreSaidOnce pieces → all_new pieces [] ≡ true
all_new_from pieces once = new_from pieces [] (record {
  units = omega (arith, units_told pieces, once.units);
  options = λ letter. omega (arith, once.options letter, ap length (values_told letter pieces));
})

-- Defaults

same_both : {A : Type 0} (t : Bool) (a : A) → cond t a a ≡ a
same_both true a = refl
same_both false a = refl

abbrev with_flag : List Row → List Row
with_flag rows = with_default rows units_taken

no_default : (rows : List Row) (letter : Letter) → with_default rows (option_taken letter) ≡ rows
no_default rows letter = same_both (has_row (letter_id letter) rows) rows

finished_is : (rows : List Row) → fold with_default rows taken ≡ with_flag rows
finished_is rows =
    let image = with_default (with_flag rows) (option_taken Image) in
    let turns = with_default image (option_taken Turns) in
    let number = with_default turns (option_taken Number) in
    ap (fold with_default rows) taken_is
    ∙ (same_both (has_row (codes "file") number) number
    ∙ (no_default turns Number ∙ (no_default image Turns ∙ no_default (with_flag rows) Image)))

flag_other : (rows : List Row) (id : Text) → bytes_eq (codes "units") id ≡ false → seen id (with_flag rows) ≡ seen id rows
flag_other rows id other = by (has_row (codes "units") rows) where
  by : (t : Bool)
      → seen id (cond t rows (with_values (codes "units") AsWritten DefaultValue (codes "false" ∷ []) rows)) ≡ seen id rows
  by true = refl
  by false = ap (option_map sight) (with_other (codes "units") id other AsWritten DefaultValue (codes "false" ∷ []) rows)

abbrev with_false : Sight → Sight
with_false None = Some (AsWritten, codes "false" ∷ [])
with_false (Some p) = Some p

flag_seen : (rows : List Row) → seen (codes "units") (with_flag rows) ≡ with_false (seen (codes "units") rows)
flag_seen rows = by (seen (codes "units") rows) refl where
  by : (s : Sight) → seen (codes "units") rows ≡ s → seen (codes "units") (with_flag rows) ≡ with_false s
  by None e =
      ap (λ t. seen (codes "units") (cond t rows (with_values (codes "units") AsWritten DefaultValue (codes "false" ∷ []) rows)))
      (has_seen (codes "units") rows ∙ ap (λ s. is_some s) e)
      ∙ (with_same (codes "units") DefaultValue (codes "false" ∷ []) rows ∙ ap (λ s. more_seen s (codes "false" ∷ [])) e)
  by (Some p) e =
      ap (λ t. seen (codes "units") (cond t rows (with_values (codes "units") AsWritten DefaultValue (codes "false" ∷ []) rows)))
      (has_seen (codes "units") rows ∙ ap (λ s. is_some s) e)
      ∙ e

-- Getters

one_seen : (id : Text) (rows : List Row)
    → one_of id rows ≡ option_and_then (λ (p : Reading × List Text). option_map (read_as p.0) (slice_get p.1 0)) (seen id rows)
one_seen id rows = by (find (has_id id) rows) where
  by : (o : Option Row)
      → option_and_then row_text o ≡ option_and_then (λ (p : Reading × List Text). option_map (read_as p.0) (slice_get p.1 0))
      (option_map sight o)
  by None = refl
  by (Some r) = refl

first_seen : (id : Text) (rows : List Row)
    → first_of id rows ≡ option_and_then (λ (p : Reading × List Text). slice_get p.1 0) (seen id rows)
first_seen id rows = by (find (has_id id) rows) where
  by : (o : Option Row)
      → option_and_then (λ (r : Row). slice_get r.values 0) o
      ≡ option_and_then (λ (p : Reading × List Text). slice_get p.1 0) (option_map sight o)
  by None = refl
  by (Some r) = refl

all_seen : (id : Text) (rows : List Row) → all_of id rows ≡ option_map (λ (p : Reading × List Text). p.1) (seen id rows)
all_seen id rows = by (find (has_id id) rows) where
  by : (o : Option Row)
      → option_map (λ (r : Row). r.values) o ≡ option_map (λ (p : Reading × List Text). p.1) (option_map sight o)
  by None = refl
  by (Some r) = refl

grown_first : (vs : List Text) → option_and_then (λ (p : Reading × List Text). slice_get p.1 0) (grown None vs) ≡ first vs
grown_first [] = refl
grown_first (v ∷ vs) = refl

grown_all : (vs : List Text) → option_map (λ (p : Reading × List Text). p.1) (grown None vs) ≡ values_found vs
grown_all [] = refl
grown_all (v ∷ vs) = refl

-- the value that `-c` tells is `true`

abbrev has_some : List Text → Bool
has_some [] = false
has_some (v ∷ vs) = true

abbrev TellsTrue : List Text → Type 0
TellsTrue vs = first vs ≡ cond (has_some vs) (Some (codes "true")) None

units_true : (pieces : List Piece) → TellsTrue (told (codes "units") pieces)
units_true [] = refl
units_true (Units ∷ pieces) = refl
units_true (Valued letter value ∷ pieces) =
    subst TellsTrue (sym (ap (λ t. cond t (value ∷ told (codes "units") pieces) (told (codes "units") pieces))
    (no_letter letter))) (units_true pieces)
units_true (Named name ∷ pieces) = units_true pieces

abbrev read_first : Sight → Option Text
read_first = option_and_then (λ (p : Reading × List Text). option_map (read_as p.0) (slice_get p.1 0))

flag_text : (vs : List Text) → TellsTrue vs
    → read_first (with_false (grown None vs)) ≡ Some (cond (has_some vs) (codes "true") (codes "false"))
flag_text [] h = refl
flag_text (v ∷ vs) h = h

no_zero : (n : ℕ) (t : Bool) → (suc n == 0) ≡ t → t ≡ false
no_zero n true e = absurd (suc-ne-zero n (eqb-true (suc n) 0 e))
no_zero n false e = refl

has_length : (vs : List Text) → not (length vs == 0) ≡ has_some vs
has_length [] = refl
has_length (v ∷ vs) = ap not (no_zero (length vs) (suc (length vs) == 0) refl)

units_there : (pieces : List Piece) → has_some (told (codes "units") pieces) ≡ has_units pieces
units_there pieces = sym (has_length (told (codes "units") pieces)) ∙ ap (λ n. not (n == 0)) (sym (units_told pieces))

option_held : (letter : Letter) (pieces : List Piece) → all_new pieces [] ≡ true
    → bytes_eq (codes "units") (letter_id letter) ≡ false
    → first_of (letter_id letter) (with_flag (with_uses pieces [])) ≡ first (values letter pieces)
option_held letter pieces new other =
    first_seen (letter_id letter) (with_flag (with_uses pieces []))
    ∙ (ap (option_and_then (λ (p : Reading × List Text). slice_get p.1 0))
    (flag_other (with_uses pieces []) (letter_id letter) other ∙ seen_uses pieces [] (letter_id letter) new)
    ∙ (grown_first (told (letter_id letter) pieces) ∙ ap first (values_told letter pieces)))

holds : (pieces : List Piece) → all_new pieces [] ≡ true → Holds (with_flag (with_uses pieces [])) pieces
holds pieces new =
    let rows = with_uses pieces [] in
    record {
      units = one_seen (codes "units") (with_flag rows)
          ∙ (ap read_first (flag_seen rows ∙ ap with_false (seen_uses pieces [] (codes "units") new))
          ∙ (flag_text (told (codes "units") pieces) (units_true pieces)
          ∙ ap (λ t. Some (cond t (codes "true") (codes "false"))) (units_there pieces)));
      image = option_held Image pieces new refl;
      turns = option_held Turns pieces new refl;
      number = option_held Number pieces new refl;
      names = all_seen (codes "file") (with_flag rows)
          ∙ (ap (option_map (λ (p : Reading × List Text). p.1))
          (flag_other rows (codes "file") refl ∙ seen_uses pieces [] (codes "file") new)
          ∙ (grown_all (told (codes "file") pieces) ∙ ap values_found (names_told pieces)));
    }

-- Faults

abbrev NoneOf : List Rule → Type 0
NoneOf [] = ⊤
NoneOf (a ∷ rules) = ((rows : List Row) → default_fault rows a ≡ []) × NoneOf rules

none_of : (rules : List Rule) → NoneOf rules → (rows : List Row) → defaults_fault rows rules ≡ []
unfolding defaults_fault
none_of [] h rows = refl
none_of (a ∷ rules) h rows = ap₂ or_else (h.0 rows) (none_of rules h.1 (with_default rows a))

abbrev empty : Kinds
empty = []

flag_default : (t : Bool) → cond (t || false) empty empty ≡ empty
flag_default true = refl
flag_default false = refl

no_text : (t : Bool) (kinds : Kinds) → cond (t || true) empty kinds ≡ empty
no_text true kinds = refl
no_text false kinds = refl

option_default : (letter : Letter) (rows : List Row) → default_fault rows (option_taken letter) ≡ []
option_default letter rows = no_text (has_row (letter_id letter) rows) []

no_defaults : (rows : List Row) → defaults_fault rows taken ≡ []
no_defaults rows =
    ap (defaults_fault rows) taken_is
    ∙ none_of rules_taken (
      λ rs. flag_default (has_row (codes "units") rs),
      (
        option_default Image,
        (
          option_default Turns,
          (
            option_default Number,
            (λ rs. no_text (has_row (codes "file") rs) [], tt),
          ),
        ),
      ),
    ) rows

abbrev start : Walk
start = stands false [] None idle

abbrev own : List Text → List Text
own words = drop 1 words

fault_is : (words : List Text) → is_clear (fault_of icont_app words) ≡ end_clear start (own words)
fault_is words =
    let end = (walk taken [] nothing_held (own words)).held in
    let settles = settle_fault taken false end in
    let walks = walk_fault command_shape [] start (own words) in
    ap (λ (a : App). is_clear (built_fault a nothing_held (own words))) app_built
    ∙ (ap is_clear (leaf_fault clap_command nothing_held (own words) refl)
    ∙ (clear_or walks (or_else settles (or_else (defaults_fault (settled taken end).rows taken)
    (check_fault command_shape (finished taken end) false)))
    ∙ ap (λ t. is_clear walks && t)
    (clear_or settles (or_else (defaults_fault (settled taken end).rows taken) (check_fault command_shape (finished taken end) false))
    ∙ (ap₂ (λ (a b : Kinds). is_clear settles && is_clear (or_else a b)) (no_defaults (settled taken end).rows)
    (nothing_wanted (finished taken end)) ∙ and_true (is_clear settles)))))

rows_are : (words : List Text) → matches_of icont_app words ≡ with_flag (end_rows start (own words))
rows_are words =
    ap (λ (a : App). rows_after a.top.rules (names_of a) (own words)) app_built ∙ finished_is (end_rows start (own words))

own_is : (words : List Text) → own words ≡ own_words words
own_is [] = refl
own_is (program ∷ words) = refl

-- Both ways

module _ (words : List Text) (texts : AreTexts (own words)) (room : length (own words) ≤ usize_max) where
  goes : Goes true start (own words) true (said_from (own words) None) []
  goes = walk_goes (own words) texts room

  taken_is_said : is_clear (fault_of icont_app words) ≡ takes_said (said_from (own words) None) []
  taken_is_said = fault_is words ∙ goes.clear_is

  found_by : (said : Pieces) → said_from (own words) None ≡ said → takes_said said [] ≡ true
      → (pieces : List Piece) × AreMeant words pieces × Holds (matches_of icont_app words) pieces
  found_by None e h = absurd (true≢false (sym h))
  found_by (Some pieces) e h = (
    pieces,
    record {
      said = subst (λ (ws : List Text). Says ws pieces) (own_is words) (pieces_are_said (own words) pieces e);
      once =
          once pieces h;
    },
    subst (λ (rows : List Row). Holds rows pieces) (sym (rows_are words ∙ ap with_flag (goes.rows_are pieces e)))
        (holds pieces h),
  )

  pub meant : fault_of icont_app words ≡ []
      → (pieces : List Piece) × AreMeant words pieces × Holds (matches_of icont_app words) pieces
  meant none = found_by (said_from (own words) None) refl (sym taken_is_said ∙ ap is_clear none)

  pub unmeant : is_clear (fault_of icont_app words) ≡ false → (pieces : List Piece) → AreMeant words pieces → ⊥
  unmeant fault pieces m =
      let said = said_is_found (own words) pieces (subst (λ (ws : List Text). Says ws pieces) (sym (own_is words)) m.said) in
      true≢false (sym (taken_is_said ∙ (ap (λ (o : Pieces). takes_said o []) said ∙ all_new_from pieces m.once)) ∙ fault)

-- The same of a parse

among : (k : ErrorKind) (kinds : Kinds) → IsAmong k kinds → is_clear kinds ≡ false
among k [] h = absurd h
among k (other ∷ kinds) h = refl

module _ {Z : Type 0} where
  own_texts : (words : List (String Z)) → AreTexts (map string_bytes words)
  own_texts [] = tt
  own_texts (word ∷ words) = (IsUtf8-string_bytes word, own_texts words)

  texts_behind : (words : List (String Z)) → AreTexts (own (map string_bytes words))
  texts_behind [] = tt
  texts_behind (program ∷ words) = own_texts words

  room_behind : (words : List (String Z)) → length words ≤ usize_max → length (own (map string_bytes words)) ≤ usize_max
  room_behind [] room = room
  room_behind (program ∷ words) room = omega (arith, room, length-map words (string_bytes {Z = Z}))

  module _ (a : App) (words : List (String Z)) (is : a ≡ icont_app) (room : length words ≤ usize_max) where
    pub matched : (m : ArgMatches) → HasMatchesOf a (map string_bytes words) m
        → (is_simple_and_free a ≡ true → fault_of a (map string_bytes words) ≡ [])
        → (pieces : List Piece) × AreMeant (map string_bytes words) pieces × Holds (rows_of (found_of m)) pieces
    matched m rows none =
        let simple = ap is_simple_and_free is ∙ is_free in
        let here = (rows (and_parts _ _ simple).0).0 ∙ ap (λ (b : App). matches_of b (map string_bytes words)) is in
        let fault = ap (λ (b : App). fault_of b (map string_bytes words)) (sym is) ∙ none simple in
        let found = meant (map string_bytes words) (texts_behind words) (room_behind words room) fault in
        (found.0, found.1, subst (λ (rs : List Row). Holds rs found.0) (sym here) found.2)

    unmatched_by : (k : ErrorKind) → (k ≡ OutOfMemory → ⊥) → (k ≡ OutOfMemory) ⊎ IsAmong k (fault_of a (map string_bytes words))
        → is_clear (fault_of a (map string_bytes words)) ≡ false
    unmatched_by k other (inl e) = absurd (other e)
    unmatched_by k other (inr h) = among k (fault_of a (map string_bytes words)) h

    pub unmatched : (k : ErrorKind) → (k ≡ OutOfMemory → ⊥)
        → (is_simple_and_free a ≡ true → (k ≡ OutOfMemory) ⊎ IsAmong k (fault_of a (map string_bytes words)))
        → (pieces : List Piece) → AreMeant (map string_bytes words) pieces → ⊥
    unmatched k other faults =
        let simple = ap is_simple_and_free is ∙ is_free in
        let fault = ap (λ (b : App). is_clear (fault_of b (map string_bytes words))) (sym is)
        ∙ unmatched_by k other (faults simple) in
        unmeant (map string_bytes words) (texts_behind words) (room_behind words room) fault
