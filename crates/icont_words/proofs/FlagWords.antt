-- A word of flags, as `clap` walks over it.
use Rattle.std.proofs.Common.{◌≡◌, ◌≢◌, ◌∙◌, ◌≤◌, ◌<◌, ◌+◌, refl, sym, ap, ap₂, subst, ℕ, zero, suc, ◌==◌, ◌&&◌, Bool, true, false, cond, List, [], ◌∷◌, ◌++◌, length, drop, slice_get, Option, None, Some, arith, encode_utf8_all, IsUtf8}
use Rattle.std.specs.Prelude.{⊤}
use Rattle.std.specs.Char.{encode_utf8}
use Rattle.std.specs.Str.{chars}
use Rattle.std.proofs.lemmas.Bool.{eqb-true, true≢false}
use Rattle.std.proofs.lemmas.Option.{none-some}
use Rattle.std.proofs.lemmas.Str.{IsUtf8-past_char, byte_from_char, chars_past_char}
use Rattle.clap.specs.Lexer.{usize_max}
use Rattle.clap.specs.Walk.{Held, Outcome, Row, Rule, Step, Text, Waiting, after_flag, after_step, arg_by_short, attached_value, bundle_met, bundle_step, done, idle, option, option_met, reacted, settled, short_met, takes_values}
use Rattle.clap.specs.Kinds.{Kinds, or_else}
use Rattle.clap.specs.Faults.{bundle_step_fault, flags_fault, option_fault, react_fault, settle_fault, short_fault, step_fault, use_fault}
use Rattle.clap.specs.declared.error.kind.ErrorKind.{ErrorKind}
use Rattle.icont_words.specs.Words.{Letter, Image, Turns, Number, Units, Valued, letter_byte, letter_of, value_in_word}
use Rattle.icont_words.proofs.LeftToRight.{Pieces, value_said, option_said, flags_said, said_from, with_piece, letter_is, option_flag}
use Rattle.icont_words.proofs.ClapCommand.{letter_id, units_taken, option_taken, taken, command_shape, short_units, short_option, short_none}
use Rattle.icont_words.proofs.Uses.{with_use, is_new, is_clear, clear_or, units_clear, option_clear, Pending, no_use, pending_value, name_count, held_uses, rows_with, clear_with, and_assoc}
use Rattle.icont_words.proofs.ClapWalk.{Goes, goes_as, guarded, add_piece, refused, and_true, stands}

-- The first character

first_by : (a : ℕ) (rest : List ℕ) → IsUtf8 (a ∷ rest) → (cs : List ℕ) → encode_utf8_all cs ≡ a ∷ rest
    → (c : ℕ) × (slice_get (chars (a ∷ rest)) 0 ≡ Some c) × (c < 128 → a ≡ c)
first_by a rest u [] e = absurd (omega (arith, ap length e))
first_by a rest u (c ∷ cs) e = (
  c,
  ap (λ (l : List ℕ). slice_get l 0) (chars_past_char (a ∷ rest) (encode_utf8_all cs) c u (sym e)),
  λ small. byte_from_char (a ∷ rest) (encode_utf8_all cs) c (sym e) small,
)

pub first_char : (a : ℕ) (rest : List ℕ) → IsUtf8 (a ∷ rest)
    → (c : ℕ) × (slice_get (chars (a ∷ rest)) 0 ≡ Some c) × (c < 128 → a ≡ c)
first_char a rest u = first_by a rest u u.0 u.1.1

units_char : (rest : List ℕ) → slice_get (chars (99 ∷ rest)) 0 ≡ Some 99
unfolding chars
units_char [] = refl
units_char (b ∷ rest) = refl

letter_char : (letter : Letter) (rest : List ℕ) → slice_get (chars (letter_byte letter ∷ rest)) 0 ≡ Some (letter_byte letter)
unfolding chars
letter_char Image [] = refl
letter_char Image (b ∷ rest) = refl
letter_char Turns [] = refl
letter_char Turns (b ∷ rest) = refl
letter_char Number [] = refl
letter_char Number (b ∷ rest) = refl

units_width : (rest : List ℕ) → drop (length (encode_utf8 99)) (99 ∷ rest) ≡ rest
unfolding encode_utf8
units_width rest = refl

letter_width : (letter : Letter) (rest : List ℕ)
    → drop (length (encode_utf8 (letter_byte letter))) (letter_byte letter ∷ rest) ≡ rest
unfolding encode_utf8
letter_width Image rest = refl
letter_width Turns rest = refl
letter_width Number rest = refl

behind_units : (rest : List ℕ) → 99 ∷ rest ≡ encode_utf8 99 ++ rest
unfolding encode_utf8
behind_units rest = refl

behind_dash : (rest : List ℕ) → 45 ∷ rest ≡ encode_utf8 45 ++ rest
unfolding encode_utf8
behind_dash rest = refl

pub dash_utf8 : (rest : List ℕ) → IsUtf8 (45 ∷ rest) → IsUtf8 rest
dash_utf8 rest u = IsUtf8-past_char (45 ∷ rest) rest 45 u (behind_dash rest)

small_letter : (letter : Letter) → letter_byte letter < 128
small_letter Image = omega arith
small_letter Turns = omega arith
small_letter Number = omega arith

letter_there : (letter : Letter) → letter_of (letter_byte letter) ≡ Some letter
letter_there Image = refl
letter_there Turns = refl
letter_there Number = refl

other_named : (a c : ℕ) → (c < 128 → a ≡ c) → a ≢ 99 → letter_of a ≡ None → arg_by_short taken c ≡ None
other_named a c same no_flag no_letter =
    short_none c (λ e. no_flag (same (omega (arith, e)) ∙ e))
    (λ letter e. none-some letter (sym no_letter ∙ (ap letter_of (same (omega (arith, e, small_letter letter)) ∙ e)
    ∙ letter_there letter)))

-- The first character is read as a flag

module _ (k x : ℕ) (flags rest : Text) (found : Option Rule) (h : Held) (first : slice_get (chars flags) 0 ≡ Some x)
    (named : arg_by_short taken x ≡ found) (width : drop (length (encode_utf8 x)) flags ≡ rest) where
  read_fault : flags_fault taken false (suc k) flags 0 h ≡ short_fault taken false found rest h (flags_fault taken false k rest 0)
  unfolding flags_fault
  read_fault =
      ap (λ o. bundle_step_fault taken false o flags 0 h (flags_fault taken false k)) first
      ∙ ap₂ (λ (o : Option Rule) (t : Text). short_fault taken false o t h (flags_fault taken false k t 0)) named width

  read_met : (so_far : Outcome)
      → bundle_met taken (suc k) flags 0 so_far h ≡ short_met taken found rest h (bundle_met taken k rest 0 done)
  unfolding bundle_met
  read_met so_far =
      ap (λ o. bundle_step taken o flags 0 so_far h (bundle_met taken k)) first
      ∙ ap₂ (λ (o : Option Rule) (t : Text). short_met taken o t h (bundle_met taken k t 0 done)) named width

-- What a first flag at a fault makes of the word
option_at_fault : (a : Rule) (v : Option Text) (h : Held) (k : ErrorKind) (ks : Kinds) → settle_fault taken false h ≡ k ∷ ks
    → is_clear (option_fault taken false a v h) ≡ false
option_at_fault a (Some v) h k ks is = ap (λ s. is_clear (or_else s (use_fault false a (v ∷ []) (settled taken h).rows))) is
option_at_fault a None h k ks is = ap is_clear is

pub short_at_fault : (found : Option Rule) (rest : Text) (h : Held) (more : Held → Kinds) (k : ErrorKind) (ks : Kinds)
    → settle_fault taken false h ≡ k ∷ ks
    → is_clear (short_fault taken false found rest h more) ≡ false
short_at_fault None rest h more k ks is = refl
short_at_fault (Some a) rest h more k ks is = by (takes_values a) where
  by : (t : Bool) → is_clear (cond t (option_fault taken false a (attached_value rest) h)
      (or_else (react_fault taken false a [] h) (more (reacted taken a [] h)))) ≡ false
  by true = option_at_fault a (attached_value rest) h k ks is
  by false = ap (λ s. is_clear (or_else (or_else s (use_fault false a [] (settled taken h).rows))
      (more (reacted taken a [] h)))) is

pub flags_at_fault : (a : ℕ) (rest : List ℕ) (k : ℕ) (h : Held) (kind : ErrorKind) (kinds : Kinds) → IsUtf8 (a ∷ rest)
    → settle_fault taken false h ≡ kind ∷ kinds → is_clear (flags_fault taken false (suc k) (a ∷ rest) 0 h) ≡ false
flags_at_fault a rest k h kind kinds u is =
    let first = first_char a rest u in
    let left = drop (length (encode_utf8 first.0)) (a ∷ rest) in
    ap is_clear (read_fault k first.0 (a ∷ rest) left (arg_by_short taken first.0) h first.1 refl refl)
    ∙ short_at_fault (arg_by_short taken first.0) left h (flags_fault taken false k left 0) kind kinds is

-- All flags of a word

attached_is : (b : ℕ) (rest : List ℕ) → attached_value (b ∷ rest) ≡ Some (value_in_word b rest)
attached_is b rest = by (b == 61) refl where
  by : (t : Bool) → (b == 61) ≡ t → attached_value (b ∷ rest) ≡ Some (value_in_word b rest)
  by true e = rw e refl
  by false e = rw e refl

-- the word behind which words stand, met at these rows
module _ (word : Text) (words : List Text) (rows_before : List Row) (pending_before : Option (Text × List Text))
    (waiting_before : Waiting) where
  abbrev flag_step : Held × Outcome → Held × Step
  flag_step r = after_flag taken waiting_before word r.0 r.1

  abbrev pub FlagsGo : Kinds → Held × Outcome → Bool → Pieces → List Row → Type 0
  FlagsGo fault r before said rows = Goes (is_clear fault && is_clear (step_fault command_shape 1 (flag_step r).0 (flag_step r).1))
      (after_step taken word (stands false rows_before pending_before waiting_before) (flag_step r).0
      (flag_step r).1) words before said rows

  abbrev pub at_rest : Type 0
  at_rest = (p : Pending) (rows : List Row) → name_count p + length words ≤ usize_max
      → Goes true (stands false rows (pending_value p) idle) words (clear_with p rows) (said_from words None) (rows_with p rows)

  abbrev pub at_due : Type 0
  at_due = (letter : Letter) (rows : List Row) → length words ≤ usize_max
      → Goes true (stands false rows (Some (letter_id letter, [])) (option (letter_id letter))) words true
      (said_from words (Some letter)) rows

  -- the flags are done, or there are some
  abbrev Ready : Text → Outcome → Type 0
  Ready [] so_far = so_far ≡ done
  Ready (a ∷ rest) so_far = ⊤

  abbrev pub AtFlags : Text → Type 0
  AtFlags flags =
      (k : ℕ) (so_far : Outcome) (p : Pending) (rows : List Row) → length flags ≤ k → IsUtf8 flags → Ready flags so_far
      → name_count p + length words ≤ usize_max
      → FlagsGo (flags_fault taken false k flags 0 (held_uses rows (pending_value p))) (bundle_met taken k flags 0 so_far (held_uses rows (pending_value p)))
      (clear_with p rows) (flags_said flags (said_from words)) (rows_with p rows)

  flags_as : (fault fault' : Kinds) (r r' : Held × Outcome) (before before' : Bool) (said said' : Pieces) (rows : List Row)
      → fault' ≡ fault → r' ≡ r → before ≡ before' → said ≡ said' → FlagsGo fault r before said rows
      → FlagsGo fault' r' before' said' rows
  flags_as fault fault' r r' before before' said said' rows f m b s g =
      subst (λ (x : Kinds). FlagsGo x r' before' said' rows) (sym f)
      (subst (λ (x : Held × Outcome). FlagsGo fault x before' said' rows) (sym m)
      (subst (λ (x : Bool). FlagsGo fault r x said' rows) b
      (subst (λ (x : Pieces). FlagsGo fault r before x rows) s g)))

  no_flags_fault : (k : ℕ) (h : Held) → flags_fault taken false k [] 0 h ≡ []
  unfolding flags_fault chars
  no_flags_fault zero h = refl
  no_flags_fault (suc k) h = refl

  no_flags_met : (k : ℕ) (so_far : Outcome) (h : Held) → bundle_met taken k [] 0 so_far h ≡ (h, so_far)
  unfolding bundle_met chars
  no_flags_met zero so_far h = refl
  no_flags_met (suc k) so_far h = refl

  module _ (rest_goes : at_rest) (due_goes : at_due) where
    no_flags : AtFlags []
    no_flags k so_far p rows enough u ready room =
        flags_as [] _ (held_uses rows (pending_value p), done) _ _ _ _ _ _
        (no_flags_fault k (held_uses rows (pending_value p)))
        (no_flags_met k so_far (held_uses rows (pending_value p)) ∙ ap (λ (o : Outcome). (held_uses rows (pending_value p), o)) ready) refl refl
        (rest_goes p rows room)

    units_go : (rest : List ℕ) → AtFlags rest → Ready rest done → AtFlags (99 ∷ rest)
    units_go rest more ready zero so_far p rows enough u tt room = absurd (omega (arith, enough))
    units_go rest more ready (suc k) so_far p rows enough u tt room =
        let h = held_uses rows (pending_value p) in
        let after = with_use Units (rows_with p rows) in
        let h' = held_uses after None in
        let fault = flags_fault taken false k rest 0 h' in
        let met = bundle_met taken k rest 0 done h' in
        let g =
        more k done no_use after (omega (arith, enough)) (IsUtf8-past_char (99 ∷ rest) rest 99 u (behind_units rest)) ready
        (omega (arith, room)) in
        let new = clear_with p rows && is_new Units (rows_with p rows) in
        let reacts : is_clear (react_fault taken false units_taken [] h) ≡ new =
        clear_or (settle_fault taken false h) (use_fault false units_taken [] (rows_with p rows))
        ∙ ap (λ t. clear_with p rows && t) (units_clear (rows_with p rows)) in
        let whole : is_clear (or_else (react_fault taken false units_taken [] h) fault) ≡ (new && is_clear fault) =
        clear_or (react_fault taken false units_taken [] h) fault ∙ ap (λ t. t && is_clear fault) reacts in
        let last = is_clear (step_fault command_shape 1 (flag_step met).0 (flag_step met).1) in
        flags_as (or_else (react_fault taken false units_taken [] h) fault) _ met _ _ _ _ _ _
        (read_fault k 99 (99 ∷ rest) rest (Some units_taken) h (units_char rest) short_units (units_width rest))
        (read_met k 99 (99 ∷ rest) rest (Some units_taken) h (units_char rest) short_units (units_width rest) so_far) refl refl
        (add_piece _ _ words (clear_with p rows) Units (flags_said rest (said_from words)) (rows_with p rows)
        (goes_as (new && (is_clear fault && last))
        (is_clear (or_else (react_fault taken false units_taken [] h) fault) && last) _ _ words (new && true) new _ after after
        (sym (and_assoc new (is_clear fault) last) ∙ ap (λ t. t && last) (sym whole)) refl (and_true new) refl
        (guarded new (is_clear fault && last) _ words true _ after g)))

    value_go : (letter : Letter) (rest : List ℕ) (k : ℕ) (p : Pending) (rows : List Row) → name_count p + length words ≤ usize_max
        → FlagsGo (short_fault taken false (Some (option_taken letter)) rest (held_uses rows (pending_value p))
        (flags_fault taken false k rest 0))
        (short_met taken (Some (option_taken letter)) rest (held_uses rows (pending_value p)) (bundle_met taken k rest 0 done))
        (clear_with p rows) (value_said letter rest (said_from words)) (rows_with p rows)
    value_go letter [] k p rows room =
        let g = due_goes letter (rows_with p rows) (omega (arith, room)) in
        goes_as (clear_with p rows && true) (clear_with p rows && true) _ _ words (clear_with p rows && true)
        (clear_with p rows) _ _ _ refl refl (and_true (clear_with p rows)) refl
        (guarded (clear_with p rows) true _ words true _ (rows_with p rows) g)
    value_go letter (b ∷ rest) k p rows room =
        let h = held_uses rows (pending_value p) in
        let v = value_in_word b rest in
        let before = rows_with p rows in
        let after = with_use (Valued letter v) before in
        let g = rest_goes no_use after (omega (arith, room)) in
        let new = clear_with p rows && is_new (Valued letter v) before in
        let reacts : new ≡ is_clear (react_fault taken false (option_taken letter) (v ∷ []) h) =
        sym (clear_or (settle_fault taken false h) (use_fault false (option_taken letter) (v ∷ []) before)
        ∙ ap (λ t. clear_with p rows && t) (option_clear letter v before)) in
        flags_as (react_fault taken false (option_taken letter) (v ∷ []) h) _
        (reacted taken (option_taken letter) (v ∷ []) h, done) _ _ _ _ _ _
        (ap (λ o. option_fault taken false (option_taken letter) o h) (attached_is b rest))
        (ap (λ o. option_met taken (option_taken letter) o h) (attached_is b rest)) refl refl
        (add_piece _ _ words (clear_with p rows) (Valued letter v) (said_from words None) before
        (goes_as (new && true) (is_clear (react_fault taken false (option_taken letter) (v ∷ []) h) && true) _ _ words
        (new && true) new _ after after
        (ap (λ t. t && true) reacts) refl (and_true new) refl
        (guarded new true _ words true _ after g)))

    letter_go : (letter : Letter) (rest : List ℕ) → AtFlags (letter_byte letter ∷ rest)
    letter_go letter rest zero so_far p rows enough u tt room = absurd (omega (arith, enough))
    letter_go letter rest (suc k) so_far p rows enough u tt room =
        let h = held_uses rows (pending_value p) in
        let x = letter_byte letter in
        flags_as (short_fault taken false (Some (option_taken letter)) rest h (flags_fault taken false k rest 0)) _
        (short_met taken (Some (option_taken letter)) rest h (bundle_met taken k rest 0 done)) _ _ _ _ _ _
        (read_fault k x (x ∷ rest) rest (Some (option_taken letter)) h (letter_char letter rest) (short_option letter)
        (letter_width letter rest))
        (read_met k x (x ∷ rest) rest (Some (option_taken letter)) h (letter_char letter rest) (short_option letter)
        (letter_width letter rest) so_far)
        refl (sym (option_flag letter rest (said_from words)))
        (value_go letter rest k p rows room)

    other_go : (a : ℕ) (rest : List ℕ) → (a == 99) ≡ false → letter_of a ≡ None → AtFlags (a ∷ rest)
    other_go a rest no_flag no_letter zero so_far p rows enough u tt room = absurd (omega (arith, enough))
    other_go a rest no_flag no_letter (suc k) so_far p rows enough u tt room =
        let h = held_uses rows (pending_value p) in
        let first = first_char a rest u in
        let left = drop (length (encode_utf8 first.0)) (a ∷ rest) in
        let unnamed = other_named a first.0 first.2 (λ e. true≢false (sym (ap (λ b. b == 99) e) ∙ no_flag)) no_letter in
        let at_fault : is_clear (flags_fault taken false (suc k) (a ∷ rest) 0 h) ≡ false =
        ap is_clear (read_fault k first.0 (a ∷ rest) left None h first.1 unnamed refl) in
        let met = bundle_met taken (suc k) (a ∷ rest) 0 so_far h in
        let said : None ≡ flags_said (a ∷ rest) (said_from words) =
        sym (ap (λ t. cond t (with_piece Units (flags_said rest (said_from words)))
        (option_said (letter_of a) rest (said_from words))) no_flag
        ∙ ap (λ o. option_said o rest (said_from words)) no_letter) in
        flags_as _ _ met _ _ _ None _ _ refl refl refl said
        (refused _ _ words (clear_with p rows) (rows_with p rows)
        (ap (λ t. t && is_clear (step_fault command_shape 1 (flag_step met).0 (flag_step met).1)) at_fault))

    by_letter : (a : ℕ) (rest : List ℕ) (found : Option Letter) → (a == 99) ≡ false → letter_of a ≡ found → AtFlags (a ∷ rest)
    by_letter a rest None no_flag is = other_go a rest no_flag is
    by_letter a rest (Some letter) no_flag is =
        subst (λ b. AtFlags (b ∷ rest)) (sym (letter_is a letter is)) (letter_go letter rest)

    by_byte : (a : ℕ) (rest : List ℕ) (t : Bool) → (a == 99) ≡ t → AtFlags rest → Ready rest done → AtFlags (a ∷ rest)
    by_byte a rest true e more ready = subst (λ b. AtFlags (b ∷ rest)) (sym (eqb-true a 99 e)) (units_go rest more ready)
    by_byte a rest false e more ready = by_letter a rest (letter_of a) e refl

    is_ready : (flags : Text) → Ready flags done
    is_ready [] = refl
    is_ready (a ∷ rest) = tt

    pub all_flags : (flags : Text) → AtFlags flags
    all_flags [] = no_flags
    all_flags (a ∷ rest) = by_byte a rest (a == 99) refl (all_flags rest) (is_ready rest)
