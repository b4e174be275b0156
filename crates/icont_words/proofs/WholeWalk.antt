-- The walk over all words, by an induction over them.
use Rattle.std.proofs.Common.{◌≡◌, ◌≢◌, ◌∙◌, ◌≤◌, ◌+◌, refl, sym, ap, subst, ℕ, ◌==◌, ◌&&◌, Bool, true, false, true≢false, cond, List, [], ◌∷◌, length, map, Option, None, Some, arith, IsUtf8, nat_lt, le_refl}
use Rattle.std.proofs.lemmas.Bool.{eqb-true}
use Rattle.std.specs.Prelude.{⊤}
use Rattle.std.specs.Option.{option_map_or}
use Rattle.std.specs.Str.{bytes_eq}
use Rattle.clap.specs.Lexer.{long_of, name_and_value, short_of, usize_max}
use Rattle.clap.specs.Walk.{Held, Row, Step, Text, Waiting, Walk, idle, long_or_other, next, option, option_word, plain, plain_word, positional, short_or_plain, short_word, subcommand_met, subcommand_or_other, takes_several, trailing, value, word_met}
use Rattle.clap.specs.Faults.{bundle_fault, flag_word_fault, long_fault, other_fault, positional_fault, settle_fault, step_fault, stray_fault, walk_fault, word_fault}
use Rattle.clap.specs.declared.error.kind.ErrorKind.TheVariants as kind
use Rattle.icont_words.specs.Words.{Letter, Valued, Named, is_dashed}
use Rattle.icont_words.proofs.LeftToRight.{Pieces, dashed_said, flags_said, name_said, word_said, said_from, with_piece, name_word}
use Rattle.icont_words.proofs.ClapCommand.{letter_id, file_taken, taken, command_shape, long_none, index_file, id_option, option_no_file, same_option}
use Rattle.icont_words.proofs.Uses.{is_new, is_clear, Pending, no_use, one_value, pending_value, name_count, held_uses, rows_with, clear_with, rows_of_value, clear_value, due_fault}
use Rattle.icont_words.proofs.ClapWalk.{Goes, goes_as, add_piece, refused, ends_refused, ends, turned, names_go, trailing_go, stands, end_clear}
use Rattle.icont_words.proofs.FlagWords.{at_due, all_flags, dash_utf8, flags_at_fault}

abbrev waits_of : Bool → Waiting
waits_of true = positional
waits_of false = idle

-- How a word is met

no_subcommand : (waiting : Waiting) (word : Text) → subcommand_met [] waiting word ≡ None
no_subcommand idle word = refl
no_subcommand (option id) word = refl
no_subcommand positional word = refl

module _ (waiting : Waiting) (word : Text) (h : Held) where
  -- a word that is not `--`
  met_other : bytes_eq word (45 ∷ 45 ∷ []) ≡ false
      → word_met taken [] false waiting 1 word h ≡ long_or_other taken waiting word (long_of word) h
  met_other other =
      ap (λ o. subcommand_or_other taken o waiting 1 word h) (no_subcommand waiting word)
      ∙ ap (λ t. cond t (h, trailing 1) (long_or_other taken waiting word (long_of word) h)) other

  found_other : bytes_eq word (45 ∷ 45 ∷ []) ≡ false
      → word_fault command_shape [] false waiting word h ≡ flag_word_fault taken false (long_of word) word h
  found_other other =
      ap (λ o. other_fault command_shape o word h) (no_subcommand waiting word)
      ∙ ap (λ t. cond t [] (flag_word_fault taken false (long_of word) word h)) other

-- a word that is no option
record IsBare (word : Text) : Type 0 where
  no_end : bytes_eq word (45 ∷ 45 ∷ []) ≡ false
  no_long : long_of word ≡ None
  no_short : short_of word ≡ None

bare_by : (a : ℕ) (t : Bool) → (a == 45) ≡ t → IsBare (a ∷ [])
bare_by a true e = record { no_end = rw e refl; no_long = rw e refl; no_short = rw e refl }
bare_by a false e = record { no_end = rw e refl; no_long = rw e refl; no_short = rw e refl }

is_bare : (word : Text) → is_dashed word ≡ false → IsBare word
is_bare [] bare = record { no_end = refl; no_long = refl; no_short = refl }
is_bare (a ∷ []) bare = bare_by a (a == 45) refl
is_bare (a ∷ b ∷ rest) bare =
    let e : (a == 45) ≡ false = bare in
    record { no_end = rw e refl; no_long = rw e refl; no_short = rw e refl }

module _ (waiting : Waiting) (word : Text) (h : Held) (bare : IsBare word) where
  met_bare : word_met taken [] false waiting 1 word h ≡ plain_word taken waiting word h
  met_bare =
      met_other waiting word h bare.no_end
      ∙ (ap (λ o. long_or_other taken waiting word o h) bare.no_long
      ∙ ap (λ o. short_or_plain taken waiting word o h) bare.no_short)

  found_bare : word_fault command_shape [] false waiting word h ≡ []
  found_bare =
      found_other waiting word h bare.no_end
      ∙ (ap (λ o. flag_word_fault taken false o word h) bare.no_long
      ∙ ap (λ o. option_map_or (λ flags. bundle_fault taken false flags h) o []) bare.no_short)

plain_value : (b : Bool) (word : Text) (h : Held) → plain_word taken (waits_of b) word h ≡ (h, value)
plain_value true word h = refl
plain_value false word h = refl

-- a word of flags
module _ (waiting : Waiting) (a : ℕ) (rest : List ℕ) (h : Held) (other : (a == 45) ≡ false) where
  no_end : bytes_eq (45 ∷ a ∷ rest) (45 ∷ 45 ∷ []) ≡ false
  no_end = ap (λ t. t && bytes_eq rest []) other

  no_long : long_of (45 ∷ a ∷ rest) ≡ None
  no_long = rw other refl

  is_short : short_of (45 ∷ a ∷ rest) ≡ Some (a ∷ rest)
  is_short = rw other refl

  met_flags : word_met taken [] false waiting 1 (45 ∷ a ∷ rest) h ≡ short_word taken waiting (45 ∷ a ∷ rest) (a ∷ rest) h
  met_flags =
      met_other waiting (45 ∷ a ∷ rest) h no_end
      ∙ (ap (λ o. long_or_other taken waiting (45 ∷ a ∷ rest) o h) no_long
      ∙ ap (λ o. short_or_plain taken waiting (45 ∷ a ∷ rest) o h) is_short)

  found_flags : word_fault command_shape [] false waiting (45 ∷ a ∷ rest) h ≡ bundle_fault taken false (a ∷ rest) h
  found_flags =
      found_other waiting (45 ∷ a ∷ rest) h no_end
      ∙ (ap (λ o. flag_word_fault taken false o (45 ∷ a ∷ rest) h) no_long
      ∙ ap (λ o. option_map_or (λ flags. bundle_fault taken false flags h) o []) is_short)

-- a word with a long name
found_long : (waiting : Waiting) (b : ℕ) (rest : List ℕ) (h : Held)
    → word_fault command_shape [] false waiting (45 ∷ 45 ∷ b ∷ rest) h ≡ kind.UnknownArgument ∷ []
found_long waiting b rest h =
    found_other waiting (45 ∷ 45 ∷ b ∷ rest) h refl
    ∙ ap (λ o. long_fault taken false o (name_and_value (b ∷ rest)).1 h) (long_none (name_and_value (b ∷ rest)).0)

met_end : (waiting : Waiting) (h : Held) → word_met taken [] false waiting 1 (45 ∷ 45 ∷ []) h ≡ (h, trailing 1)
met_end waiting h = ap (λ o. subcommand_or_other taken o waiting 1 (45 ∷ 45 ∷ []) h) (no_subcommand waiting (45 ∷ 45 ∷ []))

found_end : (waiting : Waiting) (h : Held) → word_fault command_shape [] false waiting (45 ∷ 45 ∷ []) h ≡ []
found_end waiting h = ap (λ o. other_fault command_shape o (45 ∷ 45 ∷ []) h) (no_subcommand waiting (45 ∷ 45 ∷ []))

-- a word that is at fault ends the walk
module _ (word : Text) (words : List Text) (is_trailing : Bool) (rows : List Row) (pending : Option (Text × List Text))
    (waiting : Waiting) where
  abbrev met : Held × Step
  met = word_met taken [] is_trailing waiting 1 word (held_uses rows pending)

  word_refused : (before : Bool) (after : List Row)
      → is_clear (word_fault command_shape [] is_trailing waiting word (held_uses rows pending)) ≡ false
      → Goes true (stands is_trailing rows pending waiting) (word ∷ words) before None after
  word_refused before after is =
      turned word is_trailing rows pending waiting met.0 met.1
      (word_fault command_shape [] is_trailing waiting word (held_uses rows pending)) refl refl words before None after
      (refused _ _ words before after (ap (λ t. t && is_clear (step_fault command_shape 1 met.0 met.1)) is))

said_as : (fault : Bool) (w : Walk) (words : List Text) (before : Bool) (said said' : Pieces) (rows : List Row) → said ≡ said'
    → Goes fault w words before said rows → Goes fault w words before said' rows
said_as fault w words before said said' rows e g = subst (λ (x : Pieces). Goes fault w words before x rows) e g

-- Where no value is due

module _ (words : List Text) where
  abbrev AtRest : Type 0
  AtRest = (b : Bool) (p : Pending) (rows : List Row) → name_count p + length words ≤ usize_max
      → Goes true (stands false rows (pending_value p) (waits_of b)) words (clear_with p rows) (said_from words None) (rows_with p rows)

  abbrev AtDue : Type 0
  AtDue = at_due [] words [] None idle

module _ (words : List Text) (rest_goes : AtRest words) (due_goes : AtDue words) where
  flags_go : (a : ℕ) (rest : List ℕ) (b : Bool) (p : Pending) (rows : List Row) → IsUtf8 (45 ∷ a ∷ rest) → (a == 45) ≡ false
      → name_count p + length words ≤ usize_max
      → Goes true (stands false rows (pending_value p) (waits_of b)) ((45 ∷ a ∷ rest) ∷ words) (clear_with p rows)
      (flags_said (a ∷ rest) (said_from words)) (rows_with p rows)
  flags_go a rest b p rows u other room =
      let h = held_uses rows (pending_value p) in
      let flags =
      all_flags (45 ∷ a ∷ rest) words rows (pending_value p) (waits_of b) (rest_goes false) due_goes (a ∷ rest)
      (length (a ∷ rest)) plain p rows (le_refl (length (a ∷ rest)))
      (dash_utf8 (a ∷ rest) u) tt room in
      turned (45 ∷ a ∷ rest) false rows (pending_value p) (waits_of b) (short_word taken (waits_of b) (45 ∷ a ∷ rest) (a ∷ rest) h).0
      (short_word taken (waits_of b) (45 ∷ a ∷ rest) (a ∷ rest) h).1 (bundle_fault taken false (a ∷ rest) h)
      (met_flags (waits_of b) a rest h other) (found_flags (waits_of b) a rest h other) words _ _ _ flags

  end_goes : (b : Bool) (p : Pending) (rows : List Row) → name_count p + length words ≤ usize_max
      → Goes true (stands false rows (pending_value p) (waits_of b)) ((45 ∷ 45 ∷ []) ∷ words) (clear_with p rows) (Some (map Named words))
      (rows_with p rows)
  end_goes b p rows room =
      turned (45 ∷ 45 ∷ []) false rows (pending_value p) (waits_of b) (held_uses rows (pending_value p)) (trailing 1) []
      (met_end (waits_of b) (held_uses rows (pending_value p)))
      (found_end (waits_of b) (held_uses rows (pending_value p))) words _ _ _ (trailing_go words rows p (waits_of b) room)

  dashed_by : (a : ℕ) (rest : List ℕ) (b : Bool) (p : Pending) (rows : List Row) (t : Bool) → (a == 45) ≡ t
      → IsUtf8 (45 ∷ a ∷ rest) → name_count p + length words ≤ usize_max
      → Goes true (stands false rows (pending_value p) (waits_of b)) ((45 ∷ a ∷ rest) ∷ words) (clear_with p rows)
      (dashed_said a rest words (said_from words)) (rows_with p rows)
  dashed_by a [] b p rows false e u room =
      said_as _ _ _ _ (flags_said (a ∷ []) (said_from words)) _ _
      (sym (ap (λ t. cond t (Some (map Named words)) (flags_said (a ∷ []) (said_from words))) e))
      (flags_go a [] b p rows u e room)
  dashed_by a (c ∷ rest) b p rows false e u room = flags_go a (c ∷ rest) b p rows u e room
  dashed_by a [] b p rows true e u room =
      subst (λ (d : ℕ). Goes true (stands false rows (pending_value p) (waits_of b)) ((45 ∷ d ∷ []) ∷ words) (clear_with p rows)
      (dashed_said d [] words (said_from words)) (rows_with p rows))
      (sym (eqb-true a 45 e)) (end_goes b p rows room)
  dashed_by a (c ∷ rest) b p rows true e u room =
      subst (λ (d : ℕ). Goes true (stands false rows (pending_value p) (waits_of b)) ((45 ∷ d ∷ c ∷ rest) ∷ words) (clear_with p rows)
      (dashed_said d (c ∷ rest) words (said_from words)) (rows_with p rows))
      (sym (eqb-true a 45 e))
      (word_refused (45 ∷ 45 ∷ c ∷ rest) words false rows (pending_value p) (waits_of b) (clear_with p rows) (rows_with p rows)
      (ap is_clear (found_long (waits_of b) c rest (held_uses rows (pending_value p)))))

  name_goes : (word : Text) (b : Bool) (p : Pending) (rows : List Row) → is_dashed word ≡ false
      → name_count p + length (word ∷ words) ≤ usize_max
      → Goes true (stands false rows (pending_value p) (waits_of b)) (word ∷ words) (clear_with p rows)
      (word_said word words (said_from words)) (rows_with p rows)
  name_goes word b p rows bare room =
      let h = held_uses rows (pending_value p) in
      let facts = is_bare word bare in
      said_as _ _ _ _ (name_said word (said_from words)) _ _ (sym (name_word word words (said_from words) bare))
      (turned word false rows (pending_value p) (waits_of b) h value [] (met_bare (waits_of b) word h facts ∙ plain_value b word h)
      (found_bare (waits_of b) word h facts) words _ _ _
      (names_go word words false rows (waits_of b) (said_from words None) p room (λ q after more. rest_goes true q after more)))

  word_by : (a c : ℕ) (rest : List ℕ) (b : Bool) (p : Pending) (rows : List Row) (t : Bool) → (a == 45) ≡ t
      → IsUtf8 (a ∷ c ∷ rest)
      → name_count p + length ((a ∷ c ∷ rest) ∷ words) ≤ usize_max
      → Goes true (stands false rows (pending_value p) (waits_of b)) ((a ∷ c ∷ rest) ∷ words) (clear_with p rows)
      (word_said (a ∷ c ∷ rest) words (said_from words)) (rows_with p rows)
  word_by a c rest b p rows false e u room = name_goes (a ∷ c ∷ rest) b p rows e room
  word_by a c rest b p rows true e u room =
      let is = eqb-true a 45 e in
      let u' : IsUtf8 (45 ∷ c ∷ rest) = subst (λ (d : ℕ). IsUtf8 (d ∷ c ∷ rest)) is u in
      subst (λ (d : ℕ). Goes true (stands false rows (pending_value p) (waits_of b)) ((d ∷ c ∷ rest) ∷ words) (clear_with p rows)
      (word_said (d ∷ c ∷ rest) words (said_from words)) (rows_with p rows))
      (sym is) (dashed_by c rest b p rows (c == 45) refl u' (omega (arith, room)))

  word_goes : (word : Text) → IsUtf8 word → AtRest (word ∷ words)
  word_goes [] u b p rows room = name_goes [] b p rows refl room
  word_goes (a ∷ []) u b p rows room = name_goes (a ∷ []) b p rows refl room
  word_goes (a ∷ c ∷ rest) u b p rows room = word_by a c rest b p rows (a == 45) refl u room

-- Where the value of an option is due

abbrev due : Letter → Option (Text × List Text)
due letter = Some (letter_id letter, [])

due_ends : (is_trailing : Bool) (letter : Letter) (rows : List Row) (waiting : Waiting)
    → end_clear (stands is_trailing rows (due letter) waiting) [] ≡ false
unfolding walk_fault
due_ends is_trailing letter rows waiting = ap is_clear (due_fault letter rows)

due_no_file : (letter : Letter) (rows : List Row) → is_clear (step_fault command_shape 1 (held_uses rows (due letter)) value) ≡ false
due_no_file letter rows =
    ap (λ o. is_clear (option_map_or (λ a. positional_fault taken false a (held_uses rows (due letter))) o
    (stray_fault command_shape))) index_file
    ∙ (ap (λ t. is_clear (cond (t && takes_several file_taken) [] (settle_fault taken false (held_uses rows (due letter)))))
    (option_no_file letter)
    ∙ ap is_clear (due_fault letter rows))

due_trails : (words : List Text) (letter : Letter) (rows : List Row) (waiting : Waiting)
    → Goes true (stands true rows (due letter) waiting) words true None rows
due_trails [] letter rows waiting = ends_refused true _ [] true rows (due_ends true letter rows waiting)
due_trails (word ∷ words) letter rows waiting =
    turned word true rows (due letter) waiting (held_uses rows (due letter)) value [] refl refl words true None rows
    (refused _ _ words true rows (due_no_file letter rows))

module _ (words : List Text) (rest_goes : AtRest words) where
  due_refused : (word : Text) (letter : Letter) (rows : List Row)
      → is_clear (word_fault command_shape [] false (option (letter_id letter)) word (held_uses rows (due letter))) ≡ false
      → Goes true (stands false rows (due letter) (option (letter_id letter))) (word ∷ words) true None rows
  due_refused word letter rows is = word_refused word words false rows (due letter) (option (letter_id letter)) true rows is

  due_dashed : (a : ℕ) (rest : List ℕ) (letter : Letter) (rows : List Row) (t : Bool) → (a == 45) ≡ t → IsUtf8 (45 ∷ a ∷ rest)
      → Goes true (stands false rows (due letter) (option (letter_id letter))) ((45 ∷ a ∷ rest) ∷ words) true None rows
  due_dashed a rest letter rows false e u =
      due_refused (45 ∷ a ∷ rest) letter rows
      (ap is_clear (found_flags (option (letter_id letter)) a rest (held_uses rows (due letter)) e)
      ∙ flags_at_fault a rest (length rest) (held_uses rows (due letter)) kind.InvalidValue [] (dash_utf8 (a ∷ rest) u)
      (due_fault letter rows))
  due_dashed a [] letter rows true e u =
      subst (λ (d : ℕ). Goes true (stands false rows (due letter) (option (letter_id letter)))
      ((45 ∷ d ∷ []) ∷ words) true None rows) (sym (eqb-true a 45 e))
      (turned (45 ∷ 45 ∷ []) false rows (due letter) (option (letter_id letter)) (held_uses rows (due letter)) (trailing 1) []
      (met_end (option (letter_id letter)) (held_uses rows (due letter)))
      (found_end (option (letter_id letter)) (held_uses rows (due letter))) words true None rows
      (due_trails words letter rows (option (letter_id letter))))
  due_dashed a (c ∷ rest) letter rows true e u =
      subst (λ (d : ℕ). Goes true (stands false rows (due letter) (option (letter_id letter)))
      ((45 ∷ d ∷ c ∷ rest) ∷ words) true None rows) (sym (eqb-true a 45 e))
      (due_refused (45 ∷ 45 ∷ c ∷ rest) letter rows
      (ap is_clear (found_long (option (letter_id letter)) c rest (held_uses rows (due letter)))))

  dashed_word : (word : Text) (letter : Letter) (rows : List Row) → is_dashed word ≡ true → IsUtf8 word
      → Goes true (stands false rows (due letter) (option (letter_id letter))) (word ∷ words) true None rows
  dashed_word [] letter rows dashed u = absurd (true≢false (sym dashed))
  dashed_word (a ∷ []) letter rows dashed u = absurd (true≢false (sym dashed))
  dashed_word (a ∷ c ∷ rest) letter rows dashed u =
      let is = eqb-true a 45 dashed in
      let u' : IsUtf8 (45 ∷ c ∷ rest) = subst (λ (d : ℕ). IsUtf8 (d ∷ c ∷ rest)) is u in
      subst (λ (d : ℕ). Goes true (stands false rows (due letter) (option (letter_id letter)))
      ((d ∷ c ∷ rest) ∷ words) true None rows)
      (sym is) (due_dashed c rest letter rows (c == 45) refl u')

  met_value : (word : Text) (letter : Letter) (rows : List Row)
      → plain_word taken (option (letter_id letter)) word (held_uses rows (due letter))
      ≡ (held_uses rows (pending_value (one_value letter word)), next idle)
  met_value word letter rows =
      ap (λ o. (
        (option_word o (letter_id letter) word (held_uses rows (due letter))).0,
        next
            (option_word o (letter_id letter) word (held_uses rows (due letter))).1,
      )) (id_option letter)
      ∙ ap (λ t. (held_uses rows (pending_value (one_value letter word)), next (cond (nat_lt (cond t 1 0) 1) (option (letter_id letter)) idle)))
      (same_option letter)

  value_goes : (word : Text) (letter : Letter) (rows : List Row) → is_dashed word ≡ false → length (word ∷ words) ≤ usize_max
      → Goes true (stands false rows (due letter) (option (letter_id letter))) (word ∷ words) true
      (with_piece (Valued letter word) (said_from words None)) rows
  value_goes word letter rows bare room =
      let h = held_uses rows (due letter) in
      let facts = is_bare word bare in
      let g = rest_goes false (one_value letter word) rows (omega (arith, room)) in
      turned word false rows (due letter) (option (letter_id letter)) (held_uses rows (pending_value (one_value letter word))) (next idle) []
      (met_bare (option (letter_id letter)) word h facts ∙ met_value word letter rows)
      (found_bare (option (letter_id letter)) word h facts) words _ _ _
      (add_piece _ _ words true (Valued letter word) (said_from words None) rows
      (goes_as true true _ _ words _ (is_new (Valued letter word) rows) _ _ _ refl refl (clear_value letter word rows)
      (rows_of_value letter word rows) g))

  due_by : (word : Text) (letter : Letter) (rows : List Row) (t : Bool) → is_dashed word ≡ t → IsUtf8 word
      → length (word ∷ words) ≤ usize_max
      → Goes true (stands false rows (due letter) (option (letter_id letter))) (word ∷ words) true
      (cond t None (with_piece (Valued letter word) (said_from words None))) rows
  due_by word letter rows true e u room = dashed_word word letter rows e u
  due_by word letter rows false e u room = value_goes word letter rows e room

  due_goes : (word : Text) → IsUtf8 word → AtDue (word ∷ words)
  due_goes word u letter rows room = due_by word letter rows (is_dashed word) refl u room

-- Both

record AllGo (words : List Text) : Type 0 where
  rest : AtRest words
  due_value : AtDue words

abbrev pub AreTexts : List Text → Type 0
AreTexts [] = ⊤
AreTexts (word ∷ words) = IsUtf8 word × AreTexts words

all_go : (words : List Text) → AreTexts words → AllGo words
all_go [] u = record {
  rest = λ b p rows room. ends false rows p (waits_of b);
  due_value = λ letter rows room. ends_refused true _ [] true rows (due_ends false letter rows (option (letter_id letter)));
}
all_go (word ∷ words) u =
    let behind = all_go words u.1 in
    record { rest = word_goes words behind.rest behind.due_value word u.0; due_value = due_goes words behind.rest word u.0 }

pub walk_goes : (words : List Text) → AreTexts words → length words ≤ usize_max
    → Goes true (stands false [] None idle) words true (said_from words None) []
walk_goes words u room = (all_go words u).rest false no_use [] (omega (arith, room))
