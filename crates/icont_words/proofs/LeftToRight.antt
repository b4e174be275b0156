-- Words are read from left to right, to what they say or to nothing, and that is what they say.
use Rattle.std.proofs.Common.{◌≡◌, ◌≢◌, ◌∙◌, refl, sym, ap, subst, ℕ, ◌==◌, Bool, true, false, cond, if◌then◌else◌, List, [], ◌∷◌, map, Option, None, Some}
use Rattle.std.proofs.lemmas.Bool.{eqb-true}
use Rattle.std.proofs.lemmas.Option.{none-some, same_Some}
use Rattle.icont_words.specs.Words.{Letter, Image, Turns, Number, Piece, Units, Valued, Named, letter_byte, letter_of, is_dashed, value_in_word, Says, says_nothing, all_names, a_name, a_flag, flag_before, value_within, value_behind}

-- Reading

-- the pieces of the words, or none where they say nothing
abbrev pub Pieces : Type 0
Pieces = Option (List Piece)

-- what the words behind say, where the value of an option may be due
abbrev pub Later : Type 0
Later = Option Letter → Pieces

abbrev pub with_piece : Piece → Pieces → Pieces
with_piece piece None = None
with_piece piece (Some pieces) = Some (piece ∷ pieces)

abbrev pub value_said : Letter → List ℕ → Later → Pieces
value_said letter [] later = later (Some letter)
value_said letter (b ∷ rest) later = with_piece (Valued letter (value_in_word b rest)) (later None)

abbrev pub option_said : Option Letter → List ℕ → Later → Pieces
option_said None rest later = None
option_said (Some letter) rest later = value_said letter rest later

-- a word behind its `-`
abbrev pub flags_said : List ℕ → Later → Pieces
flags_said [] later = later None
flags_said (a ∷ rest) later = if a == 99 then with_piece Units (flags_said rest later) else option_said (letter_of a) rest later

-- the same, where the word may be `--`
abbrev pub dashed_said : ℕ → List ℕ → List (List ℕ) → Later → Pieces
dashed_said a [] words later = if a == 45 then Some (map Named words) else flags_said (a ∷ []) later
dashed_said a (b ∷ rest) words later = flags_said (a ∷ b ∷ rest) later

abbrev pub name_said : List ℕ → Later → Pieces
name_said word later = with_piece (Named word) (later None)

abbrev pub word_said : List ℕ → List (List ℕ) → Later → Pieces
word_said [] words later = name_said [] later
word_said (a ∷ []) words later = name_said (a ∷ []) later
word_said (a ∷ b ∷ rest) words later = if a == 45 then dashed_said b rest words later else name_said (a ∷ b ∷ rest) later

abbrev pub due_said : Letter → List ℕ → Pieces → Pieces
due_said letter word behind = if is_dashed word then None else with_piece (Valued letter word) behind

abbrev pub said_from : List (List ℕ) → Later
said_from [] None = Some []
said_from [] (Some letter) = None
said_from (word ∷ words) None = word_said word words (said_from words)
said_from (word ∷ words) (Some letter) = due_said letter word (said_from words None)

-- Letters

pub letter_is : (a : ℕ) (letter : Letter) → letter_of a ≡ Some letter → a ≡ letter_byte letter
letter_is a letter is = by_image (a == 111) refl where
  by_number : (t : Bool) → (a == 103) ≡ t → cond t (Some Number) None ≡ Some letter → a ≡ letter_byte letter
  by_number true e h = eqb-true a 103 e ∙ ap letter_byte (same_Some Number letter h)
  by_number false e h = absurd (none-some letter h)

  by_turns : (t : Bool) → (a == 110) ≡ t → cond t (Some Turns) (cond (a == 103) (Some Number) None) ≡ Some letter
      → a ≡ letter_byte letter
  by_turns true e h = eqb-true a 110 e ∙ ap letter_byte (same_Some Turns letter h)
  by_turns false e h = by_number (a == 103) refl h

  by_image : (t : Bool) → (a == 111) ≡ t → a ≡ letter_byte letter
  by_image true e = eqb-true a 111 e
      ∙ ap letter_byte (same_Some Image letter (sym (ap (λ t. cond t (Some Image)
      (cond (a == 110) (Some Turns) (cond (a == 103) (Some Number) None))) e) ∙ is))
  by_image false e =
      by_turns (a == 110) refl (sym (ap (λ t. cond t (Some Image)
      (cond (a == 110) (Some Turns) (cond (a == 103) (Some Number) None))) e) ∙ is)

pub option_flag : (letter : Letter) (rest : List ℕ) (later : Later)
    → flags_said (letter_byte letter ∷ rest) later ≡ value_said letter rest later
option_flag Image rest later = refl
option_flag Turns rest later = refl
option_flag Number rest later = refl

dashed_option : (letter : Letter) (rest : List ℕ) (words : List (List ℕ)) (later : Later)
    → dashed_said (letter_byte letter) rest words later ≡ value_said letter rest later
dashed_option Image [] words later = refl
dashed_option Turns [] words later = refl
dashed_option Number [] words later = refl
dashed_option letter (b ∷ rest) words later = option_flag letter (b ∷ rest) later

differs : (a b : ℕ) (t : Bool) → (a == b) ≡ t → a ≢ b → t ≡ false
differs a b true e other = absurd (other (eqb-true a b e))
differs a b false e other = refl

dashed_flags : (a : ℕ) (rest : List ℕ) (words : List (List ℕ)) (later : Later) → a ≢ 45
    → dashed_said a rest words later ≡ flags_said (a ∷ rest) later
dashed_flags a [] words later other =
    ap (λ t. cond t (Some (map Named words)) (flags_said (a ∷ []) later)) (differs a 45 (a == 45) refl other)
dashed_flags a (b ∷ rest) words later other = refl

pub name_word : (word : List ℕ) (words : List (List ℕ)) (later : Later) → is_dashed word ≡ false
    → word_said word words later ≡ name_said word later
name_word [] words later bare = refl
name_word (a ∷ []) words later bare = refl
name_word (a ∷ b ∷ rest) words later bare =
    ap (λ t. cond t (dashed_said b rest words later) (name_said (a ∷ b ∷ rest) later)) bare

-- What is said is read

pub said_is_found : (words : List (List ℕ)) (pieces : List Piece) → Says words pieces → said_from words None ≡ Some pieces
said_is_found _ _ says_nothing = refl
said_is_found _ _ (all_names words) = refl
said_is_found _ _ (a_name word words pieces bare behind) = name_word word words (said_from words) bare
    ∙ ap (with_piece (Named word)) (said_is_found words pieces behind)
said_is_found _ _ (a_flag words pieces behind) = ap (with_piece Units) (said_is_found words pieces behind)
said_is_found _ _ (flag_before b rest words pieces other behind) =
    ap (with_piece Units) (sym (dashed_flags b rest words (said_from words) other)
    ∙ said_is_found ((45 ∷ b ∷ rest) ∷ words) pieces behind)
said_is_found _ _ (value_within letter a b rest words pieces is behind) =
    ap (λ c. dashed_said c (b ∷ rest) words (said_from words)) (letter_is a letter is)
    ∙ dashed_option letter (b ∷ rest) words (said_from words)
    ∙ ap (with_piece (Valued letter (value_in_word b rest))) (said_is_found words pieces behind)
said_is_found _ _ (value_behind letter a value words pieces is bare behind) =
    ap (λ c. dashed_said c [] (value ∷ words) (said_from (value ∷ words))) (letter_is a letter is)
    ∙ dashed_option letter [] (value ∷ words) (said_from (value ∷ words))
    ∙ ap (λ t. cond t None (with_piece (Valued letter value) (said_from words None))) bare
    ∙ ap (with_piece (Valued letter value)) (said_is_found words pieces behind)

-- What is read is said

some_piece : (piece : Piece) (behind : Pieces) (pieces : List Piece) → with_piece piece behind ≡ Some pieces
    → (others : List Piece) × (behind ≡ Some others) × (piece ∷ others ≡ pieces)
some_piece piece None pieces h = absurd (none-some pieces h)
some_piece piece (Some others) pieces h = (others, refl, same_Some (piece ∷ others) pieces h)

-- the words say what is read, and where a value is due they say it behind an option
record AreRead (words : List (List ℕ)) : Type 0 where
  free : (pieces : List Piece) → said_from words None ≡ Some pieces → Says words pieces
  due : (letter : Letter) (a : ℕ) (pieces : List Piece) → letter_of a ≡ Some letter → said_from words (Some letter) ≡ Some pieces
      → Says ((45 ∷ a ∷ []) ∷ words) pieces

said_with : (words : List (List ℕ)) (piece : Piece) (behind : Pieces) (pieces : List Piece)
    → with_piece piece behind ≡ Some pieces
    → ((others : List Piece) → behind ≡ Some others → Says words (piece ∷ others)) → Says words pieces
said_with words piece behind pieces h says =
    let parts = some_piece piece behind pieces h in
    subst (Says words) parts.2 (says parts.0 parts.1)

no_dash : (c : ℕ) (rest : List ℕ) (later : Later) (pieces : List Piece) → flags_said (c ∷ rest) later ≡ Some pieces → c ≢ 45
no_dash c rest later pieces h is = none-some pieces (sym (ap (λ b. flags_said (b ∷ rest) later) is) ∙ h)

module _ (words : List (List ℕ)) (behind : AreRead words) where
  value_sound : (letter : Letter) (a : ℕ) (rest : List ℕ) (pieces : List Piece) → letter_of a ≡ Some letter
      → value_said letter rest (said_from words) ≡ Some pieces → Says ((45 ∷ a ∷ rest) ∷ words) pieces
  value_sound letter a [] pieces is h = behind.due letter a pieces is h
  value_sound letter a (b ∷ rest) pieces is h =
      said_with _ (Valued letter (value_in_word b rest)) (said_from words None) pieces h
      (λ others e. value_within letter a b rest words others is (behind.free others e))

  option_sound : (found : Option Letter) (a : ℕ) (rest : List ℕ) (pieces : List Piece) → letter_of a ≡ found
      → option_said found rest (said_from words) ≡ Some pieces → Says ((45 ∷ a ∷ rest) ∷ words) pieces
  option_sound None a rest pieces is h = absurd (none-some pieces h)
  option_sound (Some letter) a rest pieces is h = value_sound letter a rest pieces is h

  flag_sound : (b : ℕ) (rest : List ℕ) (pieces : List Piece) → ((c : ℕ) (more : List ℕ) (others : List Piece) → rest ≡ c ∷ more
      → flags_said (c ∷ more) (said_from words) ≡ Some others → Says ((45 ∷ c ∷ more) ∷ words) others)
      → with_piece Units (flags_said rest (said_from words)) ≡ Some pieces → Says ((45 ∷ 99 ∷ rest) ∷ words) pieces
  flag_sound b [] pieces more h =
      said_with _ Units (said_from words None) pieces h (λ others e. a_flag words others (behind.free others e))
  flag_sound b (c ∷ rest) pieces more h =
      said_with _ Units (flags_said (c ∷ rest) (said_from words)) pieces h
      (λ others e. flag_before c rest words others (no_dash c rest (said_from words) others e) (more c rest others refl e))

  flags_by : (b : ℕ) (rest : List ℕ) (pieces : List Piece) (t : Bool) → (b == 99) ≡ t
      → ((c : ℕ) (more : List ℕ) (others : List Piece) → rest ≡ c ∷ more
      → flags_said (c ∷ more) (said_from words) ≡ Some others → Says ((45 ∷ c ∷ more) ∷ words) others)
      → cond t (with_piece Units (flags_said rest (said_from words))) (option_said (letter_of b) rest (said_from words))
      ≡ Some pieces
      → Says ((45 ∷ b ∷ rest) ∷ words) pieces
  flags_by b rest pieces true e more h =
      subst (λ c. Says ((45 ∷ c ∷ rest) ∷ words) pieces) (sym (eqb-true b 99 e)) (flag_sound b rest pieces more h)
  flags_by b rest pieces false e more h = option_sound (letter_of b) b rest pieces refl h

  flags_sound : (rest : List ℕ) (b : ℕ) (pieces : List Piece) → flags_said (b ∷ rest) (said_from words) ≡ Some pieces
      → Says ((45 ∷ b ∷ rest) ∷ words) pieces
  flags_sound [] b pieces h = flags_by b [] pieces (b == 99) refl (λ c more others e. absurd (no_cons c more e)) h where
    no_cons : (c : ℕ) (more : List ℕ) → [] ≡ c ∷ more → ⊥
    no_cons c more e = cc
  flags_sound (c ∷ rest) b pieces h = flags_by b (c ∷ rest) pieces (b == 99) refl (again (flags_sound rest c)) h where
    again : ((others : List Piece) → flags_said (c ∷ rest) (said_from words) ≡ Some others
        → Says ((45 ∷ c ∷ rest) ∷ words) others)
        → (d : ℕ) (more : List ℕ) (others : List Piece) → c ∷ rest ≡ d ∷ more
        → flags_said (d ∷ more) (said_from words) ≡ Some others → Says ((45 ∷ d ∷ more) ∷ words) others
    again says d more others e =
        subst (λ (xs : List ℕ). flags_said xs (said_from words) ≡ Some others → Says ((45 ∷ xs) ∷ words) others) e (says others)

  names_sound : (a : ℕ) (pieces : List Piece) (t : Bool) → (a == 45) ≡ t
      → cond t (Some (map Named words)) (flags_said (a ∷ []) (said_from words)) ≡ Some pieces
      → Says ((45 ∷ a ∷ []) ∷ words) pieces
  names_sound a pieces true e h =
      subst (Says ((45 ∷ a ∷ []) ∷ words)) (same_Some (map Named words) pieces h)
      (subst (λ c. Says ((45 ∷ c ∷ []) ∷ words) (map Named words)) (sym (eqb-true a 45 e)) (all_names words))
  names_sound a pieces false e h = flags_sound [] a pieces h

  dashed_sound : (a : ℕ) (rest : List ℕ) (pieces : List Piece) → dashed_said a rest words (said_from words) ≡ Some pieces
      → Says ((45 ∷ a ∷ rest) ∷ words) pieces
  dashed_sound a [] pieces h = names_sound a pieces (a == 45) refl h
  dashed_sound a (b ∷ rest) pieces h = flags_sound (b ∷ rest) a pieces h

  name_sound : (word : List ℕ) (pieces : List Piece) → is_dashed word ≡ false → name_said word (said_from words) ≡ Some pieces
      → Says (word ∷ words) pieces
  name_sound word pieces bare h =
      said_with _ (Named word) (said_from words None) pieces h (λ others e. a_name word words others bare (behind.free others e))

  word_by : (a b : ℕ) (rest : List ℕ) (pieces : List Piece) (t : Bool) → (a == 45) ≡ t
      → cond t (dashed_said b rest words (said_from words)) (name_said (a ∷ b ∷ rest) (said_from words)) ≡ Some pieces
      → Says ((a ∷ b ∷ rest) ∷ words) pieces
  word_by a b rest pieces true e h =
      subst (λ c. Says ((c ∷ b ∷ rest) ∷ words) pieces) (sym (eqb-true a 45 e)) (dashed_sound b rest pieces h)
  word_by a b rest pieces false e h = name_sound (a ∷ b ∷ rest) pieces e h

  word_sound : (word : List ℕ) (pieces : List Piece) → word_said word words (said_from words) ≡ Some pieces
      → Says (word ∷ words) pieces
  word_sound [] pieces h = name_sound [] pieces refl h
  word_sound (a ∷ []) pieces h = name_sound (a ∷ []) pieces refl h
  word_sound (a ∷ b ∷ rest) pieces h = word_by a b rest pieces (a == 45) refl h

  due_by : (letter : Letter) (a : ℕ) (word : List ℕ) (pieces : List Piece) (t : Bool) → is_dashed word ≡ t
      → letter_of a ≡ Some letter
      → cond t None (with_piece (Valued letter word) (said_from words None)) ≡ Some pieces
      → Says ((45 ∷ a ∷ []) ∷ word ∷ words) pieces
  due_by letter a word pieces true e is h = absurd (none-some pieces h)
  due_by letter a word pieces false e is h =
      said_with _ (Valued letter word) (said_from words None) pieces h
      (λ others f. value_behind letter a word words others is e (behind.free others f))

  one_more : (word : List ℕ) → AreRead (word ∷ words)
  one_more word = record {
    free = word_sound word;
    due = λ letter a pieces is h. due_by letter a word pieces (is_dashed word) refl is h;
  }

no_words : AreRead []
no_words = record {
  free = λ pieces h. subst (Says []) (same_Some [] pieces h) says_nothing;
  due = λ letter a pieces is h. absurd (none-some pieces h);
}

all_read : (words : List (List ℕ)) → AreRead words
all_read [] = no_words
all_read (word ∷ words) = one_more words (all_read words) word

pub pieces_are_said : (words : List (List ℕ)) (pieces : List Piece) → said_from words None ≡ Some pieces → Says words pieces
pieces_are_said words = (all_read words).free
