-- What is read is the spelling of what it is read as.
use Rattle.std.proofs.Common.{◌==◌, ◌≡◌, ℕ, pos, ◌+◌, ◌-◌, ◌*◌, ◌/◌, ◌%◌, ◌<◌, ◌≤◌, zero, suc, Bool, true, false, cond, ◌&&◌, ◌||◌, nat_le, nat_lt, List, [], ◌∷◌, ◌++◌, length, take, drop, map, Option, None, Some, refl, sym, ◌∙◌, ap, subst, arith, ◌⊎◌, inl, inr}
use Rattle.std.specs.Prelude.{codes}
use Rattle.std.specs.Fmt.{decimal}
use Rattle.std.specs.List.{prefix_len, list_any, flat_map}
use Rattle.std.specs.Option.{option_map, option_and_then}
use Rattle.std.specs.Str.{bytes_eq}
use Rattle.std.specs.Cmp.Lexicographic.{same_text}
use Rattle.std.proofs.lemmas.Bool.{cond-true, cond-false, eqb-true, cases_lt, ne_eqb}
use Rattle.std.proofs.lemmas.Bool.Decides.{nat_tests}
use Rattle.std.proofs.lemmas.Option.{none-some, same_Some}
use Rattle.icn_text.specs.declared.keyword.Keyword.{Keyword}
use Rattle.icn_text.specs.declared.op.TheConstants.Op.{ALL as ops}
use Rattle.icn_text.specs.Keywords.{keyword_name}
use Rattle.icn_text.specs.Ops.{op_number}
use Rattle.icn_defs.specs.Numbers.{op_of}
use Rattle.icn_defs.proofs.FoundFacts.{found_number}
use Rattle.icn_tree.specs.Spellings.{lookup_text}
use Rattle.icn_unit.specs.declared.instr_word.InstrWord.{InstrWord}
use Rattle.icn_unit.specs.declared.instr_word.InstrWord.TheVariants.{Pnull, Int, Str, Cset, Var, Keywd, Pop, Dup, Op, Llist, Field, Invoke, Appl, Mark, Mark0, Unmark, Eret, Esusp, Limit, Lsusp, Efail, Chfail, Goto, Loop, Bscan, Escan, Ccase, Init, Psusp, Pret, Pfail, Create, Coact, Coret, Cofail, Lab}
use Rattle.icn_unit.specs.declared.unit.UnitInstr.{UnitInstr}
use Rattle.icn_unit.specs.declared.unit.UnitInstr.TheVariants.{Pnull as IPnull, Int as IInt, Str as IStr, Cset as ICset, Var as IVar, Keywd as IKeywd, Pop as IPop, Dup as IDup, Op as IOp, Llist as ILlist, Field as IField, Invoke as IInvoke, Appl as IAppl, Mark as IMark, Mark0 as IMark0, Unmark as IUnmark, Eret as IEret, Esusp as IEsusp, Limit as ILimit, Lsusp as ILsusp, Efail as IEfail, Chfail as IChfail, Goto as IGoto, Loop as ILoop, Bscan as IBscan, Escan as IEscan, Ccase as ICcase, Init as IInit, Psusp as IPsusp, Pret as IPret, Pfail as IPfail, Create as ICreate, Coact as ICoact, Coret as ICoret, Cofail as ICofail, Lab as ILab}
use Rattle.icn_unit.specs.InstrWords.{word_text, instr_words, instr_word_of, word_of, alone_of}
use Rattle.icn_ucode.specs.UnitReading.{instr_of, operand_instr}
use Rattle.icn_tree.specs.ByteSets.{members_below, members_of}
use Rattle.icn_tree.specs.Characters.{is_digit, is_between}
use Rattle.icn_unit.specs.UnitOperands.{first_field, behind, is_inside, number_of, value_from, label_of, is_hexadecimal, hexadecimal_value, hexadecimal_bytes, bytes_of, ascends, is_name, keyword_of, keywords}
use Rattle.icn_ucode.proofs.ListTests.{and_parts}
use Rattle.icn_unit.specs.UnitTexts.{hexadecimal_digit, byte_text, bytes_text, label_text, operand_text}

abbrev pub rest_text : Option (List ℕ) → List ℕ
rest_text None = []
rest_text (Some rest) = 32 ∷ rest

-- the words of a line are the line
pub cut_all : (text : List ℕ) → text ≡ (first_field text).0 ++ rest_text (first_field text).1
cut_all [] = refl
cut_all (b ∷ text) = by_blank (b == 32) refl (cut_all text) where
  by_blank : (test : Bool) → (b == 32) ≡ test → text ≡ (first_field text).0 ++ rest_text (first_field text).1
      → b ∷ text ≡ take (cond (cond test false true) (1 + prefix_len is_inside text) 0) (b ∷ text)
      ++ rest_text (behind (drop (cond (cond test false true) (1 + prefix_len is_inside text) 0) (b ∷ text)))
  by_blank true t rest = ap (λ c. c ∷ text) (eqb-true b 32 t)
  by_blank false t rest = let more : 1 + prefix_len is_inside text ≡ suc (prefix_len is_inside text) = omega arith in rw more (ap (λ xs. b ∷ xs) rest)

-- what a choice found
pub found_if : {A : Type 0} (test : Bool) (x y : A) → ◌≡◌ {A = Option A} (cond test (Some x) None) (Some y) → (test ≡ true) × (x ≡ y)
found_if true x y e = (refl, same_Some x y e)
found_if false x y e = absurd (none-some y e)

pub number_text : (greatest : ℕ) (text : List ℕ) (n : ℕ) → number_of greatest text ≡ Some n → decimal n ≡ text
number_text greatest text n e =
    let found = found_if (nat_le (value_from 0 text) greatest && bytes_eq (decimal (value_from 0 text)) text) (value_from 0 text) n e in
    let same = (and_parts (nat_le (value_from 0 text) greatest) (bytes_eq (decimal (value_from 0 text)) text) found.0).1 in
    ap decimal (sym found.1) ∙ same_text (decimal (value_from 0 text)) text (sym same)

pub label_spelled : (text : List ℕ) (n : ℕ) → label_of text ≡ Some n → label_text n ≡ text
label_spelled [] n e = absurd (none-some n e)
label_spelled (b ∷ rest) n e = by_letter (b == 76) refl e where
  by_letter : (test : Bool) → (b == 76) ≡ test → cond test (number_of 4294967295 rest) None ≡ Some n → label_text n ≡ b ∷ rest
  by_letter true t e = ap (λ c. c ∷ decimal n) (sym (eqb-true b 76 t)) ∙ ap (λ xs. b ∷ xs) (number_text 4294967295 rest n e)
  by_letter false t e = absurd (none-some n e)

-- Bytes

digit_again : (b : ℕ) → is_hexadecimal b ≡ true → (hexadecimal_digit (hexadecimal_value b) ≡ b) × (hexadecimal_value b ≤ 15)
digit_again b h = by_digit (is_digit b) refl where
  range : is_digit b ≡ true → (48 ≤ b) × (b ≤ 57)
  range d = (grind (arith, nat_tests), grind (arith, nat_tests))

  letter : is_digit b ≡ false → (97 ≤ b) × (b ≤ 102)
  letter d = let l : is_between 97 102 b ≡ true = sym (ap (λ x. x || is_between 97 102 b) d) ∙ h in (grind (arith, nat_tests), grind (arith, nat_tests))

  by_digit : (test : Bool) → is_digit b ≡ test
      → (cond (nat_lt (cond test (b - 48) (b - 87)) 10) (cond test (b - 48) (b - 87) + 48) (cond test (b - 48) (b - 87) + 87) ≡ b)
      × (cond test (b - 48) (b - 87) ≤ 15)
  by_digit true d =
      let r = range d in (cond-true (nat_lt (b - 48) 10) _ _ (grind (arith, nat_tests, r.0, r.1)) ∙ omega (arith, r.0, r.1), omega (arith, r.0, r.1))
  by_digit false d =
      let r = letter d in (cond-false (nat_lt (b - 87) 10) _ _ (grind (arith, nat_tests, r.0, r.1)) ∙ omega (arith, r.0, r.1), omega (arith, r.0, r.1))

byte_again : (a b : ℕ) → is_hexadecimal a ≡ true → is_hexadecimal b ≡ true → byte_text (hexadecimal_value a * 16 + hexadecimal_value b) ≡ a ∷ b ∷ []
byte_again a b h g =
    let x = digit_again a h in
    let y = digit_again b g in
    let high : (hexadecimal_value a * 16 + hexadecimal_value b) / 16 ≡ hexadecimal_value a = omega (arith, y.1) in
    let low : (hexadecimal_value a * 16 + hexadecimal_value b) % 16 ≡ hexadecimal_value b = omega (arith, y.1) in
    rw (high, low, x.0, y.0) refl

-- all bytes are below 256
abbrev pub AreBytes : List ℕ → Type 0
AreBytes [] = Unit {0}
AreBytes (b ∷ rest) = (b < 256) × AreBytes rest

pub hexadecimal_spelled : (text bytes : List ℕ) → hexadecimal_bytes text ≡ Some bytes → (flat_map byte_text bytes ≡ text) × AreBytes bytes
hexadecimal_spelled [] bytes e = subst (λ (bytes : List ℕ). (flat_map byte_text bytes ≡ []) × AreBytes bytes) (same_Some [] bytes e) (refl, tt)
hexadecimal_spelled (a ∷ []) bytes e = absurd (none-some bytes e)
hexadecimal_spelled (a ∷ b ∷ rest) bytes e =
    by_test (is_hexadecimal a && is_hexadecimal b) refl (hexadecimal_bytes rest) refl (hexadecimal_spelled rest) e where
      by_test : (test : Bool) → (is_hexadecimal a && is_hexadecimal b) ≡ test → (found : Option (List ℕ)) → hexadecimal_bytes rest ≡ found
          → ((more : List ℕ) → hexadecimal_bytes rest ≡ Some more → (flat_map byte_text more ≡ rest) × AreBytes more)
          → cond test (option_map (λ more. (hexadecimal_value a * 16 + hexadecimal_value b) ∷ more) found) None ≡ Some bytes
          → (flat_map byte_text bytes ≡ a ∷ b ∷ rest) × AreBytes bytes
      by_test true t (Some more) f later e =
          let parts = and_parts (is_hexadecimal a) (is_hexadecimal b) t in
          let below = later more f in
          let small : hexadecimal_value a * 16 + hexadecimal_value b < 256 = omega (arith, (digit_again a parts.0).1, (digit_again b parts.1).1) in
          subst (λ (bytes : List ℕ). (flat_map byte_text bytes ≡ a ∷ b ∷ rest) × AreBytes bytes) (same_Some _ bytes e)
          (ap (λ front. front ++ flat_map byte_text more) (byte_again a b parts.0 parts.1) ∙ ap (λ xs. a ∷ b ∷ xs) below.0, (small, below.1))
      by_test true t None f later e = absurd (none-some bytes e)
      by_test false t found f later e = absurd (none-some bytes e)

some_text : (bytes : List ℕ) → 0 < length (flat_map byte_text bytes) → bytes_text bytes ≡ flat_map byte_text bytes
some_text [] h = absurd (omega arith)
some_text (b ∷ rest) h = refl

pub bytes_spelled : (text bytes : List ℕ) → bytes_of text ≡ Some bytes → (bytes_text bytes ≡ text) × AreBytes bytes
bytes_spelled text bytes e = by_dash (bytes_eq text (codes "-")) refl e where
  by_len : (test : Bool) → (nat_le 1 (length text) && nat_le (length text) 131070) ≡ test → cond test (hexadecimal_bytes text) None ≡ Some bytes
      → (bytes_text bytes ≡ text) × AreBytes bytes
  by_len true t e =
      let found = hexadecimal_spelled text bytes e in
      let some : nat_le 1 (length text) ≡ true = (and_parts (nat_le 1 (length text)) (nat_le (length text) 131070) t).0 in
      let long : 1 ≤ length text = grind (arith, nat_tests) in
      (some_text bytes (omega (arith, ap length found.0)) ∙ found.0, found.1)
  by_len false t e = absurd (none-some bytes e)

  by_dash : (test : Bool) → bytes_eq text (codes "-") ≡ test
      → cond test (Some []) (cond (nat_le 1 (length text) && nat_le (length text) 131070) (hexadecimal_bytes text) None) ≡ Some bytes
      → (bytes_text bytes ≡ text) × AreBytes bytes
  by_dash true t e =
      subst (λ (bytes : List ℕ). (bytes_text bytes ≡ text) × AreBytes bytes) (same_Some [] bytes e) (sym (same_text text (codes "-") (sym t)), tt)
  by_dash false t e = by_len (nat_le 1 (length text) && nat_le (length text) 131070) refl e

-- Sets

ltb_next : (n : ℕ) → nat_lt n (suc n) ≡ true
ltb_next n = grind (arith, nat_tests)

ltb_same : (n : ℕ) → nat_lt n n ≡ false
ltb_same n = grind (arith, nat_tests)

eqb_same : (n : ℕ) → (n == n) ≡ true
eqb_same n = grind arith

below : ℕ → List ℕ → List ℕ
below n [] = []
below n (b ∷ rest) = cond (nat_lt b n) (b ∷ below n rest) []

-- all bytes from a number on
abbrev AreFrom : ℕ → List ℕ → Type 0
AreFrom n [] = Unit {0}
AreFrom n (b ∷ rest) = (n ≤ b) × AreFrom n rest

lower : (m n : ℕ) (bytes : List ℕ) → m ≤ n → AreFrom n bytes → AreFrom m bytes
lower m n [] h all = tt
lower m n (b ∷ rest) h all = (omega (arith, all.0), lower m n rest h all.1)

lt_of : (a b : ℕ) → nat_lt a b ≡ true → a < b
lt_of a b h = grind (arith, nat_tests)

from_next : (b : ℕ) (rest : List ℕ) → ascends (b ∷ rest) ≡ true → AreFrom (suc b) rest
from_next b [] h = tt
from_next b (c ∷ rest) h =
    let parts = and_parts (nat_lt b c) (ascends (c ∷ rest)) h in
    let less = lt_of b c parts.0 in
    (omega (arith, less), lower (suc b) (suc c) rest (omega (arith, less)) (from_next c rest parts.1))

ascends_rest : (b : ℕ) (rest : List ℕ) → ascends (b ∷ rest) ≡ true → ascends rest ≡ true
ascends_rest b [] h = refl
ascends_rest b (c ∷ rest) h = (and_parts (nat_lt b c) (ascends (c ∷ rest)) h).1

none_below : (n : ℕ) (bytes : List ℕ) → AreFrom n bytes → below n bytes ≡ []
unfolding below
none_below n [] all = refl
none_below n (b ∷ rest) all = cond-false (nat_lt b n) _ _ (grind (arith, nat_tests, all.0))

none_equal : (n : ℕ) (bytes : List ℕ) → AreFrom (suc n) bytes → list_any (λ b. b == n) bytes ≡ false
none_equal n [] all = refl
none_equal n (b ∷ rest) all = rw (ne_eqb b n (λ e. omega (arith, all.0)), none_equal n rest all.1) refl

below_step : (n b : ℕ) (rest : List ℕ) → AreFrom (suc b) rest → below (suc n) rest ≡ below n rest ++ cond (list_any (λ c. c == n) rest) (n ∷ []) []
    → below (suc n) (b ∷ rest) ≡ below n (b ∷ rest) ++ cond (list_any (λ c. c == n) (b ∷ rest)) (n ∷ []) []
unfolding below
below_step n b rest all more = by_order (cases_lt b n) where
  by_over : (b < suc n) ⊎ (suc n ≤ b) → n ≤ b
      → cond (nat_lt b (suc n)) (b ∷ below (suc n) rest) [] ≡ cond (nat_lt b n) (b ∷ below n rest) [] ++ cond (list_any (λ c. c == n) (b ∷ rest)) (n ∷ []) []
  by_over (inl l) h =
      let same : b ≡ n = omega arith in
      rw (same, ltb_next n, ltb_same n, eqb_same n) (ap (λ xs. n ∷ xs) (none_below (suc n) rest (subst (λ (k : ℕ). AreFrom (suc k) rest) same all)))
  by_over (inr g) h =
      let over : nat_lt b (suc n) ≡ false = grind (arith, nat_tests) in
      let also : nat_lt b n ≡ false = grind (arith, nat_tests) in
      let other : (b == n) ≡ false = ne_eqb b n (λ e. omega arith) in
      rw (over, also, other, none_equal n rest (lower (suc n) (suc b) rest (omega arith) all)) refl

  by_order : (b < n) ⊎ (n ≤ b)
      → cond (nat_lt b (suc n)) (b ∷ below (suc n) rest) [] ≡ cond (nat_lt b n) (b ∷ below n rest) [] ++ cond (list_any (λ c. c == n) (b ∷ rest)) (n ∷ []) []
  by_order (inl l) =
      let under : nat_lt b (suc n) ≡ true = grind (arith, nat_tests) in
      let also : nat_lt b n ≡ true = grind (arith, nat_tests) in
      let other : (b == n) ≡ false = ne_eqb b n (λ e. omega arith) in
      rw (under, also, other) (ap (λ xs. b ∷ xs) more)
  by_order (inr h) = by_over (cases_lt b (suc n)) h

below_suc : (n : ℕ) (bytes : List ℕ) → ascends bytes ≡ true → below (suc n) bytes ≡ below n bytes ++ cond (list_any (λ b. b == n) bytes) (n ∷ []) []
unfolding below
below_suc n [] h = refl
below_suc n (b ∷ rest) h = below_step n b rest (from_next b rest h) (below_suc n rest (ascends_rest b rest h))

members_are : (n : ℕ) (bytes : List ℕ) → ascends bytes ≡ true → members_below n bytes ≡ below n bytes
unfolding members_below
members_are zero bytes h = sym (none_below 0 bytes (from_zero bytes)) where
  from_zero : (bytes : List ℕ) → AreFrom 0 bytes
  from_zero [] = tt
  from_zero (b ∷ rest) = (omega arith, from_zero rest)
members_are (suc n) bytes h = ap (λ xs. xs ++ cond (list_any (λ b. b == n) bytes) (n ∷ []) []) (members_are n bytes h) ∙ sym (below_suc n bytes h)

all_below : (bytes : List ℕ) → AreBytes bytes → below 256 bytes ≡ bytes
unfolding below
all_below [] all = refl
all_below (b ∷ rest) all = cond-true (nat_lt b 256) _ _ (grind (arith, nat_tests, all.0)) ∙ ap (λ xs. b ∷ xs) (all_below rest all.1)

pub members_same : (bytes : List ℕ) → ascends bytes ≡ true → AreBytes bytes → members_of bytes ≡ bytes
members_same bytes h all = members_are 256 bytes h ∙ all_below bytes all

-- Words, keywords and operations

-- each row of a table is spelled by its text
abbrev RowsSpell : {A : Type 0} → (A → List ℕ) → List (List ℕ × A) → Type 0
RowsSpell text [] = Unit {0}
RowsSpell text (row ∷ rows) = (text row.1 ≡ row.0) × RowsSpell text rows

row_spelled : {A : Type 0} (text : A → List ℕ) (rows : List (List ℕ × A)) (word : List ℕ) (x : A) → RowsSpell text rows → lookup_text rows word ≡ Some x
    → text x ≡ word
row_spelled text [] word x h e = absurd (none-some x e)
row_spelled text (row ∷ rows) word x h e = by_test (bytes_eq word row.0) refl e (row_spelled text rows word x h.1) where
  by_test : (test : Bool) → bytes_eq word row.0 ≡ test → cond test (Some row.1) (lookup_text rows word) ≡ Some x
      → (lookup_text rows word ≡ Some x → text x ≡ word) → text x ≡ word
  by_test true t e later = ap text (sym (same_Some row.1 x e)) ∙ (h.0 ∙ sym (same_text word row.0 (sym t)))
  by_test false t e later = later e

choose_rows : {A : Type 0} (text : A → List ℕ) (test : Bool) (x y : List (List ℕ × A)) → RowsSpell text x → RowsSpell text y → RowsSpell text (cond test x y)
choose_rows text true x y h g = h
choose_rows text false x y h g = g

words_spell : (b : ℕ) → RowsSpell word_text (instr_words b)
unfolding instr_words
words_spell b = choose_rows word_text (b == 97) _ _ (refl, tt) (choose_rows word_text (b == 98) _ _ (refl, tt)
    (choose_rows word_text (b == 99) _ _ (refl, (refl, (refl, (refl, (refl, (refl, (refl, tt))))))) (choose_rows word_text (b == 100) _ _ (refl, tt)
    (choose_rows word_text (b == 101) _ _ (refl, (refl, (refl, (refl, tt)))) (choose_rows word_text (b == 102) _ _ (refl, tt)
    (choose_rows word_text (b == 103) _ _ (refl, tt) (choose_rows word_text (b == 105) _ _ (refl, (refl, (refl, tt))) (choose_rows word_text (b == 107)
    _ _ (refl, tt) (choose_rows word_text (b == 108) _ _ (refl, (refl, (refl, (refl, (refl, tt))))) (choose_rows word_text (b == 109) _ _ (refl, (refl, tt))
    (choose_rows word_text (b == 111) _ _ (refl, tt) (choose_rows word_text (b == 112) _ _ (refl, (refl, (refl, (refl, (refl, tt))))) (choose_rows word_text
    (b == 115) _ _ (refl, tt) (choose_rows word_text (b == 117) _ _ (refl, tt) (choose_rows word_text (b == 118) _ _ (refl, tt) (tt))))))))))))))))

pub word_spelled : (text : List ℕ) (word : InstrWord) → instr_word_of text ≡ Some word → word_text word ≡ text
word_spelled [] word e = absurd (none-some word e)
word_spelled (b ∷ rest) word e = row_spelled word_text (instr_words b) (b ∷ rest) word (words_spell b) e

keyword_rows : (all : List Keyword) → RowsSpell keyword_name (map (λ (keyword : Keyword). (keyword_name keyword, keyword)) all)
keyword_rows [] = tt
keyword_rows (keyword ∷ all) = (refl, keyword_rows all)

keyword_spelled : (text : List ℕ) (keyword : Keyword) → keyword_of text ≡ Some keyword → keyword_name keyword ≡ text
unfolding keyword_of
keyword_spelled text keyword e =
    row_spelled keyword_name (map (λ (keyword : Keyword). (keyword_name keyword, keyword)) keywords) text keyword (keyword_rows keywords) e

-- Instructions

-- an instruction is spelled by a word and what stands behind it
abbrev SpelledBy : InstrWord → List ℕ → UnitInstr → Type 0
SpelledBy word rest instr = word_text word ++ rest ≡ word_text (word_of instr) ++ operand_text instr

same_instr : (word : InstrWord) (rest : List ℕ) (x instr : UnitInstr) → ◌≡◌ {A = Option UnitInstr} (Some x) (Some instr) → SpelledBy word rest x
    → SpelledBy word rest instr
same_instr word rest x instr e h = subst (λ (instr : UnitInstr). SpelledBy word rest instr) (same_Some x instr e) h

mapped : {A : Type 0} (word : InstrWord) (text : List ℕ) (make : A → UnitInstr) (spell : A → List ℕ) (found : Option A) (instr : UnitInstr)
    → ((x : A) → found ≡ Some x → spell x ≡ text)
    → ((x : A) → SpelledBy word (32 ∷ spell x) (make x)) → option_map make found ≡ Some instr → SpelledBy word (32 ∷ text) instr
mapped word text make spell None instr h g e = absurd (none-some instr e)
mapped word text make spell (Some x) instr h g e = same_instr word (32 ∷ text) (make x) instr e (ap (λ t. word_text word ++ 32 ∷ t) (sym (h x refl)) ∙ g x)

alone_spelled : (word : InstrWord) (instr : UnitInstr) → alone_of word ≡ Some instr → SpelledBy word [] instr
alone_spelled Pnull instr e = same_instr Pnull [] IPnull instr e refl
alone_spelled Int instr e = absurd (none-some instr e)
alone_spelled Str instr e = absurd (none-some instr e)
alone_spelled Cset instr e = absurd (none-some instr e)
alone_spelled Var instr e = absurd (none-some instr e)
alone_spelled Keywd instr e = absurd (none-some instr e)
alone_spelled Pop instr e = same_instr Pop [] IPop instr e refl
alone_spelled Dup instr e = same_instr Dup [] IDup instr e refl
alone_spelled Op instr e = absurd (none-some instr e)
alone_spelled Llist instr e = absurd (none-some instr e)
alone_spelled Field instr e = absurd (none-some instr e)
alone_spelled Invoke instr e = absurd (none-some instr e)
alone_spelled Appl instr e = same_instr Appl [] IAppl instr e refl
alone_spelled Mark instr e = absurd (none-some instr e)
alone_spelled Mark0 instr e = same_instr Mark0 [] IMark0 instr e refl
alone_spelled Unmark instr e = same_instr Unmark [] IUnmark instr e refl
alone_spelled Eret instr e = same_instr Eret [] IEret instr e refl
alone_spelled Esusp instr e = same_instr Esusp [] IEsusp instr e refl
alone_spelled Limit instr e = same_instr Limit [] ILimit instr e refl
alone_spelled Lsusp instr e = same_instr Lsusp [] ILsusp instr e refl
alone_spelled Efail instr e = same_instr Efail [] IEfail instr e refl
alone_spelled Chfail instr e = absurd (none-some instr e)
alone_spelled Goto instr e = absurd (none-some instr e)
alone_spelled Loop instr e = absurd (none-some instr e)
alone_spelled Bscan instr e = same_instr Bscan [] IBscan instr e refl
alone_spelled Escan instr e = same_instr Escan [] IEscan instr e refl
alone_spelled Ccase instr e = same_instr Ccase [] ICcase instr e refl
alone_spelled Init instr e = absurd (none-some instr e)
alone_spelled Psusp instr e = same_instr Psusp [] IPsusp instr e refl
alone_spelled Pret instr e = same_instr Pret [] IPret instr e refl
alone_spelled Pfail instr e = same_instr Pfail [] IPfail instr e refl
alone_spelled Create instr e = absurd (none-some instr e)
alone_spelled Coact instr e = same_instr Coact [] ICoact instr e refl
alone_spelled Coret instr e = same_instr Coret [] ICoret instr e refl
alone_spelled Cofail instr e = same_instr Cofail [] ICofail instr e refl
alone_spelled Lab instr e = absurd (none-some instr e)

pub no_label : {A B : Type 0} (found : Option A) (x : B) → option_and_then (λ (a : A). None) found ≡ Some x → ⊥
no_label None x e = none-some x e
no_label (Some a) x e = none-some x e

labelled_spelled : (word : InstrWord) (text : List ℕ) (make : ℕ → UnitInstr) (instr : UnitInstr) → ((n : ℕ) → SpelledBy word (32 ∷ label_text n) (make n))
    → option_and_then (λ label. Some (make label)) (label_of text) ≡ Some instr
    → SpelledBy word (32 ∷ text) instr
labelled_spelled word text make instr g e = by_found (label_of text) refl e where
  by_found : (found : Option ℕ) → label_of text ≡ found → option_and_then (λ label. Some (make label)) found ≡ Some instr → SpelledBy word (32 ∷ text) instr
  by_found None f e = absurd (none-some instr e)
  by_found (Some n) f e = same_instr word (32 ∷ text) (make n) instr e (ap (λ t. word_text word ++ 32 ∷ t) (sym (label_spelled text n f)) ∙ g n)

pub guarded : {A : Type 0} (found : Option A) (test : A → Bool) (make : A → UnitInstr) (instr : UnitInstr) (P : UnitInstr → Type 0)
    → ((x : A) → found ≡ Some x → test x ≡ true → P (make x))
    → option_and_then (λ x. cond (test x) (Some (make x)) None) found ≡ Some instr → P instr
guarded None test make instr P h e = absurd (none-some instr e)
guarded (Some x) test make instr P h e = by_test (test x) refl e where
  by_test : (b : Bool) → test x ≡ b → cond b (Some (make x)) None ≡ Some instr → P instr
  by_test true t e = subst P (same_Some (make x) instr e) (h x refl t)
  by_test false t e = absurd (none-some instr e)

chained : (text : List ℕ) (found : Option ℕ) (instr : UnitInstr) → number_of 4294967295 text ≡ found
    → option_and_then (λ n. option_map (λ op. IOp op) (op_of n)) found ≡ Some instr → SpelledBy Op (32 ∷ text) instr
chained text None instr f e = absurd (none-some instr e)
chained text (Some n) instr f e =
    mapped Op text (λ op. IOp op) (λ op. decimal (op_number op)) (op_of n) instr
    (λ op o. ap decimal (found_number op_number ops n op o) ∙ number_text 4294967295 text n f) (λ op. refl) e

named : (text : List ℕ) (instr : UnitInstr) (test : Bool) → cond test (Some (IField text)) None ≡ Some instr → SpelledBy Field (32 ∷ text) instr
named text instr true e = same_instr Field (32 ∷ text) (IField text) instr e refl
named text instr false e = absurd (none-some instr e)

operand_spelled : (word : InstrWord) (text : List ℕ) (names : ℕ) (instr : UnitInstr) → operand_instr word text names ≡ Some instr
    → SpelledBy word (32 ∷ text) instr
operand_spelled Pnull text names instr e = absurd (no_label (label_of text) instr e)
operand_spelled Int text names instr e = mapped Int text (λ n. IInt (pos n)) (λ n. decimal n) (number_of 9223372036854775807 text) instr
    (λ n f. number_text 9223372036854775807 text n f) (λ n. refl) e
operand_spelled Str text names instr e =
    mapped Str text (λ bytes. IStr bytes) bytes_text (bytes_of text) instr (λ bytes f. (bytes_spelled text bytes f).0) (λ bytes. refl) e
operand_spelled Cset text names instr e = guarded (bytes_of text) ascends (λ bytes. ICset (members_of bytes)) instr (λ instr. SpelledBy Cset (32 ∷ text) instr)
    (λ bytes f t. let found = bytes_spelled text bytes f in
    ap (λ xs. word_text Cset ++ 32 ∷ xs) (sym found.0) ∙ ap (λ xs. word_text Cset ++ 32 ∷ bytes_text xs) (sym (members_same bytes t found.1))) e
operand_spelled Var text names instr e = guarded (number_of 4294967295 text) (λ n. nat_lt n names) (λ n. IVar n) instr
    (λ instr. SpelledBy Var (32 ∷ text) instr) (λ n f t. ap (λ xs. word_text Var ++ 32 ∷ xs) (sym (number_text 4294967295 text n f))) e
operand_spelled Keywd text names instr e =
    mapped Keywd text (λ keyword. IKeywd keyword) keyword_name (keyword_of text) instr (λ keyword f. keyword_spelled text keyword f) (λ keyword. refl) e
operand_spelled Pop text names instr e = absurd (no_label (label_of text) instr e)
operand_spelled Dup text names instr e = absurd (no_label (label_of text) instr e)
operand_spelled Op text names instr e = chained text (number_of 4294967295 text) instr refl e
operand_spelled Llist text names instr e =
    mapped Llist text (λ n. ILlist n) (λ n. decimal n) (number_of 4294967295 text) instr (λ n f. number_text 4294967295 text n f) (λ n. refl) e
operand_spelled Field text names instr e = named text instr (is_name text) e
operand_spelled Invoke text names instr e =
    mapped Invoke text (λ n. IInvoke n) (λ n. decimal n) (number_of 4294967295 text) instr (λ n f. number_text 4294967295 text n f) (λ n. refl) e
operand_spelled Appl text names instr e = absurd (no_label (label_of text) instr e)
operand_spelled Mark text names instr e = labelled_spelled Mark text (λ n. IMark n) instr (λ n. refl) e
operand_spelled Mark0 text names instr e = absurd (no_label (label_of text) instr e)
operand_spelled Unmark text names instr e = absurd (no_label (label_of text) instr e)
operand_spelled Eret text names instr e = absurd (no_label (label_of text) instr e)
operand_spelled Esusp text names instr e = absurd (no_label (label_of text) instr e)
operand_spelled Limit text names instr e = absurd (no_label (label_of text) instr e)
operand_spelled Lsusp text names instr e = absurd (no_label (label_of text) instr e)
operand_spelled Efail text names instr e = absurd (no_label (label_of text) instr e)
operand_spelled Chfail text names instr e = labelled_spelled Chfail text (λ n. IChfail n) instr (λ n. refl) e
operand_spelled Goto text names instr e = labelled_spelled Goto text (λ n. IGoto n) instr (λ n. refl) e
operand_spelled Loop text names instr e = labelled_spelled Loop text (λ n. ILoop n) instr (λ n. refl) e
operand_spelled Bscan text names instr e = absurd (no_label (label_of text) instr e)
operand_spelled Escan text names instr e = absurd (no_label (label_of text) instr e)
operand_spelled Ccase text names instr e = absurd (no_label (label_of text) instr e)
operand_spelled Init text names instr e = labelled_spelled Init text (λ n. IInit n) instr (λ n. refl) e
operand_spelled Psusp text names instr e = absurd (no_label (label_of text) instr e)
operand_spelled Pret text names instr e = absurd (no_label (label_of text) instr e)
operand_spelled Pfail text names instr e = absurd (no_label (label_of text) instr e)
operand_spelled Create text names instr e = labelled_spelled Create text (λ n. ICreate n) instr (λ n. refl) e
operand_spelled Coact text names instr e = absurd (no_label (label_of text) instr e)
operand_spelled Coret text names instr e = absurd (no_label (label_of text) instr e)
operand_spelled Cofail text names instr e = absurd (no_label (label_of text) instr e)
operand_spelled Lab text names instr e = labelled_spelled Lab text (λ n. ILab n) instr (λ n. refl) e

pub instr_spelled : (word : InstrWord) (operand : Option (List ℕ)) (names : ℕ) (instr : UnitInstr) → instr_of word operand names ≡ Some instr
    → SpelledBy word (rest_text operand) instr
instr_spelled word None names instr e = alone_spelled word instr e
instr_spelled word (Some text) names instr e = operand_spelled word text names instr e
