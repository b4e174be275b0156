-- The members of a cset, one byte after the other.
use Rattle.std.proofs.Common.{ℤ, Some, ◌≡◌, ◌∙◌, refl, ap, sym, ℕ, ◌+◌, ◌<◌, ◌≤◌, ◌==◌, ◌||◌, List, [], ◌∷◌, ◌++◌, Bool, true, false, append-nil, length, take, get_or, set, arith}
use Rattle.std.proofs.lemmas.Bool.Decides.{nat_tests}
use Rattle.std.proofs.lemmas.List.{take_more, take_more_set, take_all}
use Rattle.std.proofs.lemmas.List.Folds.{list_any-append}
use Rattle.std.specs.Fmt.{signed_decimal}
use Rattle.icn_value.specs.Values.{Value, Integer, Text}
use Rattle.icn_defs.specs.Conversions.{cset_of}
use Rattle.icn_value.specs.declared.cset.Cset.{Cset}
use Rattle.icn_value.specs.Csets.{has, members_below, HasMembers}
use Rattle.icn_value.specs.Members.{contains, members, members_of}
use Rattle.icn_value.proofs.Bits.{below_more, all_below, members_by}

pub none_below : (cset : Cset) → [] ≡ members_below cset 0
unfolding members_below
none_below cset = refl

-- one more member
pub one_more : (cset : Cset) (bytes : List ℕ) (len n : ℕ) → len < length bytes → has cset n ≡ true → take len bytes ≡ members_below cset n
    → take (len + 1) (set bytes len n) ≡ members_below cset (n + 1)
one_more cset bytes len n within is before = take_more_set bytes len n within ∙ (ap (λ front. front ++ n ∷ []) before ∙ sym (below_more cset n ∙ (rw is refl)))

-- a byte that is none
pub no_more : (cset : Cset) (bytes : List ℕ) (len n : ℕ) → has cset n ≡ false → take len bytes ≡ members_below cset n
    → take len bytes ≡ members_below cset (n + 1)
no_more cset bytes len n is before = before ∙ sym (below_more cset n ∙ (rw is (append-nil (members_below cset n))))

pub whole : (cset : Cset) (bytes : List ℕ) (len n : ℕ) → 256 ≤ n → n ≤ 256 → take len bytes ≡ members_below cset n → take len bytes ≡ members_of cset
whole cset bytes len n low high is = let last : n ≡ 256 = omega arith in is ∙ (ap (members_below cset) last ∙ all_below cset)

or_swap : (a b : Bool) → (a || b) ≡ (b || a)
or_swap true true = refl
or_swap true false = refl
or_swap false true = refl
or_swap false false = refl

or_false : (a : Bool) → (a || false) ≡ a
or_false true = refl
or_false false = refl

turned : (a b : ℕ) → (a == b) ≡ ((b == a) || false)
turned a b = grind (arith, nat_tests)

-- one byte more of the text
pub text_more : (cset new : Cset) (text : List ℕ) (place : ℕ) → place < length text → HasMembers cset (contains (take place text))
    → HasMembers new (λ other. other == get_or text place 0 || has cset other) → HasMembers new (contains (take (place + 1) text))
text_more cset new text place within before now = record {
  is = λ byte below.
      now.is byte below ∙ (ap (λ b. byte == get_or text place 0 || b) (before.is byte below)
      ∙ (or_swap (byte == get_or text place 0) (contains (take place text) byte)
      ∙ (ap (λ b. contains (take place text) byte || b) (turned byte (get_or text place 0))
      ∙ sym (ap (λ bytes. contains bytes byte) (take_more text place 0 within)
      ∙ list_any-append (λ other. other == byte) (take place text) (get_or text place 0 ∷ [])))));
}

pub text_whole : (cset : Cset) (text : List ℕ) (place : ℕ) → length text ≤ place → HasMembers cset (contains (take place text))
    → members_of cset ≡ members (contains text)
text_whole cset text place past is = members_by cset (contains (take place text)) is ∙ ap (λ bytes. members (contains bytes)) (take_all place text past)

-- Values as csets

pub integer_cset : (cset : Cset) (text : List ℕ) (n : ℤ) (value : Value) → members_of cset ≡ members (contains text) → text ≡ signed_decimal n
    → value ≡ Integer n → Some (members_of cset) ≡ cset_of value
integer_cset cset text n value is same integer = ap Some (is ∙ ap (λ bytes. members (contains bytes)) same) ∙ sym (ap cset_of integer)

pub text_cset : (cset : Cset) (bytes text : List ℕ) (value : Value) → members_of cset ≡ members (contains bytes) → bytes ≡ text → value ≡ Text text
    → Some (members_of cset) ≡ cset_of value
text_cset cset bytes text value is same textual = ap Some (is ∙ ap (λ bytes. members (contains bytes)) same) ∙ sym (ap cset_of textual)
