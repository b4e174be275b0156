-- Numbers by their digits.
use Rattle.std.proofs.Common.{◌≡◌, ◌≢◌, ℕ, ◌+◌, ◌-◌, ◌*◌, ◌<◌, ◌≤◌, Bool, true, false, cond, nat_le, List, [], ◌∷◌, ◌++◌, length, get_or, map, drop, Option, None, Some, refl, sym, ◌∙◌, ap, arith, append_assoc, ◌&&◌}
use Rattle.std.specs.Prelude.{IfSome, IfNone}
use Rattle.std.specs.Option.{option_map}
use Rattle.std.specs.Str.{bytes_eq}
use Rattle.std.specs.Cmp.Lexicographic.{same_text, other_text}
use Rattle.std.proofs.lemmas.Bool.{cond-false, false_from_ne_true}
use Rattle.std.proofs.lemmas.Bool.Decides.{nat_tests}
use Rattle.std.proofs.lemmas.List.{at_drop_more}
use Rattle.icn_text.specs.declared.keyword.Keyword.{Keyword}
use Rattle.icn_text.specs.declared.keyword.Keyword.TheVariants.{Ascii, Cset, Current, Digits, Errout, Fail, Input, Lcase, Letters, Level, Main, Null, Output, Pos, Random, Source, Subject, Ucase, Error, ErrorNumber, ErrorValue, ErrorText}
use Rattle.icn_text.specs.Keywords.{keyword_name}
use Rattle.icn_tree.specs.Spellings.{lookup_text}
use Rattle.icn_unit.specs.UnitOperands.{value_from, keywords, keyword_of, is_hexadecimal, hexadecimal_value, hexadecimal_bytes}
use Rattle.icn_unit.specs.OperandViews.{within_limit, value_limited, byte_item}

-- a number with more digits is no smaller
from_grows : (n : ℕ) (digits : List ℕ) → n ≤ value_from n digits
from_grows n [] = omega arith
from_grows n (b ∷ rest) = omega (arith, from_grows (n * 10 + (b - 48)) rest)

digit_more : (n : ℕ) (digits : List ℕ) (i all : ℕ) → i < length digits → value_from n (drop i digits) ≡ all
    → value_from (n * 10 + (get_or digits i 0 - 48)) (drop (i + 1) digits) ≡ all
digit_more n digits i all within h = sym (at_drop_more (value_from n) digits i 0 within) ∙ h

limited_none : (n : ℕ) → None ≡ within_limit n → 9223372036854775807 < n
limited_none n h = by_test (nat_le n 9223372036854775807) refl h where
  by_test : (test : Bool) → nat_le n 9223372036854775807 ≡ test → None ≡ cond test (Some n) None → 9223372036854775807 < n
  by_test true t h = absurd (cc)
  by_test false t h = grind (arith, nat_tests)

too_large : (n : ℕ) → 9223372036854775807 < n → within_limit n ≡ None
too_large n h = cond-false (nat_le n 9223372036854775807) _ _ (grind (arith, nat_tests))

-- what a number came to before the last of its digits is too large
pub stays_large : (n : ℕ) (digits : List ℕ) (i : ℕ) → i < length digits → value_from n (drop i digits) ≡ value_from 0 digits
    → None ≡ within_limit (n * 10 + (get_or digits i 0 - 48)) → None ≡ value_limited digits
stays_large n digits i within so_far none =
    let rest : value_from (n * 10 + (get_or digits i 0 - 48)) (drop (i + 1) digits) ≡ value_from 0 digits = digit_more n digits i _ within so_far in
    let large : 9223372036854775807 < n * 10 + (get_or digits i 0 - 48) = limited_none _ none in
    sym (too_large (value_from 0 digits) (omega (arith, rest, large, from_grows (n * 10 + (get_or digits i 0 - 48)) (drop (i + 1) digits))))

-- Keywords

pub equal_texts : (xs ys : List ℕ) → xs ≡ ys → bytes_eq xs ys ≡ true
equal_texts xs ys h = by_test (bytes_eq xs ys) refl where
  by_test : (test : Bool) → bytes_eq xs ys ≡ test → test ≡ true
  by_test true e = refl
  by_test false e = absurd (other_text xs ys (sym e) h)

pub other_texts : (xs ys : List ℕ) → (xs ≡ ys → ⊥) → bytes_eq xs ys ≡ false
other_texts xs ys h = false_from_ne_true (bytes_eq xs ys) (λ e. absurd (h (same_text xs ys (sym e))))

pub keyword_again : (keyword : Keyword) → keyword_of (keyword_name keyword) ≡ Some keyword
unfolding keyword_of
keyword_again Ascii = refl
keyword_again Cset = refl
keyword_again Current = refl
keyword_again Digits = refl
keyword_again Errout = refl
keyword_again Fail = refl
keyword_again Input = refl
keyword_again Lcase = refl
keyword_again Letters = refl
keyword_again Level = refl
keyword_again Main = refl
keyword_again Null = refl
keyword_again Output = refl
keyword_again Pos = refl
keyword_again Random = refl
keyword_again Source = refl
keyword_again Subject = refl
keyword_again Ucase = refl
keyword_again Error = refl
keyword_again ErrorNumber = refl
keyword_again ErrorValue = refl
keyword_again ErrorText = refl

no_keyword : (all : List Keyword) (text : List ℕ) → ((keyword : Keyword) → keyword_name keyword ≢ text)
    → lookup_text (map (λ (keyword : Keyword). (keyword_name keyword, keyword)) all) text ≡ None
no_keyword [] text h = refl
no_keyword (keyword ∷ all) text h =
    cond-false (bytes_eq text (keyword_name keyword)) _ _ (other_texts text (keyword_name keyword) (λ e. h keyword (sym e))) ∙ no_keyword all text h

keyword_found : (keyword : Keyword) (text : List ℕ) → keyword_name keyword ≡ text → Some keyword ≡ keyword_of text
keyword_found keyword text e = sym (ap keyword_of (sym e) ∙ keyword_again keyword)

keyword_missing : (text : List ℕ) → ((keyword : Keyword) → keyword_name keyword ≢ text) → None ≡ keyword_of text
unfolding keyword_of
keyword_missing text h = sym (no_keyword keywords text h)

pub keyword_exact : (found : Option Keyword) (text : List ℕ) → IfSome found (λ keyword. keyword_name keyword ≡ text)
    → IfNone found ((keyword : Keyword) → keyword_name keyword ≢ text) → found ≡ keyword_of text
keyword_exact None text h g = keyword_missing text g
keyword_exact (Some keyword) text h g = keyword_found keyword text h

-- Hexadecimal

hexadecimal_more : (done : List ℕ) (a b byte : ℕ) (rest : List ℕ) → Some byte ≡ byte_item a b
    → option_map (λ more. done ++ more) (hexadecimal_bytes (a ∷ b ∷ rest)) ≡ option_map (λ more. (done ++ byte ∷ []) ++ more) (hexadecimal_bytes rest)
hexadecimal_more done a b byte rest e = by_test (is_hexadecimal a && is_hexadecimal b) refl e where
  by_found : (byte : ℕ) (found : Option (List ℕ))
      → option_map (λ more. done ++ more) (option_map (λ bytes. byte ∷ bytes) found) ≡ option_map (λ more. (done ++ byte ∷ []) ++ more) found
  by_found byte None = refl
  by_found byte (Some more) = ap Some (sym (append_assoc done (byte ∷ []) more))

  by_test : (test : Bool) → (is_hexadecimal a && is_hexadecimal b) ≡ test → Some byte ≡ cond test (Some (hexadecimal_value a * 16 + hexadecimal_value b)) None
      → option_map (λ more. done ++ more)
      (cond test (option_map (λ bytes. (hexadecimal_value a * 16 + hexadecimal_value b) ∷ bytes) (hexadecimal_bytes rest)) None)
      ≡ option_map (λ more. (done ++ byte ∷ []) ++ more) (hexadecimal_bytes rest)
  by_test true t e = let same : hexadecimal_value a * 16 + hexadecimal_value b ≡ byte = cc in rw same (by_found byte (hexadecimal_bytes rest))
  by_test false t e = absurd (cc)

pub hexadecimal_step : (done text rest others behind : List ℕ) (a b byte : ℕ) → rest ≡ a ∷ others → others ≡ b ∷ behind → Some byte ≡ byte_item a b
    → option_map (λ more. done ++ more) (hexadecimal_bytes rest) ≡ hexadecimal_bytes text
    → option_map (λ more. (done ++ byte ∷ []) ++ more) (hexadecimal_bytes behind) ≡ hexadecimal_bytes text
hexadecimal_step done text rest others behind a b byte is next e h =
    sym (hexadecimal_more done a b byte behind e) ∙ (ap (λ xs. option_map (λ more. done ++ more) (hexadecimal_bytes (a ∷ xs))) (sym next)
    ∙ (ap (λ xs. option_map (λ more. done ++ more) (hexadecimal_bytes xs)) (sym is) ∙ h))
