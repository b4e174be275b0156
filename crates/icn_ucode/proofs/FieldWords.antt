-- The fields of a record, word by word.
use Rattle.std.proofs.Common.{◌==◌, ◌≡◌, ℕ, ◌+◌, ◌<◌, suc, Bool, true, false, cond, not, ◌&&◌, List, [], ◌∷◌, ◌++◌, length, take, drop, Option, None, Some, refl, sym, ◌∙◌, ap, arith, append_assoc, append-nil}
use Rattle.std.specs.List.{prefix_len}
use Rattle.std.specs.Option.{option_and_then}
use Rattle.std.proofs.lemmas.Bool.{cond-true, cond-false}
use Rattle.icn_unit.specs.UnitOperands.{behind, first_field, is_inside, is_name}
use Rattle.icn_unit.specs.UnitRules.{has_name}
use Rattle.icn_ucode.specs.UnitReading.{with_field, fields_from}
use Rattle.icn_ucode.proofs.TextLines.{shorter}

abbrev word_len : List ℕ → ℕ
word_len text = prefix_len is_inside text

word_len_at : (b : ℕ) (text : List ℕ) → (b == 32) ≡ true → word_len (b ∷ text) ≡ 0
word_len_at b text e = ap (λ test. cond (cond test false true) (1 + word_len text) 0) e

word_len_in : (b : ℕ) (text : List ℕ) → (b == 32) ≡ false → word_len (b ∷ text) ≡ suc (word_len text)
word_len_in b text e =
    let more : 1 + word_len text ≡ suc (word_len text) = omega arith in ap (λ test. cond (cond test false true) (1 + word_len text) 0) e ∙ more

-- the fields behind some, from what is left of the words
abbrev pub fields_left : List (List ℕ) → Option (List ℕ) → Option (List (List ℕ))
fields_left fields None = Some fields
fields_left fields (Some text) = fields_from fields [] text

abbrev pub fields_next : Option (List ℕ) → List (List ℕ) → Option (List (List ℕ))
fields_next rest more = fields_left more rest

word_from : (fields : List (List ℕ)) (word text : List ℕ)
    → fields_from fields word text ≡ option_and_then (fields_next (behind (drop (word_len text) text))) (with_field fields (word ++ take (word_len text) text))
word_from fields word [] = ap (with_field fields) (sym (append-nil word)) ∙ same (with_field fields (word ++ [])) where
  same : (found : Option (List (List ℕ))) → found ≡ option_and_then (λ more. Some more) found
  same None = refl
  same (Some more) = refl
word_from fields word (b ∷ text) = by_blank (b == 32) refl (word_from fields (word ++ b ∷ []) text) where
  by_blank : (test : Bool) → (b == 32) ≡ test → fields_from fields (word ++ b ∷ []) text
      ≡ option_and_then (fields_next (behind (drop (word_len text) text))) (with_field fields ((word ++ b ∷ []) ++ take (word_len text) text))
      → cond test (option_and_then (λ more. fields_from more [] text) (with_field fields word)) (fields_from fields (word ++ b ∷ []) text)
      ≡ option_and_then (fields_next (behind (drop (word_len (b ∷ text)) (b ∷ text)))) (with_field fields (word ++ take (word_len (b ∷ text)) (b ∷ text)))
  by_blank true t more =
      ap (λ w. option_and_then (λ more. fields_from more [] text) (with_field fields w)) (sym (append-nil word))
      ∙ ap (λ n. option_and_then (fields_next (behind (drop n (b ∷ text)))) (with_field fields (word ++ take n (b ∷ text)))) (sym (word_len_at b text t))
  by_blank false t more =
      more
      ∙ (ap (λ w. option_and_then (fields_next (behind (drop (word_len text) text))) (with_field fields w))
      (append_assoc word (b ∷ []) (take (word_len text) text))
      ∙ ap (λ n. option_and_then (fields_next (behind (drop n (b ∷ text)))) (with_field fields (word ++ take n (b ∷ text)))) (sym (word_len_in b text t)))

at_word : (fields : List (List ℕ)) (text name : List ℕ) (rest : Option (List ℕ)) → name ≡ (first_field text).0 → rest ≡ (first_field text).1
    → fields_from fields [] text ≡ option_and_then (fields_next rest) (with_field fields name)
at_word fields text name rest is e =
    word_from fields [] text ∙ (ap (λ r. option_and_then (fields_next r) (with_field fields (take (word_len text) text))) (sym e)
    ∙ ap (λ w. option_and_then (fields_next rest) (with_field fields w)) (sym is))

-- a word that is no further field
pub bad_word : (fields : List (List ℕ)) (text name : List ℕ) (rest : Option (List ℕ)) → name ≡ (first_field text).0 → rest ≡ (first_field text).1
    → (is_name name && not (has_name fields name)) ≡ false → fields_from fields [] text ≡ None
bad_word fields text name rest is e bad =
    at_word fields text name rest is e ∙ ap (option_and_then (fields_next rest)) (cond-false (is_name name && not (has_name fields name)) _ _ bad)

pub good_word : (fields : List (List ℕ)) (text name : List ℕ) (rest : Option (List ℕ)) → name ≡ (first_field text).0 → rest ≡ (first_field text).1
    → (is_name name && not (has_name fields name)) ≡ true
    → fields_from fields [] text ≡ fields_left (fields ++ name ∷ []) rest
good_word fields text name rest is e good =
    at_word fields text name rest is e ∙ ap (option_and_then (fields_next rest)) (cond-true (is_name name && not (has_name fields name)) _ _ good)

abbrev pub left_len : Option (List ℕ) → ℕ
left_len None = 0
left_len (Some text) = suc (length text)

pub left_shorter : (text : List ℕ) (rest : Option (List ℕ)) → rest ≡ (first_field text).1 → left_len rest < suc (length text)
left_shorter text None e = omega arith
left_shorter text (Some rest) e = omega (arith, shorter text rest (word_len text) e)
