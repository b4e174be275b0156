-- Steps of rows of two operands.
use Rattle.std.proofs.Common.{◌≡◌, ◌∙◌, refl, sym, ap, ℕ, ◌+◌, ◌<◌, ◌^◌, not, ℤ, pos, Bool, true, length, FitsSigned, List, [], ◌∷◌, Option, None, Some, Result, Ok, Err, arith}
use mir.Val.{of_z, to_z}
use Rattle.std.specs.Int.{w64}
use Rattle.std.specs.Result.{result_ok}
use Rattle.std.specs.Prelude.{IfOk, neg_ℤ, ok_or, ◌+ℤ◌, ◌-ℤ◌}
use Rattle.std.proofs.lemmas.Int.{ints, to_z-of_z}
use Rattle.icn_text.specs.IntegerArithmetic.{difference, if_fits, sum, within_64_bits}
use Rattle.icn_text.specs.declared.arithmetic.Arith.TheVariants.{Overflow}
use Rattle.icn_value.proofs.Bits.{members_by}
use Rattle.icn_value.proofs.CsetMembers.{members_pass}
use Rattle.icn_value.specs.Csets.{HasMembers, has}
use Rattle.icn_value.specs.Members.{contains, members, members_of}
use Rattle.icn_value.specs.declared.cset.Cset.{Cset}
use Rattle.icn_value.specs.declared.val.Span.{Span}
use Rattle.icn_value.specs.Values.{Value, Item}
use Rattle.icn_value.specs.Store.{Setting}
use Rattle.icn_defs.specs.Arguments.{string}
use Rattle.icn_defs.specs.Calls.{GoesOn}
use Rattle.icn_defs.specs.ReadAndAssign.{the_value}
use Rattle.icn_defs.specs.Rows.{Outcome, costs_text, costs_texts, fails_unless}
use Rattle.icn_defs.specs.Scanning.{stands, tabs_to}
use Rattle.icn_heap.specs.Extents.{Extent, text_in}
use Rattle.icn_vars.specs.declared.stop.Stop.{Stop}
use Rattle.icn_vars.specs.declared.stop.Stop.TheVariants.{Error, NoMemory}
use Rattle.icn_args.specs.RowWords.{IsFound, IsPassed, the_text}
use Rattle.icn_ops.specs.Operands.{one_text, texts_in, two_texts, two_values}

-- 0 less an integer
pub negated : (n : ℤ) → difference (pos 0) n ≡ within_64_bits (neg_ℤ n)
negated n = let e : pos 0 -ℤ n ≡ neg_ℤ n = omega (arith, ints) in ap within_64_bits e

-- the texts of two operands, by what each call says of them
pub texts_found : (all : Extent) (x y : Item) (a b : Value) (before after : Setting) (result : Result (Span × Span) Stop)
    → GoesOn (two_values x y) before (a, b) before
    → GoesOn (string a) before (the_text a) before → GoesOn (string b) before (the_text b) before → IsPassed all (costs_texts (a ∷ b ∷ [])) before after result
    → IfOk result (λ two. text_in all two.0 ≡ the_text a) → IfOk result (λ two. text_in all two.1 ≡ the_text b)
    → IsFound all (two_texts x y) before after (texts_in all) result
texts_found all x y a b before after (Ok two) values first second step is is' = λ next.
    values (λ v. string v.0 (λ s. string v.1 (λ t. costs_texts (v.0 ∷ v.1 ∷ []) (next (s, t)))))
    ∙ (first (λ s. string b (λ t. costs_texts (a ∷ b ∷ []) (next (s, t))))
    ∙ (second (λ t. costs_texts (a ∷ b ∷ []) (next (the_text a, t)))
    ∙ (step (next (the_text a, the_text b))
    ∙ (ap (λ (s : List ℕ). next (s, the_text b) after) (sym is) ∙ ap (λ (t : List ℕ). next (text_in all two.0, t) after) (sym is')))))
texts_found all x y a b before after (Err (Error number offending)) values first second step is is' = λ next.
    values (λ v. string v.0 (λ s. string v.1 (λ t. costs_texts (v.0 ∷ v.1 ∷ []) (next (s, t)))))
    ∙ (first (λ s. string b (λ t. costs_texts (a ∷ b ∷ []) (next (s, t))))
    ∙ (second (λ t. costs_texts (a ∷ b ∷ []) (next (the_text a, t)))
    ∙ step (next (the_text a, the_text b))))
texts_found all x y a b before after (Err NoMemory) values first second step is is' = tt

-- the text of one operand
pub text_found : (all : Extent) (x : Item) (a : Value) (before after : Setting) (result : Result Span Stop) → GoesOn (the_value x) before a before
    → GoesOn (string a) before (the_text a) before → IsPassed all (costs_text a) before after result
    → IfOk result (λ span. text_in all span ≡ the_text a) → IsFound all (one_text x) before after (text_in all) result
text_found all x a before after (Ok span) value first step is = λ next.
    value (λ v. string v (λ s. costs_text v (next s)))
    ∙ (first (λ s. costs_text a (next s)) ∙ (step (next (the_text a)) ∙ ap (λ (s : List ℕ). next s after) (sym is)))
text_found all x a before after (Err (Error number offending)) value first step is = λ next.
    value (λ v. string v (λ s. costs_text v (next s))) ∙ (first (λ s. costs_text a (next s)) ∙ step (next (the_text a)))
text_found all x a before after (Err NoMemory) value first step is = tt

-- Csets

pub member_is : (cset : Cset) (byte : ℕ) → byte < 256 → contains (members_of cset) byte ≡ has cset byte
unfolding members_of
member_is cset byte below = members_pass (has cset) byte below

-- a cset whose members pass a test
pub members_are : (cset : Cset) (test : ℕ → Bool) → ((byte : ℕ) → byte < 256 → has cset byte ≡ test byte) → members_of cset ≡ members test
members_are cset test same = members_by cset test (record { is = same })

-- the bytes that are no members
pub complemented : (cset other : Cset) → HasMembers other (λ byte. not (has cset byte))
    → members_of other ≡ members (λ byte. not (contains (members_of cset) byte))
complemented cset other is =
    members_are other (λ byte. not (contains (members_of cset) byte)) (λ byte below. is.is byte below ∙ ap not (sym (member_is cset byte below)))

-- Integers of 64 bits, as they are held

-- an integer of 64 bits is the same after it was held
pub held_one : {A : Type 0} (f : ℤ → A) (n : ℤ) → FitsSigned w64 n → f (to_z w64 (of_z w64 n)) ≡ f n
held_one f n fits = ap f (to_z-of_z w64 n fits)

-- the same of two integers
pub held_two : {A : Type 0} (f : ℤ → ℤ → A) (m n : ℤ) → FitsSigned w64 m → FitsSigned w64 n → f (to_z w64 (of_z w64 m)) (to_z w64 (of_z w64 n)) ≡ f m n
held_two f m n fits fits' = ap (λ k. f k (to_z w64 (of_z w64 n))) (to_z-of_z w64 m fits) ∙ ap (f m) (to_z-of_z w64 n fits')

-- the same of three integers
pub held_three : {A : Type 0} (f : ℤ → ℤ → ℤ → A) (m n k : ℤ) → FitsSigned w64 m → FitsSigned w64 n → FitsSigned w64 k
    → f (to_z w64 (of_z w64 m)) (to_z w64 (of_z w64 n)) (to_z w64 (of_z w64 k)) ≡ f m n k
held_three f m n k fits fits' fits'' = held_two (λ a b. f a b (to_z w64 (of_z w64 k))) m n fits fits' ∙ ap (f m n) (to_z-of_z w64 k fits'')

-- a size is the integer that it is held as
pub held_size : (n : ℕ) → n < 2 ^ 63 → to_z w64 n ≡ pos n
held_size n small = grind (arith, ints)

-- the result of a sum, if it has one, is a sum that fits
pub fitting_sum : (m n : ℤ) → result_ok (sum m n) ≡ if_fits (m +ℤ n)
fitting_sum m n = by (if_fits (m +ℤ n))
  where
    by : (found : Option ℤ) → result_ok (ok_or found Overflow) ≡ found
    by (Some k) = refl
    by None = refl

-- a text that stands at the position
pub moved : (wanted bytes subject held : List ℕ) (place : ℕ) (t : Bool) (setting : Setting) (outcome : Outcome) → bytes ≡ wanted → held ≡ subject
    → t ≡ stands bytes held place (length held + 1) → t ≡ true
    → tabs_to (place + length bytes) setting ≡ outcome
    → fails_unless (stands wanted subject place (length subject + 1)) (tabs_to (place + length wanted)) setting ≡ outcome
moved wanted bytes subject held place t setting outcome same same' found met is =
    let stands_so : stands wanted subject place (length subject + 1) ≡ true =
    sym (ap (λ x. stands x held place (length held + 1)) same ∙ ap (λ y. stands wanted y place (length y + 1)) same') ∙ (sym found ∙ met) in
    ap (λ x. fails_unless x (tabs_to (place + length wanted)) setting) stands_so ∙ (ap (λ (x : List ℕ). tabs_to (place + length x) setting) (sym same) ∙ is)
