-- The derived equality of keys is the one of the definitions.
use Rattle.std.proofs.Common.{◌≡◌, ◌==◌, ◌+◌, ◌<◌, refl, sym, ap, arith, ℕ, false}
use Rattle.std.proofs.lemmas.Bool.{ne_eqb}
use Rattle.std.proofs.lemmas.Bool.Decides.{Decides-eqb}
use Rattle.icn_heap.specs.KeyTests.{key_eq}
use Rattle.icn_heap.specs.contracts.key.KeyPartialEq.TheImpl.{eq-value}
use Rattle.icn_heap.specs.declared.key.Key.{Key}
use Rattle.icn_heap.specs.declared.key.Key.TheVariants.{Null, Integer, Text, Chars, Std, Proc, Rec, List, Set, Table, Coexp}
use Rattle.icn_value.specs.declared.val.File.TheVariants.{Input, Output, Errout, Opened}
use Rattle.icn_heap.proofs.KeyValues.{by_tests}

-- the ranks of files

pub same_less : (a b : ℕ) → 3 + a ≡ 3 + b → a ≡ b
same_less a b is = omega arith

pub ranks_agree : (a b : ℕ) → (a == b) ≡ (3 + a == 3 + b)
ranks_agree a b =
    by_tests (a == b) (3 + a == 3 + b) (λ is. (Decides-eqb (3 + a) (3 + b)).1 (ap (λ n. 3 + n) ((Decides-eqb a b).0 is)))
    (λ is. (Decides-eqb a b).1 (same_less a b ((Decides-eqb (3 + a) (3 + b)).0 is)))

pub rank_below : (k n : ℕ) → k < 3 → (k == 3 + n) ≡ false
rank_below k n small = ne_eqb k (3 + n) (λ is. omega (arith, small, is))

pub rank_above : (k n : ℕ) → k < 3 → (3 + n == k) ≡ false
rank_above k n small = ne_eqb (3 + n) k (λ is. omega (arith, small, is))

alike : (a b : Key) → eq-value.it a b ≡ key_eq a b
unfolding key_eq
alike Null Null = refl
alike (Integer a) (Integer b) = refl
alike (Text a) (Text b) = refl
alike (Chars a) (Chars b) = refl
alike (Std Input) (Std Input) = refl
alike (Std Input) (Std Output) = refl
alike (Std Input) (Std Errout) = refl
alike (Std Output) (Std Input) = refl
alike (Std Output) (Std Output) = refl
alike (Std Output) (Std Errout) = refl
alike (Std Errout) (Std Input) = refl
alike (Std Errout) (Std Output) = refl
alike (Std Errout) (Std Errout) = refl
alike (Std Input) (Std (Opened b)) = sym (rank_below 1 b (omega arith))
alike (Std Output) (Std (Opened b)) = sym (rank_below 2 b (omega arith))
alike (Std Errout) (Std (Opened b)) = sym (rank_below 0 b (omega arith))
alike (Std (Opened a)) (Std Input) = sym (rank_above 1 a (omega arith))
alike (Std (Opened a)) (Std Output) = sym (rank_above 2 a (omega arith))
alike (Std (Opened a)) (Std Errout) = sym (rank_above 0 a (omega arith))
alike (Std (Opened a)) (Std (Opened b)) = ranks_agree a b
alike (Proc a) (Proc b) = refl
alike (Rec a) (Rec b) = refl
alike (List a) (List b) = refl
alike (Set a) (Set b) = refl
alike (Table a) (Table b) = refl
alike (Coexp a) (Coexp b) = refl
alike a b = refl

pub same_tests : eq-value.it ≡ key_eq
same_tests i a b = alike a b i
