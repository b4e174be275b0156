-- The number that digits write.
use Rattle.std.proofs.Common.{◌≡◌, ℕ, ◌+◌, ◌*◌, ◌^◌, ◌<◌, ◌≤◌, true, List, length, get_or, sym, ◌∙◌, arith, add-one}
use Rattle.std.specs.List.{list_all}
use Rattle.std.proofs.Math.Nat.{pow-le-pow_right, pow-suc}
use Rattle.std.proofs.lemmas.Bool.{false≢true, true_from_ne_false}
use Rattle.std.proofs.lemmas.Bool.Decides.{nat_tests}
use Rattle.std.proofs.lemmas.List.Folds.{list_all_at}
use Rattle.icn_tree.specs.Characters.{is_digit}

-- fewer than 9 digits leave room for one more
pub has_room : (n i : ℕ) → n < 10 ^ i → i ≤ 8 → n < 100000000
has_room n i h few = let power : 10 ^ i ≤ 10 ^ 8 = pow-le-pow_right (omega arith) few in omega arith

pub one_more : (n d i : ℕ) → n < 10 ^ i → d ≤ 9 → n * 10 + d < 10 ^ (i + 1)
one_more n d i h small = let power : 10 ^ (i + 1) ≡ 10 ^ i * 10 = rw add-one (pow-suc 10 i) in omega arith

test_at : (digits : List ℕ) (i d : ℕ) → list_all is_digit digits ≡ true → i < length digits → is_digit (get_or digits i d) ≡ true
test_at digits i d all within =
    true_from_ne_false (is_digit (get_or digits i d)) (λ fails. absurd (false≢true (sym (list_all_at is_digit digits i d within fails) ∙ all)))

bounds : (b : ℕ) → is_digit b ≡ true → (48 ≤ b) × (b ≤ 57)
bounds b h = (grind (arith, nat_tests), grind (arith, nat_tests))

pub digit_within : (digits : List ℕ) (i : ℕ) → list_all is_digit digits ≡ true → i < length digits → (48 ≤ get_or digits i 0) × (get_or digits i 0 ≤ 57)
digit_within digits i all within = bounds (get_or digits i 0) (test_at digits i 0 all within)
