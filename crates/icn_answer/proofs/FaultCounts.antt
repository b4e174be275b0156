-- Counts of faults and of absences, by the answer.
use Rattle.std.proofs.Common.{◌≡◌, ◌⊎◌, inl, inr, ◌≤◌, ℕ, Result, Err, IsErrOf, refl, ap, arith}
use Rattle.icn_host.specs.Counts.{CountsIf, CountsOnce, HasCause, Rose, one_more}
use Rattle.icn_answer.specs.declared.answer.Answer.{Answer}

-- Counts in the same state

-- a count stays where its matter did not occur
pub unmoved : {count : ℕ} {matter : Type 0} → (matter → ⊥) → CountsOnce count count matter
unmoved n = record { later = omega arith; rose = λ m. absurd (n m); stayed = λ _. refl }

pub no_cause : {count : ℕ} {claim : Type 0} → (claim → ⊥) → HasCause count count claim
no_cause n = record { later = omega arith; rose = λ m. absurd (n m) }

-- a count that rose once
pub once_rose : (before now : ℕ) → now ≡ one_more before → Rose before now
once_rose before now once = omega (arith, once)

-- a count that stayed rose for nothing
pub unwanted : {count : ℕ} {matter : Type 0} → CountsIf count count matter
unwanted = record { later = omega arith; once = inl refl; stayed = λ _. refl }

-- a count that stayed, or rose once where a matter occurred
pub counts_if : {before now : ℕ} {matter : Type 0} → before ≤ now → (now ≡ before) ⊎ ((now ≡ one_more before) × matter) → CountsIf before now matter
counts_if later (inl same) = record { later = later; once = inl same; stayed = λ _. same }
counts_if later (inr (rose, is)) = record { later = later; once = inr rose; stayed = λ n. absurd (n is) }

-- the same where one matter is another
pub counts_as : {before now : ℕ} {matter other : Type 0} → (matter → other) → CountsIf before now matter → CountsIf before now other
counts_as gives want = record { later = want.later; once = want.once; stayed = λ n. want.stayed (λ m. n (gives m)) }

-- an answer in place of a result
pub err_counts : {A : Type 0} {before now : ℕ} (answer fault : Answer) → CountsOnce before now (IsErrOf {T =
    A} (Err answer) fault) → CountsOnce before now (answer ≡ fault)
err_counts answer fault cause =
    record { later = cause.later; rose = λ e. cause.rose (ap (λ a. Err a) e); stayed = λ n. cause.stayed (λ e. n (same_answer e)) } where
      same_answer : {A : Type 0} {one other : Answer} → ◌≡◌ {A = Result A Answer} (Err one) (Err other) → one ≡ other
      same_answer e = cc

pub err_wants : {A : Type 0} {before now : ℕ} (answer fault : Answer) → CountsIf before now (IsErrOf {T =
    A} (Err answer) fault) → CountsIf before now (answer ≡ fault)
err_wants answer fault want = counts_as (λ e. err_injective e) want where
  err_injective : {A : Type 0} {one other : Answer} → ◌≡◌ {A = Result A Answer} (Err one) (Err other) → one ≡ other
  err_injective e = cc
