-- The scans that are left with a mark, where those of the mark are newer than those outside.
use Rattle.std.proofs.Common.{◌≡◌, ℕ, List, [], ◌∷◌, ◌++◌, Bool, true, false, Option, Some, None, refl, ap, ◌∙◌, if◌then◌else◌}
use Rattle.std.specs.Prelude.{◌==◌}
use Rattle.std.proofs.lemmas.Bool.{eqb-false}
use Rattle.icn_run.specs.Chains.{first_scan, is_same, oldest, oldest_from}

abbrev pub last_of : List ℕ → Option ℕ
last_of [] = None
last_of (n ∷ []) = Some n
last_of (n ∷ m ∷ scans) = last_of (m ∷ scans)

-- none of these is the given one
abbrev pub Apart : Option ℕ → List ℕ → Type 0
Apart u [] = Unit {0}
Apart u (n ∷ scans) = (is_same (Some n) u ≡ false) × Apart u scans

same_number : (n : ℕ) → (n == n) ≡ true
same_number n = by_bool (n == n) refl
  where
    by_bool : (b : Bool) → (n == n) ≡ b → (n == n) ≡ true
    by_bool true e = e
    by_bool false e = absurd (eqb-false n n e refl)

same_self : (u : Option ℕ) → is_same u u ≡ true
same_self None = refl
same_self (Some n) = same_number n

from_behind : (u : Option ℕ) (outer : List ℕ) → first_scan outer ≡ u → (n : ℕ) (scans : List ℕ) → Apart u scans
    → oldest_from u (n ∷ (scans ++ outer)) ≡ last_of (n ∷ scans)
from_behind u outer e n [] a = ap (λ b. if b then Some n else oldest_from u outer) (ap (λ x. is_same x u) e ∙ same_self u)
from_behind u outer e n (m ∷ scans) a = ap (λ b. if b then Some n else oldest_from u (m ∷ (scans ++ outer))) a.0 ∙ from_behind u outer e m scans a.1

-- the oldest of the newer ones
pub oldest_behind : (outer scans : List ℕ) → Apart (first_scan outer) scans → oldest (first_scan outer) (scans ++ outer) ≡ last_of scans
oldest_behind outer [] a = ap (λ b. if b then None else oldest_from (first_scan outer) outer) (same_self (first_scan outer))
oldest_behind outer (n ∷ scans) a =
    ap (λ b. if b then None else oldest_from (first_scan outer) (n ∷ (scans ++ outer))) a.0 ∙ from_behind (first_scan outer) outer refl n scans a.1
