-- Places in ascending order, of which each stands once.
use Rattle.std.proofs.Common.{◌≡◌, ◌⊎◌, inl, inr, ℕ, suc, ◌+◌, ◌<◌, ◌≤◌, Bool, true, false, ◌||◌, List, [], ◌∷◌, ◌++◌, length, if◌then◌else◌, refl, sym, ap, ◌∙◌, arith, append_assoc, append-nil}
use Rattle.std.specs.Prelude.{◌==◌}
use Rattle.std.specs.List.{list_any}
use Rattle.std.proofs.lemmas.Bool.Decides.{eqb_tells}
use Rattle.icn_code.specs.declared.code.Global.{Global}
use Rattle.icn_prune.specs.PrunedCode.{globals_from, kept_from_place, start_stays, with_places}
use Rattle.icn_prune.proofs.LeastSets.{Each, each_join, each_so}
use Rattle.icn_prune.proofs.StandingPlaces.{with_away}

-- each is at least this, and the next ones are more
abbrev pub Above : ℕ → List ℕ → Type 0
Above n [] = Unit {0}
Above n (p ∷ l) = (n ≤ p) × Above (suc p) l

above_less : (n m : ℕ) (l : List ℕ) → n ≤ m → Above m l → Above n l
above_less n m [] le a = tt
above_less n m (p ∷ l) le a = let at = a.0 in (omega (arith, le, at), a.1)

not_among : (l : List ℕ) (n : ℕ) → Each (λ m. m < n) l → list_any (λ other. other == n) l ≡ false
not_among [] n e = refl
not_among (m ∷ l) n e = by (eqb_tells m n) (not_among l n e.1)
  where
    by : (((m == n) ≡ true) × (m ≡ n)) ⊎ (((m == n) ≡ false) × (m ≡ n → ⊥)) → list_any (λ other. other == n) l ≡ false
        → list_any (λ other. other == n) (m ∷ l) ≡ false
    by (inl f) g = let same = f.1 in let less = e.0 in absurd (omega (arith, same, less))
    by (inr f) g = ap (λ b. b || list_any (λ other. other == n) l) f.0 ∙ g

-- such places are added behind those that are smaller
pub with_ascending : (table l : List ℕ) (n : ℕ) → Each (λ m. m < n) table → Above n l → with_places table l ≡ table ++ l
with_ascending table [] n e a = sym (append-nil table)
with_ascending table (p ∷ l) n e a =
    let at = a.0 in
    let before = each_so (λ m. m < n) (λ m. m < p) (λ m less. omega (arith, less, at)) table e in
    ap (λ t. with_places t l) (with_away table p (not_among table p before))
    ∙ with_ascending (table ++ p ∷ []) l (suc p)
    (each_join (λ m. m < suc p) table (p ∷ []) (each_so (λ m. m < p) (λ m. m < suc p) (λ m less. omega (arith, less)) table before) (omega arith, tt)) a.1
    ∙ append_assoc table (p ∷ []) l

-- Kept procedures

pub kept_ascend : (n : ℕ) (keep : List Bool) → Above n (kept_from_place n keep)
kept_ascend n [] = tt
kept_ascend n (true ∷ keep) = (omega arith, kept_ascend (suc n) keep)
kept_ascend n (false ∷ keep) = above_less n (suc n) (kept_from_place (suc n) keep) (omega arith) (kept_ascend (suc n) keep)

pub kept_within : (n : ℕ) (keep : List Bool) → Each (λ m. m < n + length keep) (kept_from_place n keep)
kept_within n [] = tt
kept_within n (true ∷ keep) = (
  omega arith,
  each_so (λ m. m < suc n + length keep) (λ m. m < n + suc (length keep)) (λ m less. omega (arith, less)) (kept_from_place (suc n) keep)
      (kept_within (suc n) keep),
)
kept_within n (false ∷ keep) = each_so (λ m. m < suc n + length keep) (λ m. m < n + suc (length keep)) (λ m less. omega (arith, less))
    (kept_from_place (suc n) keep) (kept_within (suc n) keep)

-- Globals that stay

module _ (keep : List Bool) (mentioned : List ℕ) where
  pub globals_ascend : (n : ℕ) (globals : List Global) → Above n (globals_from keep mentioned n globals)
  globals_ascend n [] = tt
  globals_ascend n (global ∷ globals) =
      by (start_stays keep (list_any (λ other. other == n) mentioned) global.start) (globals_ascend (suc n) globals)
    where
      by : (stays : Bool) → Above (suc n) (globals_from keep mentioned (suc n) globals)
          → Above n (if stays then n ∷ globals_from keep mentioned (suc n) globals else globals_from keep mentioned (suc n) globals)
      by true a = (omega arith, a)
      by false a = above_less n (suc n) (globals_from keep mentioned (suc n) globals) (omega arith) a

  pub globals_within : (n : ℕ) (globals : List Global) → Each (λ m. m < n + length globals) (globals_from keep mentioned n globals)
  globals_within n [] = tt
  globals_within n (global ∷ globals) =
      by (start_stays keep (list_any (λ other. other == n) mentioned) global.start)
      (each_so (λ m. m < suc n + length globals) (λ m. m < n + suc (length globals)) (λ m less. omega (arith, less))
      (globals_from keep mentioned (suc n) globals) (globals_within (suc n) globals))
    where
      by : (stays : Bool) → Each (λ m. m < n + suc (length globals)) (globals_from keep mentioned (suc n) globals)
          → Each (λ m. m < n + suc (length globals))
          (if stays then n ∷ globals_from keep mentioned (suc n) globals else globals_from keep mentioned (suc n) globals)
      by true e = (omega arith, e)
      by false e = e
