-- A run is seen in one way at most.
use Rattle.std.proofs.Common.{◌≡◌, ℕ, zero, suc, Option, Some, refl, sym, ap, ◌∙◌}
use Rattle.icn_defs.specs.Running.{Observation, after_steps, Observes}

module _ {S : Type 0} (step : S → S) (observed : S → Option Observation) where
  one : (m : ℕ) (s : S) → after_steps step m (step s) ≡ step (after_steps step m s)
  one zero s = refl
  one (suc m) s = one m (step s)

  swap : (d m : ℕ) (s : S) → after_steps step m (after_steps step d s) ≡ after_steps step d (after_steps step m s)
  swap zero m s = refl
  swap (suc d) m s = swap d m (step s) ∙ ap (after_steps step d) (one m s)

  -- where something is observed, it is observed from then on
  abbrev pub Lasts : Type 0
  Lasts = (s : S) (seen : Observation) → observed s ≡ Some seen → observed (step s) ≡ Some seen

  lasts : Lasts → (m : ℕ) (s : S) (seen : Observation) → observed s ≡ Some seen → observed (after_steps step m s) ≡ Some seen
  lasts kept zero s seen e = e
  lasts kept (suc m) s seen e = lasts kept m (step s) seen (kept s seen e)

  inner : {a b : Observation} → Some a ≡ Some b → a ≡ b
  inner e = cc e

  pub observed_once : Lasts → (start : S) (a b : Observation) → Observes step observed start a → Observes step observed start b → a ≡ b
  observed_once kept start a b x y =
      inner (sym (lasts kept y.count (after_steps step x.count start) a x.is) ∙ ap observed (swap x.count y.count start)
      ∙ lasts kept x.count (after_steps step y.count start) b y.is)
