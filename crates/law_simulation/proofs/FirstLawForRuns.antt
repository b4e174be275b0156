-- The first law over whole runs, in both directions.
use Rattle.std.proofs.Common.{◌≡◌, ℕ, zero, suc, ◌+◌, ◌-◌, ◌<◌, ◌≤◌, ◌⊎◌, inl, inr, ⊎_elim, refl, sym, ap, ◌∙◌, subst, arith}
use Rattle.std.proofs.lemmas.Bool.{cases_lt}
use Rattle.icn_value.specs.Store.{Outside}
use Rattle.icn_defs.specs.Running.{files_written}
use Rattle.icn_meaning.specs.Contexts as M
use Rattle.icn_meaning.specs.Meaning as MM
use Rattle.icn_run.specs.Step as S
use Rattle.law_simulation.specs.Relation.{Rel, at_done, at_end, at_over}
use Rattle.law_simulation.specs.Ground.{Ground}
use Rattle.law_simulation.proofs.SimulationWords.{LinkedState, linked_step, linked_steps, weight, Misses, Reaches, Follows}
use Rattle.law_stacks.proofs.Shadowed.{shadowed_step}
use Rattle.law_simulation.proofs.ActionSteps.{GoodState}
use Rattle.law_simulation.proofs.FormSteps.{step_simulated}

module _ (G : Ground) where
  pub after : (m n : ℕ) {l l' l'' : LinkedState} → linked_steps G m l ≡ l' → linked_steps G n l' ≡ l'' → (k : ℕ)
      × (linked_steps G k l ≡ l'')
  after zero n e f = (n, ap (linked_steps G n) e ∙ f)
  after (suc m) n e f = let a = after m n e f in (suc a.0, a.1)

  one : (m : ℕ) (l : LinkedState) → linked_steps G m (linked_step G l) ≡ linked_step G (linked_steps G m l)
  one zero l = refl
  one (suc m) l = one m (linked_step G l)

  pub swap_steps : (d m : ℕ) (l : LinkedState) → linked_steps G m (linked_steps G d l) ≡ linked_steps G d (linked_steps G m l)
  swap_steps zero m l = refl
  swap_steps (suc d) m l = swap_steps d m (linked_step G l) ∙ ap (linked_steps G d) (one m l)

  pub is_over : {l : LinkedState} {ending : M.Ending} {st : M.Store} → Rel G.L (M.over ending st) l
      → l ≡ S.over ending st.outside
  is_over at_over = refl

  -- a state that corresponds to an end of the code comes to an end
  pub record Ended (s : M.Evaluation) (ending : M.Ending) (outside : Outside) : Type 0 where
    pub count : ℕ
    pub store : M.Store
    pub is : MM.steps G.L.program count s ≡ M.over ending store
    pub outside_is : store.outside ≡ outside

  -- the store once the files that are open to be written are written
  abbrev written : M.Store → M.Store
  written st = record st { outside = files_written st.world.heap st.outside }

  abbrev EndedAt : M.Evaluation → LinkedState → Type 0
  EndedAt s (S.over ending outside) = Ended s ending outside
  EndedAt s l = Unit {0}

  ended_at : {s : M.Evaluation} {l : LinkedState} → Rel G.L s l → EndedAt s l
  ended_at (at_over {st = st}) = record { count = 0; store = st; is = refl; outside_is = refl }
  ended_at (at_done {st = st}) = record { count = 1; store = written st; is = refl; outside_is = refl }
  ended_at (at_end {st = st}) = record { count = 1; store = written st; is = refl; outside_is = refl }
  ended_at h = tt

  pub was_over : {s : M.Evaluation} {ending : M.Ending} {outside : Outside} → Rel G.L s (S.over ending outside)
      → Ended s ending outside
  was_over h = ended_at h

  pub good_steps : (n : ℕ) (l : LinkedState) {l' : LinkedState} → linked_steps G n l ≡ l' → GoodState G l → GoodState G l'
  good_steps zero l e g = subst (GoodState G) e g
  good_steps (suc n) l e g = good_steps n (linked_step G l) e (shadowed_step G.L.repeats G.L.tables l g)

  pub forward : (n : ℕ) (s : M.Evaluation) (l : LinkedState) (ending : M.Ending) (st : M.Store) → GoodState G l
      → Rel G.L s l → MM.steps G.L.program n s ≡ M.over ending st → (m : ℕ)
      × (linked_steps G m l ≡ S.over ending st.outside)
  forward zero s l ending st good h e = (0, is_over (subst (λ s. Rel G.L s l) e h))
  forward (suc n) s l ending st good h e =
      let g = step_simulated G good h in
      let a = forward n (MM.step G.L.program s) g.reach.to ending st
      (good_steps g.reach.turns l g.reach.comes good) g.reach.rel e in
      after g.reach.turns a.0 g.reach.comes a.1

  split_steps : (a b : ℕ) (l : LinkedState) → linked_steps G (a + b) l ≡ linked_steps G b (linked_steps G a l)
  split_steps zero b l = let e : 0 + b ≡ b = omega arith in ap (λ n. linked_steps G n l) e
  split_steps (suc a) b l = let e : suc a + b ≡ suc (a + b) = omega arith in ap (λ n. linked_steps G n l) e ∙ split_steps a b (linked_step G l)

  -- after so many steps it is at a state to which that many fewer lead from a later one
  later : (n turns : ℕ) (l : LinkedState) {l' : LinkedState} → turns ≤ n → linked_steps G turns l ≡ l' → linked_steps G n l ≡ linked_steps G (n - turns) l'
  later n turns l le e = let split : n ≡ turns + (n - turns) = omega arith in
      ap (λ n. linked_steps G n l) split ∙ split_steps turns (n - turns) l ∙ ap (linked_steps G (n - turns)) e

  abbrev WholeBelow : ℕ → Type 0
  WholeBelow m = (n : ℕ) → n < m → (s : M.Evaluation) (l : LinkedState) → GoodState G l → Rel G.L s l → Misses G (linked_steps G n l) → ⊥

  -- the same of evaluations that are lighter, after at most so many steps
  abbrev WholeLighter : ℕ → ℕ → Type 0
  WholeLighter m w = (n : ℕ) → n ≤ m → (s : M.Evaluation) (l : LinkedState) → weight s < w → GoodState G l → Rel G.L s l
      → Misses G (linked_steps G n l) → ⊥

  whole_step : (m : ℕ) → WholeBelow m → (n : ℕ) → n ≤ m → (s : M.Evaluation) (l : LinkedState) → WholeLighter m (weight s)
      → GoodState G l → Rel G.L s l → Misses G (linked_steps G n l) → ⊥
  whole_step m ih n low s l lighter good h x = by (cases_lt n g.reach.turns)
    where
      g : Follows G (weight s) (MM.step G.L.program s) l
      g = step_simulated G good h

      next : GoodState G g.reach.to
      next = good_steps g.reach.turns l g.reach.comes good

      by : (n < g.reach.turns) ⊎ (g.reach.turns ≤ n) → ⊥
      by (inl less) = g.reach.whole n less x
      by (inr le) =
          let moved : Misses G (linked_steps G (n - g.reach.turns) g.reach.to) = subst (Misses G) (later n g.reach.turns l le g.reach.comes) x in
          ⊎_elim (λ some. ih (n - g.reach.turns) (omega (arith, low, some, le)) (MM.step G.L.program s) g.reach.to next g.reach.rel moved)
          (λ less. lighter (n - g.reach.turns) (omega (arith, low)) (MM.step G.L.program s) g.reach.to less next g.reach.rel moved) g.less

  whole_at : (m : ℕ) → WholeBelow m → (w : ℕ) → WholeLighter m w
  whole_at m ih zero n low s l light good h x = omega (arith, light)
  whole_at m ih (suc w) n low s l light good h x = whole_step m ih n low s l
      (λ n' low' s' l' less good' h' x'. whole_at m ih w n' low' s' l' (omega (arith, light, less)) good' h' x') good h x

  whole_below : (m : ℕ) → WholeBelow m
  whole_below zero n less s l good h x = omega (arith, less)
  whole_below (suc m) n less s l good h x =
      whole_at m (whole_below m) (suc (weight s)) n (omega (arith, less)) s l (omega arith) good h x

  -- from a state that corresponds to one of the meaning no state is come to that misses a cell
  pub never_misses : (n : ℕ) (s : M.Evaluation) (l : LinkedState) → GoodState G l → Rel G.L s l → Misses G (linked_steps G n l) → ⊥
  never_misses n s l good h x = whole_below (suc n) n (omega arith) s l good h x

  -- nor from one that leads to such a state
  pub reach_misses : (n : ℕ) {s : M.Evaluation} {l : LinkedState} → Reaches G s l → GoodState G l → Misses G (linked_steps G n l) → ⊥
  reach_misses n {s} {l} g good x = by (cases_lt n g.turns)
    where
      by : (n < g.turns) ⊎ (g.turns ≤ n) → ⊥
      by (inl less) = g.whole n less x
      by (inr le) = never_misses (n - g.turns) s g.to (good_steps g.turns l g.comes good) g.rel
          (subst (Misses G) (later n g.turns l le g.comes) x)

  -- where the code comes to a state z at which it stays, the meaning comes to one that corresponds to z
  module _ (z : LinkedState) (fixed : linked_step G z ≡ z) where
    stays : (m : ℕ) → linked_steps G m z ≡ z
    stays zero = refl
    stays (suc m) = ap (linked_steps G m) fixed ∙ stays m

    pub shift : (m d : ℕ) (l : LinkedState) {l' : LinkedState} → linked_steps G m l ≡ z → linked_steps G d l ≡ l'
        → linked_steps G m l' ≡ z
    shift m d l e f = ap (linked_steps G m) (sym f) ∙ swap_steps d m l ∙ ap (linked_steps G d) e ∙ stays d

    progress : (m d : ℕ) (l : LinkedState) {l' : LinkedState} → 1 ≤ d → linked_steps G (suc m) l ≡ z → linked_steps G d l ≡ l'
        → linked_steps G m l' ≡ z
    progress m zero l le e f = absurd (omega arith)
    progress m (suc d) l le e f = shift m d (linked_step G l) e f

    inner : (m : ℕ) → ((s : M.Evaluation) (l : LinkedState) → GoodState G l → Rel G.L s l → linked_steps G m l ≡ z → (n : ℕ)
        × Rel G.L (MM.steps G.L.program n s) z) → (w : ℕ) (s : M.Evaluation) (l : LinkedState) → weight s ≤ w
        → GoodState G l → Rel G.L s l → linked_steps G (suc m) l ≡ z → (n : ℕ) × Rel G.L (MM.steps G.L.program n s) z
    inner m ih zero s l le good h e =
        let g = step_simulated G good h in
        let lt : 1 ≤ g.reach.turns = ⊎_elim (λ a. a) (λ a. absurd (omega arith)) g.less in
        let a = ih (MM.step G.L.program s) g.reach.to (good_steps g.reach.turns l g.reach.comes good)
        g.reach.rel (progress m g.reach.turns l lt e g.reach.comes) in
        (suc a.0, a.1)
    inner m ih (suc w) s l le good h e =
        let g = step_simulated G good h in
        let a = ⊎_elim (λ lt. ih (MM.step G.L.program s) g.reach.to
        (good_steps g.reach.turns l g.reach.comes good) g.reach.rel
        (progress m g.reach.turns l lt e g.reach.comes))
        (λ lt. inner m ih w (MM.step G.L.program s) g.reach.to (omega arith)
        (good_steps g.reach.turns l g.reach.comes good) g.reach.rel
        (shift (suc m) g.reach.turns l e g.reach.comes)) g.less in
        (suc a.0, a.1)

    pub backward : (m : ℕ) (s : M.Evaluation) (l : LinkedState) → GoodState G l → Rel G.L s l → linked_steps G m l ≡ z → (n : ℕ)
        × Rel G.L (MM.steps G.L.program n s) z
    backward zero s l good h e = (0, subst (λ l. Rel G.L s l) e h)
    backward (suc m) s l good h e =
        inner m (λ s l good h e. backward m s l good h e) (weight s) s l (omega arith) good h e
