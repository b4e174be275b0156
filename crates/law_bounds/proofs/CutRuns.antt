-- A run under a smaller bound of turns is a first part of one under a greater.
use Rattle.std.proofs.Common.{◌≡◌, inl, inr, ℕ, zero, suc, ◌≤◌, List, Some, refl, sym, ap, ◌∙◌, subst}
use Rattle.icn_value.specs.Store.{Outside}
use Rattle.icn_code.specs.Codes.{Tables}
use Rattle.icn_defs.specs.Running.{AtBound, Ending, Launch, Observation, after_steps, bound_report, with_errors}
use Rattle.icn_run.specs.FlatStep as Flat
use Rattle.icn_run.specs.Stacks.{Frames, flat, empty}
use Rattle.icn_run.specs.Step as S
use Rattle.icn_run.specs.Step.{State, running, failing, hopping, over, stuck, observation}
use Rattle.icn_run.proofs.OneObservation.{observation_lasts, over_seen}
use Rattle.law_outside.specs.Outsides.{ExtendsOutside, HasOutside}
use Rattle.law_outside.proofs.GrowingOutside.{steps_extend}
use Rattle.law_simulation.specs.FirstLaw.{RunsFlatHiding, with_turns}
use Rattle.law_bounds.specs.PartRuns.{IsPartOf, ended_at_bound, is_cut, is_whole}
use Rattle.law_bounds.proofs.EachStep.{Alike, fails, hop, runs, start_of, state_under, store_under}

abbrev Flats : Type 0
Flats = State Frames Frames

abbrev seen_as : Ending → Outside → Observation
seen_as ending outside = record { ending = ending; outside = outside }

-- an observation is of one run
same_seen : (x y : Observation) → Some x ≡ Some y → x ≡ y
same_seen x y e = cc e

module _ (tables : Tables) where
  abbrev After : ℕ → Flats → Flats
  After n s = after_steps (Flat.step tables) n s

  -- what is observed after some steps is observed a step later
  later : (n : ℕ) (s : Flats) (seen : Observation) → observation (After n s) ≡ Some seen → observation (After n (Flat.step tables s)) ≡ Some seen
  later zero s seen e = observation_lasts flat tables s seen e
  later (suc n) s seen e = later n (Flat.step tables s) seen e

  -- what is over stays
  stays : (n : ℕ) (ending : Ending) (outside : Outside) → After n (over ending outside) ≡ over ending outside
  stays zero ending outside = refl
  stays (suc n) ending outside = stays n ending outside

  seen_over : (n : ℕ) (ending : Ending) (outside : Outside) (seen : Observation) → observation (After n (over ending outside)) ≡ Some seen
      → Some (seen_as ending outside) ≡ Some seen
  seen_over n ending outside seen e = sym (ap (λ (s : Flats). observation s) (stays n ending outside)) ∙ e

  -- from a step on that is alike, the runs go on; or the one under the smaller bound has ended
  goes_on : (fewer more : ℕ) (outside : Outside) (n k : ℕ) (x y : Flats) (part whole : Observation) → Alike fewer more outside x y
      → ((s : Flats) → observation (After n (state_under fewer s)) ≡ Some part → observation (After k (state_under more s)) ≡ Some whole
      → IsPartOf part whole)
      → ExtendsOutside outside whole.outside → observation (After n x) ≡ Some part → observation (After k y) ≡ Some whole → IsPartOf part whole
  goes_on fewer more outside n k x y part whole (inl both) f h p w =
      f both.0 (ap (λ (s : Flats). observation (After n s)) (sym both.1.0) ∙ p) (ap (λ (s : Flats). observation (After k s)) (sym both.1.1) ∙ w)
  goes_on fewer more outside n k x y part whole (inr ended) f h p w =
      let e = seen_over n AtBound (with_errors bound_report outside) part (ap (λ (s : Flats). observation (After n s)) (sym ended) ∙ p) in
      is_cut outside (sym (same_seen (ended_at_bound outside) part e)) h

  -- what a run does later is behind what it has done
  done_before : (s : Flats) (k : ℕ) (outside : Outside) (whole : Observation) → HasOutside (ExtendsOutside outside) (After k s)
      → observation (After k s) ≡ Some whole → ExtendsOutside outside whole.outside
  done_before s k outside whole h w = subst (HasOutside (ExtendsOutside outside)) (over_seen (After k s) whole w) h

  part_of : (fewer more : ℕ) → fewer ≤ more → (n : ℕ) (s : Flats) (part whole : Observation) (k : ℕ)
      → observation (After n (state_under fewer s)) ≡ Some part → observation (After k (state_under more s)) ≡ Some whole → IsPartOf part whole
  part_of fewer more le n (over ending outside) part whole k p w =
      is_whole (same_seen part whole (sym (seen_over n ending outside part p) ∙ seen_over k ending outside whole w))
  part_of fewer more le zero (running m st) part whole k p w = absurd (cc p)
  part_of fewer more le zero (failing m st) part whole k p w = absurd (cc p)
  part_of fewer more le zero (hopping m st) part whole k p w = absurd (cc p)
  part_of fewer more le zero stuck part whole k p w = absurd (cc p)
  part_of fewer more le (suc n) (running m st) part whole k p w =
      let s = running m (store_under more st) in
      goes_on fewer more st.outside n k (Flat.step tables (running m (store_under fewer st))) (Flat.step tables s) part whole
      (runs flat tables fewer more le m st) (λ t p w. part_of fewer more le n t part whole k p w)
      (done_before s k st.outside whole (steps_extend tables s k) w) p (later k s whole w)
  part_of fewer more le (suc n) (failing m st) part whole k p w =
      let s = failing m (store_under more st) in
      goes_on fewer more st.outside n k (Flat.step tables (failing m (store_under fewer st))) (Flat.step tables s) part whole
      (fails flat tables fewer more le m st) (λ t p w. part_of fewer more le n t part whole k p w)
      (done_before s k st.outside whole (steps_extend tables s k) w) p (later k s whole w)
  part_of fewer more le (suc n) (hopping m st) part whole k p w =
      let s = hopping m (store_under more st) in
      goes_on fewer more st.outside n k (Flat.step tables (hopping m (store_under fewer st))) (Flat.step tables s) part whole
      (hop flat tables fewer more le m st) (λ t p w. part_of fewer more le n t part whole k p w)
      (done_before s k st.outside whole (steps_extend tables s k) w) p (later k s whole w)
  part_of fewer more le (suc n) stuck part whole k p w = part_of fewer more le n stuck part whole k p w

  module _ (hidden : List ℕ) where
    start_under : (launch : Launch) (n : ℕ) → Flat.start_hiding tables hidden (with_turns n launch) ≡ state_under n (Flat.start_hiding tables hidden launch)
    start_under launch n = start_of flat tables n launch.words empty (S.first_store_hiding tables hidden launch) (S.main_of tables)

    -- whatever procedures no text names
    pub runs_part : (launch : Launch) (fewer more : ℕ) (part whole : Observation) → fewer ≤ more
        → RunsFlatHiding hidden tables (with_turns fewer launch) part → RunsFlatHiding hidden tables (with_turns more launch) whole → IsPartOf part whole
    runs_part launch fewer more part whole le x y =
        part_of fewer more le x.count (Flat.start_hiding tables hidden launch) part whole y.count
        (ap (λ (s : Flats). observation (After x.count s)) (sym (start_under launch fewer)) ∙ x.is)
        (ap (λ (s : Flats). observation (After y.count s)) (sym (start_under launch more)) ∙ y.is)
