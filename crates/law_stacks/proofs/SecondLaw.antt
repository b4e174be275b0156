-- The second law: the run of a code on linked marks and its run on flat stacks agree in both directions.
use Rattle.std.proofs.Common.{◌≡◌, ℕ, ◌⊎◌, inl, inr, List, [], ◌∷◌, length, arith, Bool, true, false, refl, sym, ap, ◌∙◌, subst}
use Rattle.icn_code.specs.Codes.{Tables}
use Rattle.icn_run.specs.Stacks.{Frames, flat, empty, locals as flat_locals, set_locals as flat_set_locals}
use Rattle.icn_run.specs.Chains.{fixed, flagged, Outer, base, call, mark, limit, outer_of, WaitingChain, LinkedStack, linked_calls, locals, set_locals, empty as no_chain}
use Rattle.icn_run.specs.Rows.{Value}
use Rattle.icn_run.specs.Step.{Program, Launch, Observation, observation, State, running, failing, hopping, over, stuck, steps}
use Rattle.icn_run.proofs.OneObservation.{over_seen}
use Rattle.icn_run.specs.FlatStep as F
use Rattle.icn_run.specs.LinkedStep as L
use Rattle.icn_run.specs.LinkedStep.{repeats_anywhere}
use Rattle.law_stacks.specs.SameStates.{IsLacking, Opens, RowsKeep}
use Rattle.law_stacks.specs.SecondLaw.{LacksCell, MissingCell, FlatStuck, LinkedStuck, RunsAgree, RunsAgreeAt}
use Rattle.law_stacks.proofs.RenderedMarks.{Lacks}
use Rattle.law_stacks.proofs.RowsKeep.{rows_keep}
use Rattle.law_stacks.proofs.LinkedAgrees.{linked_agrees, at_start}
use Rattle.law_stacks.proofs.AgreeingSteps.{SameAs, same_start, forward, backward, was_over, is_over, is_stuck, was_stuck}

module _ (keep : RowsKeep) (repeats : ℕ → ℕ → Bool) (hidden : List ℕ) (tables : Tables) (launch : Launch) where
  abbrev pub P : Program
  P = tables

  abbrev pub May : LinkedStack → Type 0
  May = Lacks repeats (Opens P)

  -- the two stacks before the first
  abbrev Blank : LinkedStack → Frames → Type 0
  Blank m' m = (m' ≡ no_chain) × (m ≡ empty)

  abbrev Holds : LinkedStack → Type 0
  Holds m' = (linked_agrees repeats (Opens P)).Holds (at_start repeats (Opens P)).0 m'

  no_values : (values : List Value) → length values ≡ 0 → values ≡ []
  no_values [] e = refl
  no_values (v ∷ values) e = absurd (omega arith)

  no_locals : (m' : LinkedStack) (m : Frames) → Blank m' m → locals m' ≡ flat_locals m
  no_locals m' m b = ap locals b.0 ∙ sym (ap flat_locals b.1)

  set_none : (values : List Value) (m' : LinkedStack) (m : Frames) → length values ≡ length (flat_locals m) → Blank m' m
      → Blank (set_locals values m') (flat_set_locals values m)
  set_none values m' m e b =
      let none : values ≡ [] = no_values values (e ∙ ap (λ m. length (flat_locals m)) b.1) in
      (ap (λ v. set_locals v m') none ∙ ap (set_locals []) b.0, ap (λ v. flat_set_locals v m) none ∙ ap (flat_set_locals []) b.1)

  -- whatever is said of the state behind one that lacks something
  pub starts_same : (Lost : Type 0)
      → SameAs (linked_calls repeats) flat P May Lost (linked_agrees repeats (Opens P)) keep
      (L.start_hiding repeats P hidden launch) (F.start_hiding P hidden launch)
  starts_same Lost = same_start (linked_calls repeats) flat P May Lost (linked_agrees repeats (Opens P)) keep (at_start repeats (Opens P)).0 Blank
      (λ m' m b. subst Holds (sym b.0) (at_start repeats (Opens P)).1) no_locals set_none hidden launch no_chain empty (refl, refl)

  abbrev Missing : Type 0
  Missing = MissingCell repeats hidden tables launch

  abbrev pub Sames : State WaitingChain LinkedStack → State Frames Frames → Type 0
  Sames s' s = SameAs (linked_calls repeats) flat P May Missing (linked_agrees repeats (Opens P)) keep s' s

  starts : Sames (L.start_hiding repeats P hidden launch) (F.start_hiding P hidden launch)
  starts = starts_same Missing

  -- a state of the run that lacks something is one in which a cell is missing
  missing_at : (k : ℕ) (s : State WaitingChain LinkedStack) → L.steps repeats P k (L.start_hiding repeats P hidden launch) ≡ s
      → IsLacking (linked_calls repeats) P May s
      → Missing
  missing_at k (running m st) e x = record { count = k; stack = m; store = st; comes = e; label = x.0; sets = x.1; missing = x.2 }
  missing_at k (failing m st) e x = absurd x
  missing_at k (hopping m st) e x = absurd x
  missing_at k (over ending outside) e x = absurd x
  missing_at k stuck e x = absurd x

  missing_cell : (k : ℕ) → IsLacking (linked_calls repeats) P May (steps (linked_calls repeats) P k (L.start_hiding repeats P hidden launch)) → Missing
  missing_cell k x = missing_at k (L.steps repeats P k (L.start_hiding repeats P hidden launch)) refl x

  pub to_flat : (seen : Observation) → L.RunsHiding repeats hidden tables launch seen → F.RunsHiding hidden tables launch seen
  to_flat seen run =
      let a = forward (linked_calls repeats) flat P May Missing (linked_agrees repeats (Opens P)) keep run.count (L.start_hiding repeats P hidden launch)
      (F.start_hiding P hidden launch) missing_cell starts in
      record {
        count = a.0;
        is = ap observation (was_over (linked_calls repeats) flat P May Missing (linked_agrees repeats (Opens P)) keep seen.ending seen.outside
            (F.steps P a.0 (F.start_hiding P hidden launch))
            (subst (λ s. Sames s (F.steps P a.0 (F.start_hiding P hidden launch))) (over_seen _ seen run.is) a.1));
      }

  to_linked_or : (seen : Observation) → F.RunsHiding hidden tables launch seen
      → L.RunsHiding repeats hidden tables launch seen ⊎ (LinkedStuck repeats hidden tables launch × Missing)
  to_linked_or seen run = by_end (is_over (linked_calls repeats) flat P May Missing (linked_agrees repeats (Opens P)) keep seen.ending seen.outside
      (L.steps repeats P a.0 (L.start_hiding repeats P hidden launch)) a.1)
    where
      a : (k : ℕ) × Sames (L.steps repeats P k (L.start_hiding repeats P hidden launch)) (over seen.ending seen.outside)
      a = backward (linked_calls repeats) flat P May Missing (linked_agrees repeats (Opens P)) keep (over seen.ending seen.outside) refl run.count
          (L.start_hiding repeats P hidden launch) (F.start_hiding P hidden launch) missing_cell starts (over_seen _ seen run.is)

      by_end : ((L.steps repeats P a.0 (L.start_hiding repeats P hidden launch)) ≡ over seen.ending seen.outside)
          ⊎ ((L.steps repeats P a.0 (L.start_hiding repeats P hidden launch) ≡ stuck) × Missing)
          → L.RunsHiding repeats hidden tables launch seen ⊎ (LinkedStuck repeats hidden tables launch × Missing)
      by_end (inl e) = inl (record { count = a.0; is = ap observation e })
      by_end (inr x) = inr (record { count = a.0; is = x.0 }, x.1)

  pub stuck_linked : FlatStuck hidden tables launch → LinkedStuck repeats hidden tables launch
  stuck_linked run =
      let a = backward (linked_calls repeats) flat P May Missing (linked_agrees repeats (Opens P)) keep stuck refl run.count
      (L.start_hiding repeats P hidden launch)
      (F.start_hiding P hidden launch) missing_cell starts run.is in
      record {
        count = a.0;
        is = is_stuck (linked_calls repeats) flat P May Missing (linked_agrees repeats (Opens P)) keep
            (L.steps repeats P a.0 (L.start_hiding repeats P hidden launch)) a.1;
      }

  stuck_flat_or : LinkedStuck repeats hidden tables launch → FlatStuck hidden tables launch ⊎ Missing
  stuck_flat_or run = by_end (was_stuck (linked_calls repeats) flat P May Missing (linked_agrees repeats (Opens P)) keep
      (F.steps P a.0 (F.start_hiding P hidden launch))
      (subst (λ s. Sames s (F.steps P a.0 (F.start_hiding P hidden launch))) run.is a.1))
    where
      a : (k : ℕ) × Sames (L.steps repeats P run.count (L.start_hiding repeats P hidden launch)) (F.steps P k (F.start_hiding P hidden launch))
      a = forward (linked_calls repeats) flat P May Missing (linked_agrees repeats (Opens P)) keep run.count (L.start_hiding repeats P hidden launch)
          (F.start_hiding P hidden launch) missing_cell starts

      by_end : (F.steps P a.0 (F.start_hiding P hidden launch) ≡ stuck) ⊎ Missing → FlatStuck hidden tables launch ⊎ Missing
      by_end (inl e) = inl (record { count = a.0; is = e })
      by_end (inr x) = inr x

  pub runs_agree_at : RunsAgreeAt repeats hidden tables launch
  runs_agree_at = record { to_linked = to_linked_or; to_flat = to_flat; stuck_linked = stuck_linked; stuck_flat = stuck_flat_or }

  -- where no cell is missing
  pub runs_agree : (Missing → ⊥) → RunsAgree repeats hidden tables launch
  runs_agree none_missing = record {
    to_linked = λ seen run. only seen (to_linked_or seen run);
    to_flat = to_flat;
    stuck_linked = stuck_linked;
    stuck_flat = λ run. only_stuck (stuck_flat_or run);
  }
    where
      only : (seen : Observation) → L.RunsHiding repeats hidden tables launch seen ⊎ (LinkedStuck repeats hidden tables launch × Missing)
          → L.RunsHiding repeats hidden tables launch seen
      only seen (inl x) = x
      only seen (inr x) = absurd (none_missing x.1)

      only_stuck : FlatStuck hidden tables launch ⊎ Missing → FlatStuck hidden tables launch
      only_stuck (inl x) = x
      only_stuck (inr x) = absurd (none_missing x)

-- where labels may change everywhere none is
pub none_anywhere : (hidden : List ℕ) (tables : Tables) (launch : Launch) → MissingCell repeats_anywhere hidden tables launch → ⊥
none_anywhere hidden tables launch x = none_here (outer_of x.stack.chain) ((linked_calls repeats_anywhere).proc x.stack) x.missing
  where
    none_here : (outer : Outer) (proc : ℕ) → LacksCell repeats_anywhere (Opens tables) outer proc → ⊥
    none_here (mark (fixed label) outside) proc h = let e : true ≡ false = h.2 in cc
    none_here (mark (flagged label flag place) outside) proc h = h
    none_here (limit count outside) proc h = h
    none_here (base p a) proc h = h
    none_here (call p a level place caller) proc h = h

-- with the rows that stand here

-- both runs agree where every mark has a cell
pub agrees_everywhere : (hidden : List ℕ) (tables : Tables) (launch : Launch) → RunsAgree repeats_anywhere hidden tables launch
agrees_everywhere hidden tables launch = runs_agree rows_keep repeats_anywhere hidden tables launch (none_anywhere hidden tables launch)

-- both runs agree where no mark lacks its cell
pub agrees_where_covered : (repeats : ℕ → ℕ → Bool) (hidden : List ℕ) (tables : Tables) (launch : Launch) → (MissingCell repeats hidden tables launch → ⊥)
    → RunsAgree repeats hidden tables launch
agrees_where_covered repeats hidden tables launch = runs_agree rows_keep repeats hidden tables launch

pub agrees_as_told : (repeats : ℕ → ℕ → Bool) (hidden : List ℕ) (tables : Tables) (launch : Launch) → RunsAgreeAt repeats hidden tables launch
agrees_as_told repeats hidden tables launch = runs_agree_at rows_keep repeats hidden tables launch
