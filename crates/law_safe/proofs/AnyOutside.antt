-- No run of verified code is stuck, whatever the outside is before each step.
use Rattle.std.proofs.Common.{◌≡◌, ◌≢◌, inl, inr, ℕ, zero, suc, List, [], ◌∷◌, Option, Some, None, refl, sym, ap, ◌∙◌, subst}
use Rattle.icn_value.specs.Store.{Outside, bare_outside}
use Rattle.icn_code.specs.Codes.{Tables}
use Rattle.icn_verify.specs.Given.{HaveShapes}
use Rattle.icn_run.specs.Stacks.{Frames, flat}
use Rattle.icn_run.specs.Chains.{WaitingChain, LinkedStack, linked_calls}
use Rattle.icn_run.specs.Step.{Launch, State, Store, running, failing, hopping, over, stuck, instruction, instruction_at, with_found, step, steps}
use Rattle.icn_run.specs.FlatStep as Flat
use Rattle.icn_run.specs.LinkedStep as Marks
use Rattle.icn_run.specs.LinkedStep.{repeats_anywhere}
use Rattle.law_stacks.specs.SameStates.{Opens, mark_of, same_running, same_failing, same_hopping, same_over, same_stuck, lost}
use Rattle.law_stacks.proofs.RowsKeep.{rows_keep}
use Rattle.law_stacks.proofs.LinkedAgrees.{linked_agrees}
use Rattle.law_stacks.proofs.RenderedMarks.{Lacks}
use Rattle.law_stacks.proofs.AgreeingSteps.{is_stuck}
use Rattle.law_stacks.proofs.SecondLaw.{starts_same}
use Rattle.law_safe.specs.Within.{RowsStayWithin}
use Rattle.law_safe.specs.Shaped.{Safe}
use Rattle.law_safe.specs.NoStuck.{TablesOk, IsNeverStuckOver}
use Rattle.law_safe.specs.StateFacts.{shapes_of}
use Rattle.icn_run.specs.AnyOutside.{over_outside, run_over}
use Rattle.law_safe.proofs.NoStuck.{start_safe}
use Rattle.law_safe.proofs.StateFacts.{Follows, IsDue, Near, SameAsFlat, follows_next, shapes_are_kept}

-- What follows from it

-- the outside of a state
abbrev pub own_outside : {K M : Type 0} → State K M → Outside
own_outside (running m st) = st.outside
own_outside (failing m st) = st.outside
own_outside (hopping m st) = st.outside
own_outside (over ending outside) = outside
own_outside stuck = bare_outside

pub over_own : {K M : Type 0} (s : State K M) → over_outside (own_outside s) s ≡ s
over_own (running m st) = refl
over_own (failing m st) = refl
over_own (hopping m st) = refl
over_own (over ending outside) = refl
over_own stuck = refl

pub over_twice : {K M : Type 0} (was now : Outside) (s : State K M) → over_outside now (over_outside was s) ≡ over_outside now s
over_twice was now (running m st) = refl
over_twice was now (failing m st) = refl
over_twice was now (hopping m st) = refl
over_twice was now (over ending outside) = refl
over_twice was now stuck = refl

over_stuck : {K M : Type 0} (outside : Outside) (s : State K M) → over_outside outside s ≡ stuck → s ≡ stuck
over_stuck outside (running m st) e = absurd (cc)
over_stuck outside (failing m st) e = absurd (cc)
over_stuck outside (hopping m st) e = absurd (cc)
over_stuck outside (over ending left) e = e
over_stuck outside stuck e = refl

module _ (tables : Tables) where
  -- the state itself lacks nothing
  pub lacks_nothing : (s : State Frames Frames) → IsNeverStuckOver tables s → s ≢ stuck
  lacks_nothing s never = never []

  -- a step over any outside leads to such a state
  pub never_behind : (outside : Outside) (s : State Frames Frames) → IsNeverStuckOver tables s
      → IsNeverStuckOver tables (step flat tables (over_outside outside s))
  never_behind outside s never = λ outsides. never (outside ∷ outsides)

  -- a step over its own outside too
  pub never_next : (s : State Frames Frames) → IsNeverStuckOver tables s → IsNeverStuckOver tables (step flat tables s)
  never_next s never = subst (λ x. IsNeverStuckOver tables (step flat tables x)) (over_own s) (never_behind (own_outside s) s never)

  -- and so do so many steps
  pub never_after : (n : ℕ) (s : State Frames Frames) → IsNeverStuckOver tables s → IsNeverStuckOver tables (steps flat tables n s)
  never_after zero s never = never
  never_after (suc n) s never = never_after n (step flat tables s) (never_next s never)

  -- none of them lacks anything, nor does a step over another outside
  pub never_lacking : (n : ℕ) (s : State Frames Frames) → IsNeverStuckOver tables s → steps flat tables n s ≢ stuck
  never_lacking n s never = lacks_nothing (steps flat tables n s) (never_after n s never)

  pub behind_lacks_nothing : (outside : Outside) (s : State Frames Frames) → IsNeverStuckOver tables s → step flat tables (over_outside outside s) ≢ stuck
  behind_lacks_nothing outside s never = lacks_nothing (step flat tables (over_outside outside s)) (never_behind outside s never)

  -- over another outside the state is such a one
  pub never_elsewhere : (outside : Outside) (s : State Frames Frames) → IsNeverStuckOver tables s → IsNeverStuckOver tables (over_outside outside s)
  never_elsewhere outside s never [] = λ e. never [] (over_stuck outside s e)
  never_elsewhere outside s never (now ∷ later) =
      subst (λ x. run_over tables later (step flat tables x) ≢ stuck) (sym (over_twice outside now s)) (never (now ∷ later))

-- That it is so

module _ (tables : Tables) (have : HaveShapes tables) (ok : TablesOk tables) (keep : RowsStayWithin) where
  abbrev pub SafeState : State WaitingChain LinkedStack → Type 0
  SafeState s = Safe tables (shapes_of tables have) s

  -- what is safe does not ask for the outside
  pub safe_over : (outside : Outside) (s : State WaitingChain LinkedStack) → SafeState s → SafeState (over_outside outside s)
  safe_over outside (running m st) h = (h.0, h.1, h.2, h.3, h.4, record { world = h.5.world; coexps = h.5.coexps })
  safe_over outside (failing m st) h = (h.0, h.1, h.2, h.3, record { world = h.4.world; coexps = h.4.coexps })
  safe_over outside (hopping m st) h = (h.0, h.1, record { world = h.2.world; coexps = h.2.coexps })
  safe_over outside (over ending left) h = tt
  safe_over outside stuck h = h

  -- states that are the same are so over another outside
  pub same_outside : (outside : Outside) (l : State WaitingChain LinkedStack) (f : State Frames Frames) → SameAsFlat tables have ok keep l f
      → SameAsFlat tables have ok keep (over_outside outside l) (over_outside outside f)
  same_outside outside l f (same_running st ks' h) = same_running (record st { outside = outside }) ks' h
  same_outside outside l f (same_failing st ks' h) = same_failing (record st { outside = outside }) ks' h
  same_outside outside l f (same_hopping st ks' h) = same_hopping (record st { outside = outside }) ks' h
  same_outside outside l f same_over = same_over
  same_outside outside l f same_stuck = same_stuck
  same_outside outside l f (lost x) = lost x

  pub near_over : (outside : Outside) (f : State Frames Frames) → Near tables have ok keep f → Near tables have ok keep (over_outside outside f)
  near_over outside f x = record { state = over_outside outside x.state; safe = safe_over outside x.state x.safe; same = same_outside outside x.state f x.same }

  -- a mark is opened, whatever the outside
  pub opens_mark : (label : Option ℕ) (m : Frames) (st : Store Frames) → instruction_at flat tables m ≡ Some (mark_of label)
      → step flat tables (running m st) ≡ running (flat.mark label (flat.go (suc (flat.address m)) m)) st
  opens_mark None m st e = ap (λ o. with_found o (λ instr. instruction flat tables instr (flat.go (suc (flat.address m)) m) st)) e
  opens_mark (Some label) m st e = ap (λ o. with_found o (λ instr. instruction flat tables instr (flat.go (suc (flat.address m)) m) st)) e

  pub due_over : (outside : Outside) (f : State Frames Frames) → IsDue tables have ok keep f → Near tables have ok keep (step flat tables f)
      → Follows tables have ok keep (over_outside outside f)
  due_over outside (running m st) due near =
      inr (
        due,
        subst (Near tables have ok keep) (ap (over_outside outside) (opens_mark due.0 m st due.1)
            ∙ sym (opens_mark due.0 m (record st { outside = outside }) due.1)) (near_over outside (step flat tables (running m st)) near),
      )
  due_over outside (failing m st) due near = absurd due
  due_over outside (hopping m st) due near = absurd due
  due_over outside (over ending left) due near = absurd due
  due_over outside stuck due near = absurd due

  pub follows_over : (outside : Outside) (f : State Frames Frames) → Follows tables have ok keep f → Follows tables have ok keep (over_outside outside f)
  follows_over outside f (inl x) = inl (near_over outside f x)
  follows_over outside f (inr x) = due_over outside f x.0 x.1

  pub follows_run : (outsides : List Outside) (f : State Frames Frames) → Follows tables have ok keep f
      → Follows tables have ok keep (run_over tables outsides f)
  follows_run [] f h = h
  follows_run (outside ∷ later) f h =
      follows_run later (step flat tables (over_outside outside f)) (follows_next tables have ok keep (over_outside outside f) (follows_over outside f h))

  not_stuck : (f : State Frames Frames) → Follows tables have ok keep f → f ≢ stuck
  not_stuck f (inl x) e =
      subst SafeState (is_stuck (linked_calls repeats_anywhere) flat tables (Lacks repeats_anywhere (Opens tables)) (Unit {0})
      (linked_agrees repeats_anywhere (Opens tables)) rows_keep x.state
      (subst (λ s. SameAsFlat tables have ok keep x.state s) e x.same)) x.safe
  not_stuck f (inr x) e = subst (IsDue tables have ok keep) e x.0

  pub never_over : (launch : Launch) → IsNeverStuckOver tables (Flat.start tables launch)
  never_over launch outsides = not_stuck (run_over tables outsides (Flat.start tables launch)) (follows_run outsides (Flat.start tables launch)
      (inl (record {
        state = Marks.start repeats_anywhere tables launch;
        safe = start_safe tables (shapes_of tables have) (shapes_are_kept tables have ok keep) keep ok [] launch;
        same = starts_same rows_keep repeats_anywhere [] tables launch (Unit {0});
      })))
