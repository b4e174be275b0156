-- Each step of a run of verified code falls.
use Rattle.std.proofs.Common.{◌≡◌, ◌⊎◌, inl, inr, ℕ, zero, suc, ◌+◌, ◌-◌, ◌<◌, ◌≤◌, Bool, true, false, List, [], ◌∷◌, length, Option, Some, None, refl, sym, ap, ◌∙◌, subst, arith}
use Rattle.std.specs.Prelude.{nat_le, if◌then◌else◌, slice_get}
use Rattle.std.specs.Option.{option_map_or}
use Rattle.std.proofs.lemmas.Bool.{leb-true, leb-false}
use Rattle.icn_value.specs.Store.{Outside}
use Rattle.icn_code.specs.declared.instr.Instr.{Instr}
use Rattle.icn_code.specs.declared.instr.Instr.TheVariants as Instrs
use Rattle.icn_code.specs.Codes.{Tables, Proc as Procedure}
use Rattle.icn_verify.specs.Given.{HaveShapes}
use Rattle.icn_run.specs.Stacks.{Frames, flat, empty}
use Rattle.icn_run.specs.Chains.{WaitingChain, LinkedStack, linked_calls}
use Rattle.icn_run.specs.Step.{Launch, Store, State, running, failing, hopping, over, stuck, instruction, instruction_at, with_found, passed_failure, activator_of, step, first_store, main_of}
use Rattle.icn_run.specs.FlatStep as Flat
use Rattle.icn_run.specs.LinkedStep as Marks
use Rattle.icn_run.specs.LinkedStep.{repeats_anywhere}
use Rattle.law_stacks.specs.Measure.{worth, worth_of, Weighs, Fits, IsForward, Falls as TurnedOrLighter, Later, Sound}
use Rattle.law_stacks.specs.SameStates.{Opens, mark_of}
use Rattle.law_stacks.proofs.EndsByBound.{GoesForward, start_sound}
use Rattle.law_stacks.proofs.StepsFall.{IsForwardFrom, cost_some, worth_less, worth_next, instruction_lighter, failing_lighter, turned, activator_lighter, TurnOf}
use Rattle.law_stacks.proofs.FlatWeights.{flat_weighs, bounded_so, so_bounded}
use Rattle.law_stacks.proofs.CellLists.{some_injective}
use Rattle.law_stacks.proofs.LinkedAgrees.{linked_agrees}
use Rattle.law_stacks.proofs.RenderedMarks.{Lacks}
use Rattle.law_stacks.proofs.AgreeingSteps.{Reaches, made_turns, one_step}
use Rattle.law_stacks.proofs.RowsKeep.{rows_keep}
use Rattle.law_stacks.proofs.SecondLaw.{starts_same}
use Rattle.icn_run.specs.AnyOutside.{over_outside, run_over}
use Rattle.law_safe.specs.StateFacts.{shapes_of, IsFlatShapedAt}
use Rattle.law_safe.specs.NoStuck.{TablesOk}
use Rattle.law_safe.specs.Within.{RowsStayWithin}
use Rattle.law_safe.proofs.AnyOutside.{follows_over, opens_mark}
use Rattle.law_safe.proofs.Observations.{goes_forward}
use Rattle.law_safe.proofs.EachEntry.{index_within}
use Rattle.law_safe.proofs.StateFacts.{Follows, IsDue, Near, follows_next, shapes_are_kept, shaped_in}
use Rattle.law_safe.proofs.NoStuck.{start_safe, step_ok}
use Rattle.law_safe.specs.StepMeasure.{EachStepFalls, Falls, ends, turned as turn_made, lighter, backward_worth, instr_count, left_of, turns_of}
use Rattle.law_safe.specs.LeastWeights.{stack_weight}
use Rattle.law_safe.proofs.LeastWeights.{least, bounds}

-- a place with an instruction is below the count of all
place_within : (procs : List Procedure) (n place : ℕ) (instr : Instr)
    → slice_get (option_map_or (λ (entry : Procedure). entry.instrs) (slice_get procs n) []) place ≡ Some instr → place < instr_count procs
place_within [] n place instr e = absurd (cc e)
place_within (proc ∷ procs) zero place instr e = let l = index_within proc.instrs place instr e in omega (arith, l)
place_within (proc ∷ procs) (suc n) place instr e = let l = place_within procs n place instr e in omega (arith, l)

-- a label that leads forward is worth nothing more
forward_label : (N place label : ℕ) → place < label → (b : Bool) → nat_le label place ≡ b → (if b then worth N label else 0) ≡ 0
forward_label N place label less true e = let back = leb-true label place e in absurd (omega (arith, less, back))
forward_label N place label less false e = refl

backward_none : (N place : ℕ) (o : Option Instr) → ((instr : Instr) → o ≡ Some instr → IsForward place instr) → backward_worth N place o ≡ 0
backward_none N place None forward = refl
backward_none N place (Some (Instrs.Mark label)) forward = forward_label N place label (forward (Instrs.Mark label) refl) (nat_le label place) refl
backward_none N place (Some _) forward = refl

-- seen from the place behind it
behind : (place : ℕ) (instr : Instr) → IsForward place instr → IsForwardFrom (suc place) instr
behind place (Instrs.Mark label) h = omega (arith, h)
behind place (Instrs.Goto label) h = omega (arith, h)
behind place (Instrs.Init label) h = omega (arith, h)
behind place _ h = tt

module _ (tables : Tables) (have : HaveShapes tables) (ok : TablesOk tables) (keep : RowsStayWithin) (B : ℕ) where
  abbrev N : ℕ
  N = instr_count tables.procs

  abbrev W : Weighs flat (instr_count tables.procs)
  W = flat_weighs (instr_count tables.procs)

  abbrev IsSound : State Frames Frames → Type 0
  IsSound s = Sound flat N B W s

  abbrev IsNear : State Frames Frames → Type 0
  IsNear s = Near tables have ok keep s

  -- The weight as a number

  abbrev least_fits : (m : Frames) → Fits flat N B W m → Fits flat N B W m
  least_fits m f = let g = bounded_so N m f.0 f.1 in let b = bounds N g.2 (suc (length m.cells)) (omega arith) in let is = b.is in
      (stack_weight N m, so_bounded N m (stack_weight N m) (b.newest, b.outer, b.fits, omega (arith, is)))

  weighs_least : (m : Frames) (f : Fits flat N B W m) → stack_weight N m ≤ f.0
  weighs_least m f = let g = bounded_so N m f.0 f.1 in let a = least N g.2 (suc (length m.cells)) in let b = g.3 in omega (arith, a, b)

  -- Where nothing leads back

  forward_near : (m : Frames) (st : Store Frames) → IsNear (running m st) → (instr : Instr) → instruction_at flat tables m ≡ Some instr
      → IsForward m.address instr
  forward_near m st x instr e =
      let shaped : IsFlatShapedAt tables (shapes_of tables have) m st = shaped_in tables have ok keep x.state (running m st) x.same x.safe in
      let same : instr ≡ shaped.fine.instr = some_injective (sym e ∙ shaped.fine.stands) in
      subst (IsForward m.address) (sym same)
      (goes_forward shaped.fine.instr shaped.shape m.address (λ to. shapes_of tables have (flat.proc m) to.0 ≡ Some to.1) shaped.fine.onward)

  -- nothing leads back, or a turn more was made
  abbrev Settled : ℕ → State Frames Frames → Type 0
  Settled n (running m st) = (backward_worth N m.address (instruction_at flat tables m) ≡ 0) ⊎ (st.turns ≡ suc n)
  Settled n (failing m st) = Unit {0}
  Settled n (hopping m st) = Unit {0}
  Settled n (over ending outside) = Unit {0}
  Settled n stuck = Unit {0}

  near_settled : (n : ℕ) (s : State Frames Frames) → IsNear s → Settled n s
  near_settled n (running m st) x = inl (backward_none N m.address (instruction_at flat tables m) (forward_near m st x))
  near_settled n (failing m st) x = tt
  near_settled n (hopping m st) x = tt
  near_settled n (over ending outside) x = tt
  near_settled n stuck x = tt

  turn_settled : (n : ℕ) (s : State Frames Frames) → made_turns s ≡ suc n → Settled n s
  turn_settled n (running m st) e = inr e
  turn_settled n (failing m st) e = tt
  turn_settled n (hopping m st) e = tt
  turn_settled n (over ending outside) e = tt
  turn_settled n stuck e = tt

  settled_next : (s : State Frames Frames) → IsNear s → Settled (made_turns s) (step flat tables s)
  settled_next s x = by (one_step (linked_calls repeats_anywhere) flat tables (Lacks repeats_anywhere (Opens tables)) (Unit {0})
      (linked_agrees repeats_anywhere (Opens tables)) rows_keep (λ lacks. tt) x.same)
    where
      next : State WaitingChain LinkedStack
      next = step (linked_calls repeats_anywhere) tables x.state

      by : Reaches (linked_calls repeats_anywhere) flat tables (Lacks repeats_anywhere (Opens tables)) (Unit {0})
          (linked_agrees repeats_anywhere (Opens tables)) rows_keep (made_turns s) next (step flat tables s)
          → Settled (made_turns s) (step flat tables s)
      by (inl y) = near_settled (made_turns s) (step flat tables s)
          (record { state = next; safe = step_ok tables (shapes_of tables have) (shapes_are_kept tables have ok keep) keep ok x.state x.safe; same = y })
      by (inr y) = turn_settled (made_turns s) (step flat tables s) y.1.1

  -- What a step comes to

  running_falls : (n w : ℕ) (before : State Frames Frames) (m : Frames) (st : Store Frames) (f : Fits flat N B W m) → turns_of before ≡ n
      → w ≤ left_of tables before
      → TurnedOrLighter flat N B W st.turns (worth N m.address + f.0) n w → Settled n (running m st) → Falls tables B before (running m st)
  running_falls n w before m st f e le (inl turn) settled = let a = turn.0 in let b = turn.1 in turn_made (omega (arith, b, e)) (omega (arith, a, e))
  running_falls n w before m st f e le (inr less) (inl none) =
      let a = less.0 in let b = less.1 in let c = weighs_least m f in lighter (omega (arith, a, e)) (omega (arith, b, c, none, le))
  running_falls n w before m st f e le (inr less) (inr turn) = let a = less.0 in absurd (omega (arith, a, turn))

  failing_falls : (n w : ℕ) (before : State Frames Frames) (m : Frames) (st : Store Frames) (f : Fits flat N B W m) → turns_of before ≡ n
      → w ≤ left_of tables before
      → TurnedOrLighter flat N B W st.turns f.0 n w → Falls tables B before (failing m st)
  failing_falls n w before m st f e le (inl turn) = let a = turn.0 in let b = turn.1 in turn_made (omega (arith, b, e)) (omega (arith, a, e))
  failing_falls n w before m st f e le (inr less) =
      let a = less.0 in let b = less.1 in let c = weighs_least m f in lighter (omega (arith, a, e)) (omega (arith, b, c, le))

  later_falls : (n w : ℕ) (before after : State Frames Frames) → turns_of before ≡ n → w ≤ left_of tables before → Later flat N B W n w after → Settled n after
      → Falls tables B before after
  later_falls n w before (running m st) e le l settled = running_falls n w before m st l.0 e le l.2 settled
  later_falls n w before (failing m st) e le l settled = failing_falls n w before m st l.0 e le l.2
  later_falls n w before (hopping m st) e le l settled = let a = l.1.0 in let b = l.1.1 in turn_made (omega (arith, b, e)) (omega (arith, a, e))
  later_falls n w before (over ending outside) e le l settled = ends tt
  later_falls n w before stuck e le l settled = ends tt

  few_after : (n w turns less : ℕ) → n ≤ B → TurnedOrLighter flat N B W turns less n w → turns ≤ B
  few_after n w turns less few (inl turn) = let a = turn.0 in let b = turn.1 in omega (arith, a, b)
  few_after n w turns less few (inr same) = let a = same.0 in omega (arith, a, few)

  later_sound : (n w : ℕ) (s : State Frames Frames) → n ≤ B → Later flat N B W n w s → IsSound s
  later_sound n w (running m st) few l = (l.0, l.1, few_after n w st.turns (worth N m.address + l.0.0) few l.2)
  later_sound n w (failing m st) few l = (l.0, l.1, few_after n w st.turns l.0.0 few l.2)
  later_sound n w (hopping m st) few l = let a = l.1.0 in let b = l.1.1 in (l.0, omega (arith, a, b))
  later_sound n w (over ending outside) few l = tt
  later_sound n w stuck few l = tt

  at_instruction : (m : Frames) (st : Store Frames) (h : IsSound (running m st))
      → ((instr : Instr) → instruction_at flat tables m ≡ Some instr → IsForward m.address instr) → (o : Option Instr) → instruction_at flat tables m ≡ o
      → Later flat N B W st.turns (worth N m.address + stack_weight N m) (with_found o (λ instr. instruction flat tables instr (flat.go (suc m.address) m) st))
  at_instruction m st h forward None e = tt
  at_instruction m st h forward (Some i) e =
      let y = worth_next N m.address (place_within tables.procs (flat.proc m) m.address i e) in
      let f = least_fits m h.0 in
      instruction_lighter flat N W tables B st.turns (worth N m.address + stack_weight N m) h.2 (flat.go (suc m.address) m)
      (f.0, W.go (suc m.address) m f.0 f.1)
      (omega (arith, y)) i st
      (behind m.address i (forward i e)) (record { fit = h.1; turns = refl })

  -- what is left of a state, but for a label that leads back
  abbrev weight_left : State Frames Frames → ℕ
  weight_left (running m st) = worth N m.address + stack_weight N m
  weight_left (failing m st) = stack_weight N m
  weight_left (hopping m st) = 0
  weight_left (over ending outside) = 0
  weight_left stuck = 0

  weight_within : (s : State Frames Frames) → weight_left s ≤ left_of tables s
  weight_within (running m st) = omega arith
  weight_within (failing m st) = omega arith
  weight_within (hopping m st) = omega arith
  weight_within (over ending outside) = omega arith
  weight_within stuck = omega arith

  same_turns : (s : State Frames Frames) → turns_of s ≡ made_turns s
  same_turns (running m st) = refl
  same_turns (failing m st) = refl
  same_turns (hopping m st) = refl
  same_turns (over ending outside) = refl
  same_turns stuck = refl

  few_made : (s : State Frames Frames) → IsSound s → made_turns s ≤ B
  few_made (running m st) h = h.2
  few_made (failing m st) h = h.2
  few_made (hopping m st) h = h.1
  few_made (over ending outside) h = omega arith
  few_made stuck h = omega arith

  near_later : (s : State Frames Frames) → IsSound s → IsNear s → Later flat N B W (made_turns s) (weight_left s) (step flat tables s)
  near_later (running m st) h x = at_instruction m st h (forward_near m st x) (instruction_at flat tables m) refl
  near_later (failing m st) h x =
      let f = least_fits m h.0 in failing_lighter flat N W tables B st.turns (stack_weight N m) h.2 m f (omega arith) st (record { fit = h.1; turns = refl })
  near_later (hopping m st) h x =
      turned flat N W tables B st.turns 0 h.1 st (λ st. passed_failure flat (activator_of st.active st) m st) (record { fit = h.0; turns = refl })
      (activator_lighter flat N W tables B st.turns m (TurnOf flat N W tables B st.turns 0 h.1 st) (h.0, omega arith))
  near_later (over ending outside) h x = tt
  near_later stuck h x = tt

  -- Where a mark is due to which failure came back

  -- its label leads forward, or is counted
  mark_lighter : (place more : ℕ) (label : Option ℕ) → place < N → more ≤ suc (worth_of N label)
      → worth N (suc place) + more < worth N place + backward_worth N place (Some (mark_of label))
  mark_lighter place more None low le = let y = worth_next N place low in let one = cost_some (N - suc place) in omega (arith, y, one, le)
  mark_lighter place more (Some label) low le = by (nat_le label place) refl
    where
      by : (b : Bool) → nat_le label place ≡ b → worth N (suc place) + more < worth N place + (if b then worth N label else 0)
      by true e = let y = worth_next N place low in let one = cost_some (N - suc place) in omega (arith, y, one, le)
      by false e = let y = worth_next N place low in let one = cost_some (N - suc place) in let front = leb-false label place e in
          let less = worth_less N (suc place) label (omega (arith, front)) in omega (arith, y, one, le, less)

  abbrev opened : Option ℕ → Frames → Frames
  opened label m = flat.mark label (flat.go (suc m.address) m)

  due_falls : (m : Frames) (st : Store Frames) (label : Option ℕ) → instruction_at flat tables m ≡ Some (mark_of label) → IsSound (running m st)
      → IsNear (running (opened label m) st) → Falls tables B (running m st) (running (opened label m) st)
  due_falls m st label stands h near =
      let f = least_fits m h.0 in
      let stays = W.mark label (flat.go (suc m.address) m) (f.0, W.go (suc m.address) m f.0 f.1) in
      let most = stays.weighs in
      let weighs = weighs_least (opened label m) stays.fits in
      let none = backward_none N (suc m.address) (instruction_at flat tables (opened label m)) (forward_near (opened label m) st near) in
      let low = place_within tables.procs (flat.proc m) m.address (mark_of label) stands in
      let less = mark_lighter m.address (suc (worth_of N label)) label low (omega arith) in
      let there : backward_worth N m.address (instruction_at flat tables m)
      ≡ backward_worth N m.address (Some (mark_of label)) = ap (backward_worth N m.address) stands in
      lighter refl (omega (arith, most, weighs, none, less, there))

  due_sound : (m : Frames) (st : Store Frames) (label : Option ℕ) → IsSound (running m st) → IsSound (running (opened label m) st)
  due_sound m st label h = let f = least_fits m h.0 in ((W.mark label (flat.go (suc m.address) m) (f.0, W.go (suc m.address) m f.0 f.1)).fits, h.1, h.2)

  -- All steps

  abbrev Goes : State Frames Frames → Type 0
  Goes s = IsSound s × Follows tables have ok keep s

  due_step : (s : State Frames Frames) → IsSound s → IsDue tables have ok keep s → IsNear (step flat tables s)
      → Falls tables B s (step flat tables s) × IsSound (step flat tables s)
  due_step (running m st) h due near =
      let e = opens_mark tables have ok keep due.0 m st due.1 in
      subst (λ s. Falls tables B (running m st) s × IsSound s) (sym e) (due_falls m st due.0 due.1 h (subst IsNear e near), due_sound m st due.0 h)
  due_step (failing m st) h due near = absurd due
  due_step (hopping m st) h due near = absurd due
  due_step (over ending outside) h due near = absurd due
  due_step stuck h due near = absurd due

  step_falls : (s : State Frames Frames) → Goes s → Falls tables B s (step flat tables s) × IsSound (step flat tables s)
  step_falls s (h, inl x) = let l = near_later s h x in (
    later_falls (made_turns s) (weight_left s) s (step flat tables s) (same_turns s) (weight_within s) l (settled_next s x),
    later_sound (made_turns s) (weight_left s) (step flat tables s) (few_made s h) l,
  )
  step_falls s (h, inr x) = due_step s h x.0 x.1

  goes_next : (s : State Frames Frames) → Goes s → Goes (step flat tables s)
  goes_next s h = ((step_falls s h).1, follows_next tables have ok keep s h.1)

  sound_over : (outside : Outside) (s : State Frames Frames) → IsSound s → IsSound (over_outside outside s)
  sound_over outside (running m st) h = (h.0, (h.1.0, h.1.1), h.2)
  sound_over outside (failing m st) h = (h.0, (h.1.0, h.1.1), h.2)
  sound_over outside (hopping m st) h = ((h.0.0, h.0.1), h.1)
  sound_over outside (over ending left) h = tt
  sound_over outside stuck h = tt

  goes_over : (outside : Outside) (s : State Frames Frames) → Goes s → Goes (over_outside outside s)
  goes_over outside s h = (sound_over outside s h.0, follows_over tables have ok keep outside s h.1)

  goes_run : (outsides : List Outside) (s : State Frames Frames) → Goes s → Goes (run_over tables outsides s)
  goes_run [] s h = h
  goes_run (outside ∷ later) s h = goes_run later (step flat tables (over_outside outside s)) (goes_next (over_outside outside s) (goes_over outside s h))

  abbrev nowhere : GoesForward flat N tables (λ s. ⊥)
  nowhere = record { on = λ s none. absurd none; within = λ m st none instr e. absurd none; forward = λ m st none instr e. absurd none }

  start_goes : (launch : Launch) → launch.bounds.turns ≡ B → Goes (Flat.start tables launch)
  start_goes launch e = (
    start_sound flat N W tables B (λ s. ⊥) nowhere launch.words empty (first_store tables launch) (main_of tables) (((tt, tt), e), omega arith),
    inl (record {
      state = Marks.start repeats_anywhere tables launch;
      safe = start_safe tables (shapes_of tables have) (shapes_are_kept tables have ok keep) keep ok [] launch;
      same = starts_same rows_keep repeats_anywhere [] tables launch (Unit {0});
    }),
  )

pub each_falls : (tables : Tables) → HaveShapes tables → TablesOk tables → RowsStayWithin → (launch : Launch) → EachStepFalls tables launch
each_falls tables have ok keep launch outsides outside =
    let B = launch.bounds.turns in
    (step_falls tables have ok keep B (over_outside outside (run_over tables outsides (Flat.start tables launch)))
    (goes_over tables have ok keep B outside (run_over tables outsides (Flat.start tables launch))
    (goes_run tables have ok keep B outsides (Flat.start tables launch) (start_goes tables have ok keep B launch refl)))).0
