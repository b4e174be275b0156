-- Each run ends by its bound.
use Rattle.std.proofs.Common.{◌≡◌, ℕ, zero, suc, ◌+◌, ◌-◌, ◌<◌, ◌≤◌, inl, inr, List, [], ◌∷◌, Option, Some, None, refl, ap, ◌∙◌, arith, Bool, true, false}
use Rattle.std.specs.Prelude.{slice_get, nat_le, ◌++◌, drop}
use Rattle.icn_code.specs.declared.instr.Instr.{Instr}
use Rattle.icn_code.specs.declared.instr.Instr.TheVariants as I
use Rattle.icn_defs.specs.KeptSizes.{KeepsIn}
use Rattle.icn_defs.proofs.OnErrors.{fatal_ends}
use Rattle.icn_run.proofs.Errors.{at_end}
use Rattle.icn_run.specs.Rows.{Value, Outcome, Fails, Gives, Suspends, Error, Ends as Ended, Val, Var, list_row, words_row}
use Rattle.icn_code.specs.Codes.{Proc as Procedure}
use Rattle.icn_run.specs.Calls.{Calls}
use Rattle.law_stacks.specs.SameStates.{IsMade}
use Rattle.icn_run.specs.Step.{Program, Launch, Store, State, running, failing, hopping, over, stuck, with_found, passed_failure, activator_of, instruction, instruction_at, step, start_hiding, start_of, first_store_hiding, main_of, with_made, here, with_at, begun_if, collect_rest, fill_nulls}
use Rattle.law_stacks.specs.Measure.{worth, Weighs, Fits, FitsStore, IsForward, Forward, Falls, Later, Sound, EndsFrom}
use Rattle.law_stacks.proofs.RowsKeep.{rows_keep}
use Rattle.law_stacks.proofs.StepsFall.{IsForwardFrom, worth_next, when_found, Allows, there, turned, TurnOf, instruction_lighter, failing_lighter, activator_lighter}

behind : (p next : ℕ) → next ≡ suc p → (i : Instr) → IsForward p i → IsForwardFrom next i
behind p next e (I.Mark l) h = omega arith
behind p next e (I.Goto l) h = omega arith
behind p next e (I.Init l) h = omega arith
behind p next e _ h = tt

-- what a run keeps from state to state, and where it goes forward
pub record GoesForward {K M : Type 0} (C : Calls K M) (N : ℕ) (P : Program) (Kept : State K M → Type 0) : Type 0 where
  pub on : (s : State K M) → Kept s → Kept (step C P s)
  pub within : (m : M) (st : Store K) → Kept (running m st) → (instr : Instr) → instruction_at C P m ≡ Some instr → C.address m < N
  pub forward : (m : M) (st : Store K) → Kept (running m st) → (instr : Instr) → instruction_at C P m ≡ Some instr → IsForward (C.address m) instr

module _ {K M : Type 0} (C : Calls K M) (N : ℕ) (W : Weighs C N) (P : Program) (B : ℕ) (Kept : State K M → Type 0) (code : GoesForward C N P Kept) where
  -- what is left in a state, and the turns that it made
  abbrev left : (s : State K M) → Sound C N B W s → ℕ
  left (running m st) h = worth N (C.address m) + h.0.0
  left (failing m st) h = h.0.0
  left (hopping m st) h = 0
  left (over ending outside) h = 0
  left stuck h = 0

  abbrev turns_of : State K M → ℕ
  turns_of (running m st) = st.turns
  turns_of (failing m st) = st.turns
  turns_of (hopping m st) = st.turns
  turns_of _ = 0

  at_instruction : (m : M) (st : Store K) (o : Option Instr) → instruction_at C P m ≡ o → Kept (running m st) → (f : Fits C N B W m) → FitsStore C N B W st
      → (few : st.turns ≤ B)
      → Later C N B W st.turns (worth N (C.address m) + f.0) (with_found o (λ instr. instruction C P instr (C.go (suc (C.address m)) m) st))
  at_instruction m st None q kept f g few = tt
  at_instruction m st (Some i) q kept f g few =
      let p = C.address m in let stands = W.go_stands (suc p) m in
      let e : worth N (C.address (C.go (suc p) m)) ≡ worth N (suc p) = ap (worth N) stands in
      let y = worth_next N p (code.within m st kept i q) in
      instruction_lighter C N W P B st.turns (worth N p + f.0) few (C.go (suc p) m) (f.0, W.go (suc p) m f.0 f.1) (omega arith) i st
      (behind p (C.address (C.go (suc p) m)) stands i (code.forward m st kept i q)) (record { fit = g; turns = refl })

  -- a step is a turn, or what is left becomes less
  pub falls : (s : State K M) (h : Sound C N B W s) → Kept s → Later C N B W (turns_of s) (left s h) (step C P s)
  falls (running m st) h kept = at_instruction m st (instruction_at C P m) refl kept h.0 h.1 h.2
  falls (failing m st) h kept = failing_lighter C N W P B st.turns h.0.0 h.2 m h.0 (omega arith) st (record { fit = h.1; turns = refl })
  falls (hopping m st) h kept = turned C N W P B st.turns 0 h.1 st (λ st. passed_failure C (activator_of st.active st) m st)
      (record { fit = h.0; turns = refl }) (activator_lighter C N W P B st.turns m (TurnOf C N W P B st.turns 0 h.1 st) (h.0, omega arith))
  falls (over ending outside) h kept = tt
  falls stuck h kept = tt

  one_step : (s : State K M) → EndsFrom C P (step C P s) → EndsFrom C P s
  one_step s e = record { count = suc e.count; is_end = e.is_end }

  -- with k turns left, and less than w left to do before the next
  abbrev Ends : ℕ → ℕ → Type 0
  Ends k w = (s : State K M) (h : Sound C N B W s) → Kept s → turns_of s + k ≡ B → left s h < w → EndsFrom C P s

  on_falls : (k w n : ℕ) → ((j : ℕ) → suc j ≡ k → (v : ℕ) → Ends j v) → Ends k w → (t : State K M) (h : Sound C N B W t) → Kept t → n + k ≡ B → (v : ℕ) → v ≤ w
      → Falls C N B W (turns_of t) (left t h) n v → EndsFrom C P t
  on_falls k w n fewer lighter t h kept e v le (inl turn) =
      let a = turn.0 in let b = turn.1 in fewer (k - 1) (omega arith) (suc (left t h)) t h kept (omega arith) (omega arith)
  on_falls k w n fewer lighter t h kept e v le (inr less) = let a = less.0 in let b = less.1 in lighter t h kept (omega arith) (omega arith)

  on_next : (k w n v : ℕ) → ((j : ℕ) → suc j ≡ k → (v : ℕ) → Ends j v) → Ends k w → n + k ≡ B → v ≤ w → (t : State K M) → Kept t → Later C N B W n v t
      → EndsFrom C P t
  on_next k w n v fewer lighter e le (running m st) kept l = on_falls k w n fewer lighter (running m st) (l.0, l.1, few l.2) kept e v le l.2
    where
      few : Falls C N B W st.turns (worth N (C.address m) + l.0.0) n v → st.turns ≤ B
      few (inl turn) = let a = turn.0 in let b = turn.1 in omega arith
      few (inr less) = let a = less.0 in omega arith
  on_next k w n v fewer lighter e le (failing m st) kept l = on_falls k w n fewer lighter (failing m st) (l.0, l.1, few l.2) kept e v le l.2
    where
      few : Falls C N B W st.turns l.0.0 n v → st.turns ≤ B
      few (inl turn) = let a = turn.0 in let b = turn.1 in omega arith
      few (inr less) = let a = less.0 in omega arith
  on_next k w n v fewer lighter e le (hopping m st) kept l =
      let a = l.1.0 in let b = l.1.1 in on_falls k w n fewer lighter (hopping m st) (l.0, omega arith) kept e v le (inl l.1)
  on_next k w n v fewer lighter e le (over ending outside) kept l = record { count = 0; is_end = tt }
  on_next k w n v fewer lighter e le stuck kept l = record { count = 0; is_end = tt }

  by_weight : (k : ℕ) → ((j : ℕ) → suc j ≡ k → (v : ℕ) → Ends j v) → (w : ℕ) → Ends k w
  by_weight k fewer zero s h kept e lt = absurd (omega arith)
  by_weight k fewer (suc w) s h kept e lt =
      one_step s (on_next k w (turns_of s) (left s h) fewer (by_weight k fewer w) e (omega arith) (step C P s) (code.on s kept) (falls s h kept))

  by_turns : (k w : ℕ) → Ends k w
  by_turns zero w = by_weight zero (λ j q. absurd (omega arith)) w
  by_turns (suc k) w = by_weight (suc k) (λ j q v s h kept e lt. by_turns k v s h kept (omega arith) lt) w

  -- from each sound state on the run ends, by its bound at the latest
  pub run_ends : (s : State K M) → Sound C N B W s → Kept s → EndsFrom C P s
  run_ends (running m st) h kept = let few = h.2 in by_turns (B - st.turns) (suc (left (running m st) h)) (running m st) h kept (omega arith) (omega arith)
  run_ends (failing m st) h kept = let few = h.2 in by_turns (B - st.turns) (suc (left (failing m st) h)) (failing m st) h kept (omega arith) (omega arith)
  run_ends (hopping m st) h kept = let few = h.1 in by_turns (B - st.turns) 1 (hopping m st) h kept (omega arith) (omega arith)
  run_ends (over ending outside) h kept = record { count = 0; is_end = tt }
  run_ends stuck h kept = record { count = 0; is_end = tt }

  -- the start is sound

  s_allowed : Allows (Sound C N B W)
  s_allowed = record { lacks = tt; ends = λ ending outside. tt }

  -- no stack runs yet
  abbrev Starts : Store K → Type 0
  Starts st = FitsStore C N B W st × (st.turns ≤ B)

  s_made : (o : Outcome) (m : M) (st : Store K) (next : Value → M → Store K → State K M) → IsMade o → KeepsIn (here C m st) o → Starts st
      → ((v : Value) (a : M) (st' : Store K) → Starts st' → Sound C N B W (next v a st')) → Sound C N B W (with_made C o m st next)
  s_made (Gives (Val v) seen) m st next i k h f = f v (C.set_locals seen.locals m) (with_at seen st) ((h.0.0, ap (λ b. b.turns) k.bounds ∙ h.0.1), h.1)
  s_made (Gives (Var v) seen) m st next i k h f = absurd i
  s_made (Error j v seen) m st next i k h f = at_end (Sound C N B W) j v (C.set_locals seen.locals m) (with_at seen st) i tt
  s_made (Fails seen) m st next i k h f = absurd i
  s_made (Suspends item r seen) m st next i k h f = absurd i
  s_made (Ended j seen) m st next i k h f = absurd i

  s_collected : (b : Bool) (k : ℕ) (vs : List Value) (m : M) (st : Store K) (next : List Value → M → Store K → State K M) → Starts st
      → ((ps : List Value) (a : M) (st' : Store K) → Starts st' → Sound C N B W (next ps a st')) → Sound C N B W (collect_rest C b k vs m st next)
  s_collected false k vs m st next h f = f (fill_nulls k vs) m st h
  s_collected true k vs m st next h f = s_made (list_row (drop (k - 1) vs) (here C m st)) m st (λ rest m st. next (fill_nulls (k - 1) vs ++ rest ∷ []) m st)
      (rows_keep.list_made (drop (k - 1) vs) (here C m st)) (rows_keep.listed (drop (k - 1) vs) (here C m st)) h
      (λ rest a st' h'. f (fill_nulls (k - 1) vs ++ rest ∷ []) a st' h')

  s_begun : (b : Bool) (main : ℕ) (entry : Procedure) (vs : List Value) (m : M) (st : Store K) → Starts st → Sound C N B W (begun_if C b main entry vs m st)
  s_begun false main entry vs m st h = at_end (Sound C N B W) 301 None m st (fatal_ends 301 st.world.error refl) tt
  s_begun true main entry vs m st h = s_collected entry.collects entry.parameters vs m st _ h (λ ps a st' h'. (W.begin main _ 0 a, h'.0, h'.1))

  pub start_sound : (words : List (List ℕ)) (m : M) (st : Store K) (o : Option ℕ) → Starts st → Sound C N B W (start_of C P words m st o)
  start_sound words m st None h = at_end (Sound C N B W) 117 None m st (fatal_ends 117 st.world.error refl) tt
  start_sound words m st (Some main) h = when_found (Sound C N B W) s_allowed (λ x. Unit {0}) (slice_get P.procs main) _ (there _) (λ entry _.
      s_made (words_row words (here C m st)) m st (λ list m st. begun_if C (nat_le 1 st.world.heap.bounds.levels) main entry (list ∷ []) m st)
      (rows_keep.words_made words (here C m st)) (rows_keep.worded words (here C m st)) h
      (λ v a st' h'. s_begun (nat_le 1 st'.world.heap.bounds.levels) main entry (v ∷ []) a st' h'))

  -- each run ends
  pub ends_by : (m : M) (hidden : List ℕ) (launch : Launch) → launch.bounds.turns ≡ B → Kept (start_hiding C m P hidden launch)
      → EndsFrom C P (start_hiding C m P hidden launch)
  ends_by m hidden launch e kept =
      run_ends (start_hiding C m P hidden launch)
      (start_sound launch.words m (first_store_hiding P hidden launch) (main_of P) (((tt, tt), e), omega arith)) kept

-- where all labels go forward, nothing needs to be kept
pub ends_by_bound : {K M : Type 0} (C : Calls K M) (N : ℕ) (W : Weighs C N) (P : Program) (B : ℕ) → Forward N P → (m : M) (hidden : List ℕ)
    (launch : Launch)
    → launch.bounds.turns ≡ B
    → EndsFrom C P (start_hiding C m P hidden launch)
ends_by_bound C N W P B code m hidden launch e = ends_by C N W P B (λ s. Unit {0}) (record {
  on = λ s kept. tt;
  within = λ m st kept i q. code.within (C.proc m) (C.address m) i q;
  forward = λ m st kept i q. code.forward (C.proc m) (C.address m) i q;
}) m hidden launch e tt
