-- What stands at each state that a run of verified code comes to.
use Rattle.std.proofs.Common.{◌≡◌, ◌≢◌, ◌⊎◌, inl, inr, ℕ, zero, suc, ◌<◌, ◌≤◌, Bool, true, false, List, [], ◌∷◌, length, Option, Some, None, refl, sym, ap, ◌∙◌, subst, arith}
use Rattle.std.specs.Prelude.{is_some, not, ◌&&◌}
use Rattle.std.specs.Option.{option_map}
use Rattle.icn_code.specs.declared.instr.Instr.{Instr}
use Rattle.icn_code.specs.Codes.{Tables}
use Rattle.icn_verify.specs.declared.shape.Level.{Level}
use Rattle.icn_verify.specs.declared.shape.LevelKind.{LevelKind}
use Rattle.icn_verify.specs.Shapes.{PlainShape}
use Rattle.icn_verify.specs.Given.{HaveShapes}
use Rattle.icn_run.specs.Stacks.{Frames, flat}
use Rattle.icn_run.specs.Rows.{Item}
use Rattle.icn_run.specs.Chains.{Chain, chain, Outer, base, call, mark, limit, WaitingChain, LinkedStack, linked_calls, outer_of, scans_of, take_top, take_from}
use Rattle.icn_run.specs.Step.{Launch, State, Store, running, stuck, instruction_at, instruction, with_found, is_main, step, steps}
use Rattle.icn_run.specs.FlatStep as Flat
use Rattle.icn_run.specs.LinkedStep as Marks
use Rattle.icn_run.specs.LinkedStep.{repeats_anywhere}
use Rattle.icn_run.specs.Calls.{Calls}
use Rattle.law_stacks.specs.AgreeingMachines.{Both}
use Rattle.law_stacks.specs.SameStates.{Opens, lift, same_running, same_failing, same_hopping, same_over, same_stuck, lost}
use Rattle.law_stacks.proofs.RowsKeep.{rows_keep}
use Rattle.law_stacks.proofs.LinkedAgrees.{linked_agrees}
use Rattle.law_stacks.proofs.RenderedMarks.{Lacks}
use Rattle.law_stacks.proofs.AgreeingSteps.{SameAs, IsAtMark, Reaches, made_turns, one_step}
use Rattle.law_stacks.proofs.SecondLaw.{starts_same}
use Rattle.law_safe.specs.Within.{RowsStayWithin}
use Rattle.law_safe.specs.Shaped.{Knowledge, local_count, ChainOk, OuterOk, Safe, KeepsShapes}
use Rattle.law_safe.specs.NoStuck.{TablesOk}
use Rattle.law_safe.specs.StateFacts.{operands_of, mark_count, marks, IsShapedAt, IsFlatShapedAt, IsMarkDue, IsNotStuck, IsSafe, AreShaped, shapes_of}
use Rattle.law_safe.proofs.FrameCalls.{here_proc, here_create, locals_ok, take_ok}
use Rattle.law_safe.proofs.MarkCalls.{false_is_not_true}
use Rattle.law_safe.proofs.NoStuck.{shaped, step_ok, start_safe, runs_ok, never_stuck}

-- a step more is one after those that were made
more_steps : {K M : Type 0} (C : Calls K M) (tables : Tables) (n : ℕ) (s : State K M) → steps C tables (suc n) s ≡ step C tables (steps C tables n s)
more_steps C tables zero s = refl
more_steps C tables (suc n) s = more_steps C tables n (step C tables s)

-- where there is nothing it would be stuck
goes_on : {K M : Type 0} (C : Calls K M) (tables : Tables) (m : M) (st : Store K) (o : Option Instr) → instruction_at C tables m ≡ o
    → with_found o (λ instr. instruction C tables instr (C.go (suc (C.address m)) m) st) ≢ stuck → IsNotStuck C tables m st
goes_on C tables m st None e d = absurd (d refl)
goes_on C tables m st (Some instr) e d = record { instr = instr; stands = e; lacks_nothing = d }

module _ (tables : Tables) (have : HaveShapes tables) (ok : TablesOk tables) (keep : RowsStayWithin) where
  abbrev pub sh : ℕ → ℕ → Option PlainShape
  sh = shapes_of tables have

  -- each step keeps the shapes of verified code
  pub shapes_are_kept : KeepsShapes tables (shapes_of tables have)
  shapes_are_kept = shaped tables have ok

  operand_count : (w : Knowledge) (s p : ℕ) (S : PlainShape) (c : Chain) → ChainOk tables sh w s p S c → length (operands_of c) ≡ S.inner.operands
  operand_count w s p S (chain items q scans o) h = h.0

  scan_count : (w : Knowledge) (s p : ℕ) (S : PlainShape) (c : Chain) → ChainOk tables sh w s p S c → S.inner.scans ≤ length (scans_of c)
  scan_count w s p S (chain items q scans o) h = h.2

  outer_count : (w : Knowledge) (s p : ℕ) (cr : Bool) (kind : LevelKind) (ls : List Level) (o : Outer) → OuterOk tables sh w s p cr kind ls o
      → mark_count o ≡ length ls
  outer_count w s p cr kind ls (base proc a) h = sym (ap length h.3)
  outer_count w s p cr kind ls (call proc a level place caller) h = sym (ap length h.3)
  outer_count w s p cr kind ls (mark label (chain items q scans o)) h = ap suc (outer_count w s p cr h.0.kind h.1 o h.5.4) ∙ sym (ap length h.2)
  outer_count w s p cr kind ls (limit n (chain items q scans o)) h = ap suc (outer_count w s p cr h.0.kind h.1 o h.4.4) ∙ sym (ap length h.2)

  all_marks : (w : Knowledge) (s p : ℕ) (S : PlainShape) (c : Chain) → ChainOk tables sh w s p S c → mark_count (outer_of c) ≡ length S.outer
  all_marks w s p S (chain items q scans o) h = outer_count w s p S.in_create S.inner.kind S.outer o h.4

  abbrev facts_at : (m : LinkedStack) (st : Store WaitingChain) → Safe tables sh (running m st) → IsShapedAt tables sh m st
  facts_at m st h =
      let same = here_proc tables sh h.0 st.active h.1 h.2 m h.3 in
      let there : sh (marks.proc m) m.address ≡ Some h.2 = ap (λ p. sh p m.address) same ∙ h.4 in
      record {
        shape = h.2;
        here = there;
        fine = shapes_are_kept.fine (marks.proc m) m.address h.2 there;
        operands = operand_count h.0 st.active h.1 h.2 m.chain h.3.has;
        open_marks = all_marks h.0 st.active h.1 h.2 m.chain h.3.has;
        scans = scan_count h.0 st.active h.1 h.2 m.chain h.3.has;
        in_create = here_create tables sh h.0 st.active h.1 h.2 m h.3;
        locals = (locals_ok tables sh h.0 st.active h.1 h.2 m h.3).count ∙ ap (local_count tables) (sym same);
      }

  -- Flat stacks follow linked ones

  abbrev pub SameAsFlat : State WaitingChain LinkedStack → State Frames Frames → Type 0
  SameAsFlat l f =
      SameAs (linked_calls repeats_anywhere) flat tables (Lacks repeats_anywhere (Opens tables)) (Unit {0})
      (linked_agrees repeats_anywhere (Opens tables)) rows_keep l f

  pub record Near (f : State Frames Frames) : Type 0 where
    pub state : State WaitingChain LinkedStack
    pub safe : Safe tables sh state
    pub same : SameAsFlat state f

  abbrev pub IsDue : State Frames Frames → Type 0
  IsDue f = IsAtMark (linked_calls repeats_anywhere) flat tables (Lacks repeats_anywhere (Opens tables)) (Unit {0})
      (linked_agrees repeats_anywhere (Opens tables)) rows_keep f

  -- it follows one, or its next step, which opens a mark, leads to one that does
  abbrev pub Follows : State Frames Frames → Type 0
  Follows f = Near f ⊎ (IsDue f × Near (step flat tables f))

  pub follows_next : (f : State Frames Frames) → Follows f → Follows (step flat tables f)
  follows_next f (inr x) = inl x.1
  follows_next f (inl x) = by (one_step (linked_calls repeats_anywhere) flat tables (Lacks repeats_anywhere (Opens tables)) (Unit {0})
      (linked_agrees repeats_anywhere (Opens tables)) rows_keep (λ lacks. tt) x.same)
    where
      next : State WaitingChain LinkedStack
      next = step marks tables x.state

      safe : Safe tables sh next
      safe = step_ok tables sh shapes_are_kept keep ok x.state x.safe

      by : Reaches (linked_calls repeats_anywhere) flat tables (Lacks repeats_anywhere (Opens tables)) (Unit {0})
          (linked_agrees repeats_anywhere (Opens tables)) rows_keep (made_turns f) next (step flat tables f) → Follows (step flat tables f)
      by (inl y) = inl (record { state = next; safe = safe; same = y })
      by (inr y) = inr (y.0, record { state = next; safe = safe; same = y.1.0 })

  follows_all : (n : ℕ) (f : State Frames Frames) → Follows f → Follows (steps flat tables n f)
  follows_all zero f h = h
  follows_all (suc n) f h = follows_all n (step flat tables f) (follows_next f h)

  both_there : {A B : Type 0} (R : A → B → Type 0) (o' : Option A) (o : Option B) → Both ⊥ R o' o → is_some o' ≡ true → is_some o ≡ true
  both_there R None o h e = false_is_not_true e
  both_there R (Some x) None h e = absurd h
  both_there R (Some x) (Some y) h e = refl

  none_there : {A B : Type 0} (R : A → B → Type 0) (o' : Option A) (o : Option B) → Both ⊥ R o' o → is_some o' ≡ false → is_some o ≡ false
  none_there R None None h e = refl
  none_there R None (Some x) h e = absurd h
  none_there R (Some x) o h e = let b : true ≡ false = e in cc

  none_left : (n : ℕ) (items found : List Item) → length items < n → is_some (take_top n items found) ≡ false
  none_left zero items found less = absurd (omega (arith, less))
  none_left (suc n) [] found less = refl
  none_left (suc n) (item ∷ items) found less = none_left n items (item ∷ found) (omega (arith, less))

  map_none : {A B : Type 0} (f : A → B) (o : Option A) → is_some o ≡ false → is_some (option_map f o) ≡ false
  map_none f None e = refl
  map_none f (Some x) e = e

  -- more operands than there are can't be taken
  none_taken : (m : LinkedStack) (c : Chain) → m.chain ≡ c → (n : ℕ) → length (operands_of m.chain) < n → is_some (marks.take n m) ≡ false
  none_taken m (chain items suspensions scans outer) e n less =
      let few : length items < n = subst (λ c. length (operands_of c) < n) e less in
      subst (λ c. is_some (take_from n m c) ≡ false) (sym e) (map_none _ (take_top n items []) (none_left n items [] few))

  abbrev pub ShapedIn : State Frames Frames → Type 0
  ShapedIn (running m st) = IsFlatShapedAt tables sh m st
  ShapedIn state = Unit {0}

  pub shaped_in : (l : State WaitingChain LinkedStack) (f : State Frames Frames) → SameAsFlat l f → Safe tables sh l → ShapedIn f
  shaped_in l f (same_running {m'} {m} st ks' h) safe =
      let G = linked_agrees repeats_anywhere (Opens tables) in
      let facts = facts_at m' (lift st ks') safe in
      let proc = G.proc h.world st.active m' m h.here in
      let place = G.address h.world st.active m' m h.here in
      let there : sh (flat.proc m) m.address ≡ Some facts.shape = ap (λ p. sh p m.address) (sym proc) ∙ ap (sh (marks.proc m')) (sym place) ∙ facts.here in
      record {
        shape = facts.shape;
        here = there;
        fine = shapes_are_kept.fine (flat.proc m) m.address facts.shape there;
        operands = λ n l. both_there _ (marks.take n m') (flat.take n m) (G.take n h.world st.active m' m h.here) (some_taken m' (lift st ks') safe n l);
        no_more = none_there _ (marks.take (suc facts.shape.inner.operands) m') (flat.take (suc facts.shape.inner.operands) m)
            (G.take (suc facts.shape.inner.operands) h.world st.active m' m h.here)
            (none_taken m' m'.chain refl (suc facts.shape.inner.operands) (omega (arith, facts.operands)));
        in_create = ap (λ b. b && not (is_main st.active)) (sym (G.is_base h.world st.active m' m h.here)) ∙ facts.in_create;
        locals = ap length (sym (G.locals h.world st.active m' m h.here)) ∙ facts.locals ∙ ap (local_count tables) proc;
      }
    where
      some_taken : (m : LinkedStack) (st : Store WaitingChain) (h : Safe tables sh (running m st)) (n : ℕ) → n ≤ h.2.inner.operands
          → is_some (marks.take n m) ≡ true
      some_taken m st h n l = ap is_some (take_ok tables sh n h.0 st.active h.1 h.2 m h.3 l).2
  shaped_in l f (same_failing st ks' h) safe = tt
  shaped_in l f (same_hopping st ks' h) safe = tt
  shaped_in l f same_over safe = tt
  shaped_in l f same_stuck safe = tt
  shaped_in l f (lost x) safe = absurd safe

  stands_at : (launch : Launch) (n : ℕ) (m : Frames) (st : Store Frames) → Flat.steps tables n (Flat.start tables launch) ≡ running m st → IsSafe tables sh m st
  stands_at launch n m st e = record {
    goes_on = goes_on flat tables m st (instruction_at flat tables m) refl (λ z.
        (never_stuck tables have ok keep).flat [] launch
        (record { count = suc n; is = more_steps flat tables n (Flat.start tables launch) ∙ ap (step flat tables) e ∙ z }));
    shaped = by (running m st) (subst Follows e (follows_all n (Flat.start tables launch) (inl (record {
      state = Marks.start repeats_anywhere tables launch;
      safe = start_safe tables sh shapes_are_kept keep ok [] launch;
      same = starts_same rows_keep repeats_anywhere [] tables launch (Unit {0});
    })))) refl;
  }
    where
      by : (f : State Frames Frames) → Follows f → f ≡ running m st → IsFlatShapedAt tables sh m st ⊎ IsMarkDue tables m
      by f (inl x) q = inl (subst ShapedIn q (shaped_in x.state f x.same x.safe))
      by f (inr x) q = inr (subst IsDue q x.0)

  pub are_shaped : AreShaped tables sh
  are_shaped = record {
    on_marks = λ launch n m st e. facts_at m st (subst (λ s. Safe tables sh s) e (runs_ok tables sh shapes_are_kept keep ok [] launch n));
    on_stacks = stands_at;
  }
