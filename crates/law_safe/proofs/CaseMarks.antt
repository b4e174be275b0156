-- Where a case compares, a mark is open in the procedure that runs.
use Rattle.std.proofs.Common.{◌≡◌, inl, inr, ℕ, suc, Bool, true, false, ◌&&◌, not, List, [], ◌∷◌, slice_get, Option, Some, None, IsSome, refl, sym, ap, ◌∙◌, subst}
use Rattle.std.specs.Prelude.{is_some}
use Rattle.std.specs.Option.{option_map_or}
use Rattle.std.proofs.lemmas.Option.{same_Some}
use Rattle.icn_code.specs.declared.instr.Instr.{Instr}
use Rattle.icn_code.specs.declared.instr.Instr.TheVariants as Instrs
use Rattle.icn_code.specs.Codes.{Tables}
use Rattle.icn_verify.specs.declared.shape.Level.{Level}
use Rattle.icn_verify.specs.declared.shape.LevelKind.{LevelKind}
use Rattle.icn_verify.specs.Given.{HaveShapes, IsFine}
use Rattle.icn_verify.specs.Rows.{fits, has_operand, lacks}
use Rattle.icn_verify.specs.Shapes.{PlainShape, outside}
use Rattle.icn_run.specs.Chains.{Chain, chain, Outer, base, call, mark, limit, WaitingChain, LinkedStack, outer_of, unmark_from}
use Rattle.icn_run.specs.Stacks as flats
use Rattle.icn_run.specs.Stacks.{Frames, flat}
use Rattle.icn_run.specs.Step.{Launch, State, Store, running, failing, hopping, over, stuck, instruction_at, instrs_of}
use Rattle.icn_run.specs.FlatStep as Flat
use Rattle.icn_run.specs.LinkedStep as Marks
use Rattle.icn_run.specs.LinkedStep.{repeats_anywhere}
use Rattle.law_stacks.specs.AgreeingMachines.{Both}
use Rattle.law_stacks.specs.SameStates.{Opens, lift, mark_of, same_running, same_failing, same_hopping, same_over, same_stuck, lost}
use Rattle.law_stacks.proofs.RowsKeep.{rows_keep}
use Rattle.law_stacks.proofs.LinkedAgrees.{linked_agrees}
use Rattle.law_stacks.proofs.SecondLaw.{starts_same}
use Rattle.icn_run.specs.AnyOutside.{run_over}
use Rattle.law_safe.specs.StateFacts.{marks, shapes_of}
use Rattle.law_safe.specs.NoStuck.{TablesOk}
use Rattle.law_safe.specs.Shaped.{ChainOk, Knowledge, OuterOk, Safe}
use Rattle.law_safe.specs.Within.{RowsStayWithin}
use Rattle.law_safe.proofs.AnyOutside.{follows_run}
use Rattle.law_safe.proofs.StateFacts.{Follows, IsDue, SameAsFlat, shapes_are_kept}
use Rattle.law_safe.proofs.FrameCalls.{here_proc}
use Rattle.law_safe.proofs.NoStuck.{start_safe}
use Rattle.icn_run.specs.InstructionNeeds.{HasCaseMark}
use Rattle.law_safe.specs.CaseMarks.{CaseStands, CasesStandOver}

-- What the verifier asks for

right : (a b : Bool) → (a && b) ≡ true → b ≡ true
right true b e = e
right false b e = cc

no_outer : (S : PlainShape) → fits S Instrs.Ccase ≡ true → S.outer ≡ [] → ⊥
no_outer S e o =
    let asked : option_map_or has_operand (outside S) false ≡ true = right (not (lacks Instrs.Ccase S)) _ e in
    let none : outside S ≡ None = ap (λ (ls : List Level). slice_get ls 0) o in
    gone (sym (ap (λ (x : Option Level). option_map_or has_operand x false) none) ∙ asked)
  where
    gone : false ≡ true → ⊥
    gone q = cc

some_both : {A B : Type 0} (R : A → B → Type 0) (o' : Option A) (o : Option B) → Both ⊥ R o' o → is_some o' ≡ true → is_some o ≡ true
some_both R None o h e = cc
some_both R (Some x) None h e = absurd h
some_both R (Some x) (Some y) h e = refl

no_mark : (label : Option ℕ) → mark_of label ≡ Instrs.Ccase → ⊥
no_mark None e = cc
no_mark (Some label) e = cc

module _ (tables : Tables) (have : HaveShapes tables) (ok : TablesOk tables) (keep : RowsStayWithin) where
  abbrev sh : ℕ → ℕ → Option PlainShape
  sh = shapes_of tables have

  marked : (w : Knowledge) (s p : ℕ) (cr : Bool) (kind : LevelKind) (ls : List Level) (o : Outer) → OuterOk tables sh w s p cr kind ls o → (ls ≡ [] → ⊥)
      → (m : LinkedStack) → is_some (unmark_from m o) ≡ true
  marked w s p cr kind ls (base proc a) h d m = absurd (d h.3)
  marked w s p cr kind ls (call proc a level place caller) h d m = absurd (d h.3)
  marked w s p cr kind ls (mark label (chain items q scans o)) h d m = refl
  marked w s p cr kind ls (limit n (chain items q scans o)) h d m = refl

  chain_marked : (w : Knowledge) (s p : ℕ) (S : PlainShape) (c : Chain) → ChainOk tables sh w s p S c → (S.outer ≡ [] → ⊥) → (m : LinkedStack)
      → is_some (unmark_from m (outer_of c)) ≡ true
  chain_marked w s p S (chain items q scans o) h d m = marked w s p S.in_create S.inner.kind S.outer o h.4 d m

  linked_marked : (m : LinkedStack) (st : Store WaitingChain) (safe : Safe tables sh (running m st))
      → slice_get (instrs_of tables (marks.proc m)) m.address ≡ Some Instrs.Ccase → is_some (marks.unmark m) ≡ true
  linked_marked m st safe at =
      let same = here_proc tables sh safe.0 st.active safe.1 safe.2 m safe.3 in
      let there : sh (marks.proc m) m.address ≡ Some safe.2 = ap (λ p. sh p m.address) same ∙ safe.4 in
      let fine : IsFine (instrs_of tables (marks.proc m)) (sh (marks.proc m)) m.address safe.2 = (shapes_are_kept tables have ok keep).fine
      (marks.proc m) m.address safe.2 there in
      let is : fine.instr ≡ Instrs.Ccase = same_Some _ _ (sym fine.stands ∙ at) in
      let fit : fits safe.2 Instrs.Ccase ≡ true = subst (λ (i : Instr). fits safe.2 i ≡ true) is fine.fit in
      chain_marked safe.0 st.active safe.1 safe.2 m.chain safe.3.has (λ e. no_outer safe.2 fit e) m

  near_case : (l : State WaitingChain LinkedStack) (f : State Frames Frames) → SameAsFlat tables have ok keep l f → Safe tables sh l → CaseStands tables f
  near_case l f (same_running {m'} {m} st ks' h) safe =
      let G = linked_agrees repeats_anywhere (Opens tables) in
      let proc = G.proc h.world st.active m' m h.here in
      let place = G.address h.world st.active m' m h.here in
      λ at. some_both _ (marks.unmark m') (flat.unmark m) (G.unmark h.world st.active m' m h.here)
      (linked_marked m' (lift st ks') safe (ap (λ p. slice_get (instrs_of tables p) m'.address) proc ∙ ap (slice_get (instrs_of tables (flat.proc m))) place
      ∙ at))
  near_case l f (same_failing st ks' h) safe = tt
  near_case l f (same_hopping st ks' h) safe = tt
  near_case l f same_over safe = tt
  near_case l f same_stuck safe = tt
  near_case l f (lost x) safe = absurd safe

  due_case : (f : State Frames Frames) → IsDue tables have ok keep f → CaseStands tables f
  due_case (running m st) due = λ at. absurd (no_mark due.0 (same_Some _ _ (sym due.1 ∙ at)))
  due_case (failing m st) due = tt
  due_case (hopping m st) due = tt
  due_case (over ending left) due = tt
  due_case stuck due = tt

  case_of : (f : State Frames Frames) → Follows tables have ok keep f → CaseStands tables f
  case_of f (inl x) = near_case x.state f x.same x.safe
  case_of f (inr x) = due_case f x.0

  pub cases_stand : (launch : Launch) → CasesStandOver tables (Flat.start tables launch)
  cases_stand launch outsides =
      case_of (run_over tables outsides (Flat.start tables launch)) (follows_run tables have ok keep outsides (Flat.start tables launch)
      (inl (record {
        state = Marks.start repeats_anywhere tables launch;
        safe = start_safe tables (shapes_of tables have) (shapes_are_kept tables have ok keep) keep ok [] launch;
        same = starts_same rows_keep repeats_anywhere [] tables launch (Unit {0});
      })))

-- What follows from it

-- What the instruction asks for, at the place behind it

go_marked : (m : Frames) (place : ℕ) → IsSome (flats.unmark m) → IsSome (flats.unmark (flats.go place m))
go_marked m place h = by_cells (flats.cut m.registers.mark m.cells) h
  where
    by_cells : (s : List flats.Cell) → IsSome (flats.unmark_in m s) → IsSome (flats.unmark_in (flats.go place m) s)
    by_cells [] q = q
    by_cells (flats.mark label changed r ∷ s) q = refl
    by_cells (flats.limit count r ∷ s) q = refl
    by_cells (flats.base proc locals ∷ s) q = q
    by_cells (flats.call proc locals level r back ∷ s) q = q
    by_cells (flats.local value ∷ s) q = q
    by_cells (flats.suspension why r back ∷ s) q = q
    by_cells (flats.operand item ∷ s) q = q

has_mark : (instr : Instr) (m : Frames) → (instr ≡ Instrs.Ccase → IsSome (flats.unmark m)) → HasCaseMark instr m
has_mark Instrs.Ccase m h = h refl
has_mark instr m h = tt

pub case_mark : (tables : Tables) (m : Frames) (st : Store Frames) (instr : Instr) → CaseStands tables (running m st)
    → instruction_at flat tables m ≡ Some instr → HasCaseMark instr (flats.go (suc m.address) m)
case_mark tables m st instr h at = has_mark instr (flats.go (suc m.address) m) (λ e. go_marked m (suc m.address) (h (at ∙ ap Some e)))
