-- Each run of verified code comes to an end of which something is observed.
use Rattle.std.proofs.Common.{◌≡◌, ℕ, zero, suc, ◌+◌, ◌<◌, ◌⊎◌, inl, inr, Bool, List, [], ◌∷◌, length, Option, Some, refl, sym, ap, ◌∙◌, subst, arith}
use Rattle.std.specs.Prelude.{slice_get, IfSome}
use Rattle.std.specs.Option.{option_map_or}
use Rattle.icn_code.specs.declared.instr.Instr.{Instr}
use Rattle.icn_code.specs.declared.instr.Instr.TheVariants as Instrs
use Rattle.icn_code.specs.Codes.{Tables, Proc as Procedure}
use Rattle.icn_verify.specs.Shapes.{PlainShape}
use Rattle.icn_verify.specs.Rows.{forward}
use Rattle.icn_verify.specs.Given.{HaveShapes, IsFine}
use Rattle.icn_run.specs.Chains.{WaitingChain, LinkedStack, linked_calls, empty}
use Rattle.icn_run.specs.Step.{Observation, Launch, Store, State, running, failing, hopping, over, stuck, instruction_at, instrs_of, observation}
use Rattle.icn_run.specs.FlatStep as Flat
use Rattle.icn_run.specs.LinkedStep as Marks
use Rattle.icn_run.specs.LinkedStep.{repeats_anywhere}
use Rattle.icn_run.proofs.OneObservation.{over_seen}
use Rattle.law_stacks.specs.Measure.{IsForward, IsEnd, EndsFrom}
use Rattle.law_stacks.specs.SecondLaw.{MissingCell, LinkedStuck}
use Rattle.law_stacks.proofs.CellLists.{some_injective, none_is_not_some}
use Rattle.law_stacks.proofs.LinkedWeights.{linked_weighs}
use Rattle.law_stacks.proofs.EndsByBound.{ends_by}
use Rattle.law_stacks.proofs.SecondLaw.{agrees_everywhere, agrees_where_covered, agrees_as_told}
use Rattle.law_safe.specs.Within.{RowsStayWithin}
use Rattle.law_safe.specs.Shaped.{Safe, KeepsShapes}
use Rattle.law_safe.specs.NoStuck.{TablesOk}
use Rattle.law_safe.specs.Ended.{AreOver}
use Rattle.law_safe.proofs.EachEntry.{index_within}
use Rattle.law_safe.proofs.FrameCalls.{here_proc}
use Rattle.law_safe.proofs.InstructionParts.{linked_machine}
use Rattle.law_safe.specs.StateFacts.{shapes_of}
use Rattle.law_safe.proofs.NoStuck.{shaped, step_ok, start_safe, runs_ok}

-- no procedure has more instructions
abbrev pub most : List Procedure → ℕ
most [] = 0
most (proc ∷ procs) = length proc.instrs + most procs

pub proc_within : (procs : List Procedure) (n : ℕ) (place : ℕ) (instr : Instr)
    → slice_get (option_map_or (λ (entry : Procedure). entry.instrs) (slice_get procs n) []) place ≡ Some instr → place < most procs
proc_within [] n place instr e = none_is_not_some instr e
proc_within (proc ∷ procs) zero place instr e = let l = index_within proc.instrs place instr e in omega (arith, l)
proc_within (proc ∷ procs) (suc n) place instr e = let l = proc_within procs n place instr e in omega (arith, l)

-- the labels that lead forward
pub goes_forward : (instr : Instr) (S : PlainShape) (place : ℕ) (Q : ℕ × PlainShape → Type 0) → IfSome (forward instr S) (λ to. (place < to.0) × Q to)
    → IsForward place instr
goes_forward (Instrs.Mark label) S place Q h = h.0
goes_forward (Instrs.Goto label) S place Q h = h.0
goes_forward (Instrs.Init label) S place Q h = h.0
goes_forward _ S place Q h = tt

-- a run that is over, and not stuck, was observed
seen_of : (s : State WaitingChain LinkedStack) → IsEnd s → (s ≡ stuck → ⊥) → (seen : Observation) × (observation s ≡ Some seen)
seen_of (over ending outside) h d = (record { ending = ending; outside = outside }, refl)
seen_of stuck h d = absurd (d refl)
seen_of (running m st) h d = absurd h
seen_of (failing m st) h d = absurd h
seen_of (hopping m st) h d = absurd h

module _ (tables : Tables) (have : HaveShapes tables) (ok : TablesOk tables) (keep : RowsStayWithin) where
  abbrev sh : ℕ → ℕ → Option PlainShape
  sh = shapes_of tables have

  given : KeepsShapes tables (shapes_of tables have)
  given = shaped tables have ok

  -- the instruction at a reached place is that whose labels were looked at
  forward_at : (m : LinkedStack) (st : Store WaitingChain) → Safe tables sh (running m st) → (instr : Instr)
      → instruction_at linked_machine tables m ≡ Some instr
      → IsForward m.address instr
  forward_at m st h instr e =
      let fine : IsFine (instrs_of tables h.1) (shapes_of tables have h.1) m.address h.2 = given.fine h.1 m.address h.2 h.4 in
      let same : instr
      ≡ fine.instr = some_injective (sym e ∙ ap (λ x. slice_get (instrs_of tables x) m.address) (here_proc tables sh h.0 st.active h.1 h.2 m h.3)
      ∙ fine.stands) in
      subst (IsForward m.address) (sym same) (goes_forward fine.instr h.2 m.address (λ to. shapes_of tables have h.1 to.0 ≡ Some to.1) fine.onward)

  marks_end : (hidden : List ℕ) (launch : Launch) → EndsFrom linked_machine tables (Marks.start_hiding repeats_anywhere tables hidden launch)
  marks_end hidden launch =
      ends_by linked_machine (most tables.procs) (linked_weighs repeats_anywhere (most tables.procs)) tables launch.bounds.turns (λ s. Safe tables sh s)
      (record {
        on = λ s kept. step_ok tables sh given keep ok s kept;
        within = λ m st kept instr e. proc_within tables.procs (linked_machine.proc m) m.address instr e;
        forward = forward_at;
      }) empty hidden launch refl (start_safe tables sh given keep ok hidden launch)

  never : (hidden : List ℕ) (launch : Launch) (n : ℕ)
      → Marks.steps repeats_anywhere tables n (Marks.start_hiding repeats_anywhere tables hidden launch) ≡ stuck → ⊥
  never hidden launch n e = subst (λ s. Safe tables sh s) e (runs_ok tables sh given keep ok hidden launch n)

  marks_seen : (hidden : List ℕ) (launch : Launch) → (seen : Observation) × Marks.RunsHiding repeats_anywhere hidden tables launch seen
  marks_seen hidden launch =
      let e = marks_end hidden launch in
      let o = seen_of (Marks.steps repeats_anywhere tables e.count (Marks.start_hiding repeats_anywhere tables hidden launch)) e.is_end
      (never hidden launch e.count) in
      (o.0, record { count = e.count; is = o.1 })

  stacks_seen : (hidden : List ℕ) (launch : Launch) → (seen : Observation) × Flat.RunsHiding hidden tables launch seen
  stacks_seen hidden launch = let o = marks_seen hidden launch in (o.0, (agrees_everywhere hidden tables launch).to_flat o.0 o.1)

  told_ends : (repeats : ℕ → ℕ → Bool) (hidden : List ℕ) (launch : Launch) (seen : Observation)
      → Marks.RunsHiding repeats hidden tables launch seen ⊎ (LinkedStuck repeats hidden tables launch × MissingCell repeats hidden tables launch)
      → EndsFrom (linked_calls repeats) tables (Marks.start_hiding repeats tables hidden launch)
  told_ends repeats hidden launch seen (inl run) = record { count = run.count; is_end = subst IsEnd (sym (over_seen _ seen run.is)) tt }
  told_ends repeats hidden launch seen (inr lost) = record { count = lost.0.count; is_end = subst IsEnd (sym lost.0.is) tt }

  pub are_over : AreOver tables
  are_over = record {
    flat = stacks_seen;
    linked = marks_seen;
    covered = λ repeats hidden launch none. let o = stacks_seen hidden launch in
        (o.0, (agrees_where_covered repeats hidden tables launch none).to_linked o.0 o.1);
    told = λ repeats hidden launch. let o = stacks_seen hidden launch in
        told_ends repeats hidden launch o.0 ((agrees_as_told repeats hidden tables launch).to_linked o.0 o.1);
  }
