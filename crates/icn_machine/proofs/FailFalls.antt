-- Where the code goes on failing, a step made a turn or fewer cells stand.
use Rattle.std.proofs.Common.{◌≡◌, ◌⊎◌, inl, inr, ◌<◌, ℕ, suc, ◌-◌, Bool, true, false, if◌then◌else◌, List, ◌∷◌, [], length, Option, Some, None, refl, sym, ap, ◌∙◌, arith}
use Rattle.std.specs.Prelude.{⊤, nat_lt, drop}
use Rattle.std.specs.Option.{option_and_then}
use Rattle.std.proofs.lemmas.Option.{same_Some}
use Rattle.std.proofs.lemmas.List.{length-set, length-drop}
use Rattle.std.proofs.lemmas.Bool.{ltb-true}
use Rattle.icn_code.specs.Codes.{Tables}
use Rattle.icn_run.specs.Rows.{Outcome, Fails, Gives, Suspends, Error, Ends, Done, again}
use Rattle.icn_run.specs.Calls.{Pair, Why, Alt, Op, Scan, Escan, Proc}
use Rattle.icn_run.specs.Stacks.{Cell, base, call, local, mark, limit, suspension, operand, Frames, cut, cell_at, drop_from, flat, leave_from, resume_from as resumed_from, swap_at, with_pair as with_pair_at}
use Rattle.icn_run.specs.Step.{State, Store, Status, Fresh, Active, Waiting, Exhausted as IsExhausted, running, failing, hopping, over, stuck, activator_of, all_left, with_exchange, exhaust_active, fail_by, fails, here, hop, is_create_body, is_main, mark_dropped, maybe_exchanged, outcome, over_with, pair_now, passed_failure, proc_fails, resume_by, resumed_or_dropped, return_to, status_of, swapped_back, turn, turn_if, with_at, with_status}
use Rattle.icn_run.proofs.Errors.{at_error}

-- a state after a turn more than so many
abbrev After : ℕ → State Frames Frames → Type 0
After t (running m st) = ⊤
After t (failing m st) = st.turns ≡ suc t
After t (hopping m st) = st.turns ≡ suc t
After t (over ending outside) = ⊤
After t stuck = ⊤

-- One turn more was made, of so many that may be; or none was, and fewer cells stand than so many.
abbrev pub Further : ℕ → ℕ → ℕ → State Frames Frames → Type 0
Further t b c (running m st) = ⊤
Further t b c (failing m st) = ((st.turns ≡ suc t) × (t < b)) ⊎ ((st.turns ≡ t) × (length m.cells < c))
Further t b c (hopping m st) = (st.turns ≡ suc t) × (t < b)
Further t b c (over ending outside) = ⊤
Further t b c stuck = ⊤

after_further : (t b c : ℕ) (s : State Frames Frames) → t < b → After t s → Further t b c s
after_further t b c (running m st) l h = tt
after_further t b c (failing m st) l h = inl (h, l)
after_further t b c (hopping m st) l h = (h, l)
after_further t b c (over ending outside) l h = tt
after_further t b c stuck l h = tt

-- what a turn leads to
abbrev TurnOf : Store Frames → Store Frames
TurnOf st = record st { turns = suc st.turns }

by_turn : (st : Store Frames) (event : Store Frames → State Frames Frames) (c : ℕ) (b : Bool) → nat_lt st.turns st.world.heap.bounds.turns ≡ b
    → After st.turns (event (TurnOf st))
    → Further st.turns st.world.heap.bounds.turns c (turn_if b st event)
by_turn st event c true e h = after_further st.turns st.world.heap.bounds.turns c (event (TurnOf st)) (ltb-true _ _ e) h
by_turn st event c false e h = tt

turned : (tables : Tables) (st : Store Frames) (event : Store Frames → State Frames Frames) (c : ℕ) → After st.turns (event (TurnOf st))
    → Further st.turns st.world.heap.bounds.turns c (turn tables st event)
turned tables st event c h = by_turn st event c (nat_lt st.turns st.world.heap.bounds.turns) refl h

-- the events

after_outcome : (t : ℕ) (o : Outcome) (m : Frames) (st : Store Frames) → st.turns ≡ suc t → After t (outcome flat o m st)
after_outcome t (Fails seen) m st e = e
after_outcome t (Gives item seen) m st e = tt
after_outcome t (Suspends item rest seen) m st e = tt
after_outcome t (Error n value seen) m st e =
    at_error (After t) n value (flat.set_locals seen.locals m) (with_at seen st) tt e
after_outcome t (Ends n seen) m st e = tt

after_maybe : (t : ℕ) (o : Option (Pair × Frames)) (m : Frames) (st : Store Frames) → After t (maybe_exchanged o m st running)
after_maybe t None m st = tt
after_maybe t (Some swap) m st = tt

after_fail_by : (t : ℕ) (status : Status Frames) (n : ℕ) (m : Frames) (st : Store Frames) → st.turns ≡ suc t → After t (fail_by flat status n m st)
after_fail_by t Fresh n m st e = tt
after_fail_by t Active n m st e = tt
after_fail_by t (Waiting k) n m st e = e
after_fail_by t IsExhausted n m st e = e

after_failure : (t n : ℕ) (m : Frames) (st : Store Frames) → st.turns ≡ suc t → After t (passed_failure flat n m st)
after_failure t n m st e = after_fail_by t (status_of n st) n m st e

-- Cells

cut_short : (h : ℕ) (cells : List Cell) (x : Cell) (below : List Cell) → cut h cells ≡ x ∷ below → length below < length cells
cut_short h cells x below e =
    let a : length (drop (length cells - h) cells) ≡ suc (length below) = ap length e in
    let b = length-drop (length cells - h) cells in
    omega (arith, a, b)

left_fewer : (h : ℕ) (cells : List Cell) (s : List Cell) → cut h cells ≡ s → (n : Frames) → leave_from s ≡ Some n → length n.cells < length cells
left_fewer h cells (call proc locals level r place ∷ below) c n e =
    let same : length below ≡ length n.cells = ap (λ (w : Frames). length w.cells) (same_Some _ _ e) in
    let short = cut_short h cells (call proc locals level r place) below c in omega (arith, same, short)
left_fewer h cells [] c n e = cc
left_fewer h cells (base proc locals ∷ below) c n e = cc
left_fewer h cells (local value ∷ below) c n e = cc
left_fewer h cells (mark label changed r ∷ below) c n e = cc
left_fewer h cells (limit count r ∷ below) c n e = cc
left_fewer h cells (suspension why r place ∷ below) c n e = cc
left_fewer h cells (operand item ∷ below) c n e = cc

resumed_fewer : (h : ℕ) (cells : List Cell) (s : List Cell) → cut h cells ≡ s → (why : Why) (n : Frames) → resumed_from s ≡ Some (why, n)
    → length n.cells < length cells
resumed_fewer h cells (suspension reason r place ∷ below) c why n e =
    let same : length below ≡ length n.cells = ap (λ (w : Why × Frames). length w.1.cells) (same_Some _ _ e) in
    let short = cut_short h cells (suspension reason r place) below c in omega (arith, same, short)
resumed_fewer h cells [] c why n e = cc
resumed_fewer h cells (base proc locals ∷ below) c why n e = cc
resumed_fewer h cells (call proc locals level r place ∷ below) c why n e = cc
resumed_fewer h cells (local value ∷ below) c why n e = cc
resumed_fewer h cells (mark label changed r ∷ below) c why n e = cc
resumed_fewer h cells (limit count r ∷ below) c why n e = cc
resumed_fewer h cells (operand item ∷ below) c why n e = cc

resume_fewer : (m : Frames) (newest : Option ℕ) (why : Why) (n : Frames)
    → option_and_then (λ height. resumed_from (cut height m.cells)) newest ≡ Some (why, n) → length n.cells < length m.cells
resume_fewer m (Some h) why n e = resumed_fewer h m.cells (cut h m.cells) refl why n e
resume_fewer m None why n e = cc

exchanged_cells : (pair : Pair) (m : Frames) (h : ℕ) (cell : Option Cell) (old : Pair) (n : Frames) → with_pair_at pair h m cell ≡ Some (old, n)
    → length n.cells ≡ length m.cells
exchanged_cells pair m h (Some (suspension (Scan was) r place)) old n e =
    sym (ap (λ (w : Pair × Frames). length w.1.cells) (same_Some _ _ e)) ∙ length-set m.cells (length m.cells - h) (suspension (Scan pair) r place)
exchanged_cells pair m h (Some (suspension Alt r place)) old n e = cc
exchanged_cells pair m h (Some (suspension (Op residual) r place)) old n e = cc
exchanged_cells pair m h (Some (suspension Escan r place)) old n e = cc
exchanged_cells pair m h (Some (suspension Proc r place)) old n e = cc
exchanged_cells pair m h (Some (base proc locals)) old n e = cc
exchanged_cells pair m h (Some (call proc locals level r place)) old n e = cc
exchanged_cells pair m h (Some (local value)) old n e = cc
exchanged_cells pair m h (Some (mark label changed r)) old n e = cc
exchanged_cells pair m h (Some (limit count r)) old n e = cc
exchanged_cells pair m h (Some (operand item)) old n e = cc
exchanged_cells pair m h None old n e = cc

swap_cells : (pair : Pair) (m : Frames) (scan : Option ℕ) (old : Pair) (n : Frames) → swap_at pair m scan ≡ Some (old, n) → length n.cells ≡ length m.cells
swap_cells pair m (Some h) old n e = exchanged_cells pair m h (cell_at h m.cells) old n e
swap_cells pair m None old n e = cc

-- Failing

module _ (tables : Tables) (m : Frames) (st : Store Frames) where
  abbrev Goal : State Frames Frames → Type 0
  Goal s = Further st.turns st.world.heap.bounds.turns (length m.cells) s

  back_turns : (o : Option (Pair × Frames)) → (swapped_back o st).turns ≡ st.turns
  back_turns None = refl
  back_turns (Some swap) = refl

  back_bounds : (o : Option (Pair × Frames)) → (swapped_back o st).world.heap.bounds.turns ≡ st.world.heap.bounds.turns
  back_bounds None = refl
  back_bounds (Some swap) = refl

  finishes : (b : Bool) (s : Store Frames) → Goal (if b then over_with Done s.world s.outside else stuck)
  finishes true s = tt
  finishes false s = tt

  returns : (o : Option Frames) → flat.leave m ≡ o → (s : Store Frames) → s.turns ≡ st.turns → Goal (return_to o failing s)
  returns None e s q = finishes (is_main s.active) s
  returns (Some caller) e s q = inr (q, left_fewer m.registers.base m.cells (cut m.registers.base m.cells) refl caller e)

  without : (b : Bool) → Goal (if b then exhaust_active flat tables m st else proc_fails flat m st)
  without true = turned tables st (λ st. passed_failure flat (activator_of st.active st) m (with_status st.active IsExhausted st)) (length m.cells)
      (after_failure st.turns (activator_of st.active (TurnOf st)) m (with_status st.active IsExhausted (TurnOf st)) refl)
  without false = returns (flat.leave m) refl (all_left flat m st) (back_turns (flat.swap_oldest (pair_now st) m))

  drops : (s : List Cell) → cut m.registers.mark m.cells ≡ s → Goal (mark_dropped flat tables m st (drop_from m s))
  drops (mark (Some label) false r ∷ below) c = tt
  drops (mark (Some label) true r ∷ below) c = turned tables st (running (record { cells = below; registers = r; address = label })) (length m.cells) tt
  drops (mark None changed r ∷ below) c = inr (refl, cut_short m.registers.mark m.cells (mark None changed r) below c)
  drops (limit count r ∷ below) c = inr (refl, cut_short m.registers.mark m.cells (limit count r) below c)
  drops [] c = without (is_create_body flat m st)
  drops (base proc locals ∷ below) c = without (is_create_body flat m st)
  drops (call proc locals level r place ∷ below) c = without (is_create_body flat m st)
  drops (local value ∷ below) c = without (is_create_body flat m st)
  drops (suspension why r place ∷ below) c = without (is_create_body flat m st)
  drops (operand item ∷ below) c = without (is_create_body flat m st)

  exchanges : (n : Frames) → length n.cells < length m.cells → (o : Option (Pair × Frames)) → flat.swap_newest (pair_now st) n ≡ o
      → Goal (with_exchange o failing st)
  exchanges n l None e = tt
  exchanges n l (Some swap) e =
      let same : length swap.1.cells ≡ length n.cells = swap_cells (pair_now st) n n.registers.scan swap.0 swap.1 e in
      inr (refl, omega (arith, l, same))

  resumes : (why : Why) (n : Frames) → length n.cells < length m.cells → Goal (resume_by flat tables why n st)
  resumes Alt n l = inr (refl, l)
  resumes (Op rest) n l =
      turned tables st (λ st. outcome flat (again rest (here flat n st)) n st) (length m.cells)
      (after_outcome st.turns (again rest (here flat n (TurnOf st))) n (TurnOf st) refl)
  resumes (Scan pair) n l = inr (refl, l)
  resumes Escan n l = exchanges n l (flat.swap_newest (pair_now st) n) refl
  resumes Proc n l =
      turned tables st (λ st. maybe_exchanged (flat.swap_oldest (pair_now st) n) n st running) (length m.cells)
      (after_maybe st.turns (flat.swap_oldest (pair_now (TurnOf st)) n) n (TurnOf st))

  resumes_or_drops : (o : Option (Why × Frames)) → flat.resume m ≡ o → Goal (resumed_or_dropped flat tables m st o)
  resumes_or_drops None e = drops (cut m.registers.mark m.cells) refl
  resumes_or_drops (Some back) e = resumes back.0 back.1 (resume_fewer m m.registers.newest back.0 back.1 e)

  pub fails_further : Further st.turns st.world.heap.bounds.turns (length m.cells) (fails flat tables m st)
  fails_further = resumes_or_drops (flat.resume m) refl

-- a hop is a turn
pub hops_further : (tables : Tables) (m : Frames) (st : Store Frames) (c : ℕ) → Further st.turns st.world.heap.bounds.turns c (hop flat tables m st)
hops_further tables m st c =
    turned tables st (λ st. passed_failure flat (activator_of st.active st) m st) c
    (after_failure st.turns (activator_of st.active (TurnOf st)) m (TurnOf st) refl)
