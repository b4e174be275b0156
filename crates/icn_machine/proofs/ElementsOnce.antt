-- Elements of a list that are given one after the other, as turns.
use Rattle.std.proofs.Common.{◌≡◌, ◌+◌, ◌<◌, ◌≤◌, ℕ, Bool, true, false, nat_lt, List, [], ◌∷◌, length, map, Some, refl, sym, ap, ◌∙◌, subst}
use Rattle.std.proofs.lemmas.Bool.{le-ltb, lt-ltb}
use Rattle.icn_text.specs.declared.op.Op.TheVariants as Ops
use Rattle.icn_value.specs.declared.item.Item.{Item}
use Rattle.icn_value.specs.declared.residual.Residual.{Residual}
use Rattle.icn_value.specs.declared.residual.Residual.TheVariants as Residuals
use Rattle.icn_value.specs.declared.val.Val.TheVariants as Vals
use Rattle.icn_value.specs.Sizes.{group_of}
use Rattle.icn_value.specs.Store.{Setting, World as StoreWorld, list_at}
use Rattle.icn_value.specs.Values.{Value}
use Rattle.icn_defs.specs.Applying.{again, operation_row}
use Rattle.icn_defs.specs.Elements.{element_item, elements_of, list_items_from}
use Rattle.icn_defs.specs.Rows.{ListItems, Outcome, Row, fails_unless, suspends}
use Rattle.icn_heap.specs.Extents.{Extent, IsLive}
use Rattle.icn_heap.specs.Heaps.{extent_of, heap_of}
use Rattle.icn_vars.specs.declared.outcome.Outcome.{Outcome as HeldOutcome}
use Rattle.icn_vars.specs.declared.outcome.Outcome.TheVariants as Outcomes
use Rattle.icn_vars.specs.declared.world.World.{World}
use Rattle.icn_vars.specs.Outcomes.{outcome_in, residual_in}
use Rattle.icn_vars.specs.Worlds.{item_in, reach_of, setting_of, world_of}
use Rattle.icn_frames.specs.CalledWith.{DropsWith, operands_above}
use Rattle.icn_frames.specs.declared.layout.Cell.TheVariants.{Operand}
use Rattle.icn_frames.specs.declared.layout.Why.TheVariants as Whys
use Rattle.icn_frames.specs.Newest.{IsHeldBy}
use Rattle.icn_frames.specs.Stacks as held
use Rattle.icn_frames.specs.Stacks.{FlatStack}
use Rattle.icn_code.specs.Codes.{Tables}
use Rattle.icn_code.specs.declared.instr.Instr.TheVariants as Instrs
use Rattle.icn_run.specs.Stacks.{Frames, flat, set_locals}
use Rattle.icn_run.specs.Step.{State, Store, fails, here, outcome}
use Rattle.icn_control.specs.LiveStacks.{IsLiveStack}
use Rattle.icn_control.specs.StackAndWorld.{StandsWith}
use Rattle.icn_control.specs.StackViews.{stack_in}
use Rattle.icn_control.specs.TakenOperands.{take_operands}
use Rattle.icn_control.specs.declared.machine.RunState.{RunState}
use Rattle.icn_control.specs.declared.machine.RunState.TheVariants as RunStates
use Rattle.icn_control.proofs.FailingStackSteps.{falls_by}
use Rattle.icn_control.proofs.LiveFrames.{live_resume}
use Rattle.icn_control.proofs.OperandValues.{here_is}
use Rattle.icn_control.proofs.TakenOperandSteps.{live_taken}
use Rattle.icn_machine.specs.AnsweredAtOnce.{done_at}
use Rattle.icn_machine.specs.ElementsInPlace.{element_variable, items_if, items_outcome}
use Rattle.icn_machine.specs.Giving.{GivesOutcome}
use Rattle.icn_machine.specs.HeldValues.{FindsBelow}
use Rattle.icn_machine.specs.PlainScans.{GivesSo}
use Rattle.icn_machine.specs.TurnsAtOnce.{DoesAsTurn, FailsInTurn, TurnsTo, a_turn_later}
use Rattle.icn_machine.specs.ValueOperations.{FindsOperand}
use Rattle.icn_machine.proofs.CountSteps.{stands_with}
use Rattle.icn_machine.proofs.HeldValueSteps.{moved}
use Rattle.icn_machine.proofs.OperateSteps.{in_turn}
use Rattle.icn_machine.proofs.PlainFunctionSteps.{drops_taken}
use Rattle.icn_machine.proofs.PlainOperationSteps.{locals_back, row_performed}
use Rattle.icn_machine.proofs.RowsAtOnce.{IsOf, does_row, if_going}
use Rattle.icn_machine.proofs.ScanCalls.{continues_refl}

-- The row

items_if_row : (w : World) (list place : ℕ) (b : Bool) (s : Setting)
    → fails_unless b (suspends (element_item list (list_at (heap_of w.heap) list) place) (ListItems list (place + 1))) s
    ≡ outcome_in (extent_of w.heap) (items_if b (element_variable w list place) list place) s
items_if_row w list place true s = refl
items_if_row w list place false s = refl

pub items_row : (w : World) (list place : ℕ) (s : Setting) → s.world ≡ world_of w
    → list_items_from list place s ≡ outcome_in (extent_of w.heap) (items_outcome w list place) s
items_row w list place s is =
    let F : StoreWorld → Outcome = λ seen. fails_unless (nat_lt place (length (list_at seen.heap list).items))
    (suspends (element_item list (list_at seen.heap list) place) (ListItems list (place + 1))) s in
    ap F is ∙ items_if_row w list place (nat_lt place (length (list_at (heap_of w.heap) list).items)) s

-- What is given

pub items_of : (w : World) (list place : ℕ) → IsLive (extent_of w.heap) (Vals.List list) → IsOf w (items_outcome w list place)
items_of w list place live = by (nat_lt place (length (list_at (heap_of w.heap) list).items))
  where
    by : (b : Bool) → IsOf w (items_if b (element_variable w list place) list place)
    by true = λ n. record { live = (record { live = record { live = record { live = live } } }, record { live = live }) }
    by false = λ n. record { live = tt }

-- nothing is given behind the last one
pub items_past : (w : World) (list place size : ℕ) → size ≡ length (list_at (heap_of w.heap) list).items → size ≤ place
    → items_outcome w list place ≡ Outcomes.Fails
items_past w list place size same past =
    ap (λ (b : Bool). items_if b (element_variable w list place) list place)
    (ap (nat_lt place) (sym same) ∙ le-ltb place size past)

-- an element is given
pub items_there : (w : World) (list place size : ℕ) → size ≡ length (list_at (heap_of w.heap) list).items → place < size
    → items_outcome w list place ≡ Outcomes.Suspends (element_variable w list place) (Residuals.ListItems list (place + 1))
items_there w list place size same there =
    ap (λ (b : Bool). items_if b (element_variable w list place) list place)
    (ap (nat_lt place) (sym same) ∙ lt-ltb place size there)

-- Beginning

length_none : (items : List Item) → length items ≡ 0 → items ≡ []
length_none [] e = refl
length_none (x ∷ items) e = cc

pub elements_once : (t tables : Tables) (w : World) (m k n : FlatStack) (x : Item) (list : ℕ) (stage : RunState) → take_operands 1 m ≡ Some (x ∷ [], k)
    → held.set_locals (held.locals k) k ≡ k → FindsOperand w k x (Vals.List list) → IsLiveStack t (reach_of w []) m
    → IsLive (extent_of w.heap) (Vals.List list) → GivesSo w (items_outcome w list 0) k n stage
    → DoesAsTurn tables (Instrs.Op Ops.Elements) w m w n (done_at stage)
elements_once t tables w m k n x list stage taken back found live list_live given =
    let all = extent_of w.heap in
    let X = item_in all x in
    let left : IsLiveStack t (reach_of w []) k = (live_taken t (reach_of w []) 1 m k (x ∷ []) taken live).rest in
    let next : Value → Row = λ v. elements_of X v (group_of v) in
    let seen : Store Frames → Setting = λ st. setting_of st.outside w (held.locals k) in
    let row : (st : Store Frames) → st.world ≡ world_of w
    → operation_row Ops.Elements (map (item_in all) (x ∷ [])) (here flat (stack_in all k) st) ≡ list_items_from list 0 (seen st)
    = λ st same. found st same next ∙ ap (list_items_from list 0) (here_is w k st same) in
    does_row w w k n (items_outcome w list 0) stage t left back (continues_refl w) (items_of w list 0 list_live) given tables (Instrs.Op Ops.Elements) m
    (λ names. list_items_from list 0) (λ other. (live_taken tables (reach_of w []) 1 m k (x ∷ []) taken other).rest)
    (λ st same more.
    row_performed all tables Ops.Elements m k (x ∷ []) st (λ q. cc) taken more
    ∙ ap (λ (o : Outcome). outcome flat o (stack_in all k) (a_turn_later st)) (row (a_turn_later st) same))
    (λ names outside. items_row w list 0 (setting_of outside w (held.locals k)) refl)

-- the same where the operand was dropped
pub elements_dropped : (t tables : Tables) (w : World) (m k n : FlatStack) (list : ℕ) (stage : RunState) (d : DropsWith 0 m k)
    → held.set_locals (held.locals k) k ≡ k → FindsBelow w m 0 (Vals.List list) → IsLiveStack t (reach_of w []) m
    → IsLive (extent_of w.heap) (Vals.List list) → GivesSo w (items_outcome w list 0) k n stage
    → DoesAsTurn tables (Instrs.Op Ops.Elements) w m w n (done_at stage)
elements_dropped t tables w m k n list stage d back found live list_live given =
    let cells : m.cells ≡ operands_above d.items (Operand d.callee ∷ k.cells) = ap (λ (x : FlatStack). x.cells) d.was in
    let none : d.items ≡ [] = length_none d.items d.many in
    let taken : take_operands 1 m ≡ Some (d.callee ∷ [], k)
    = subst (λ (xs : List Item). take_operands 1 m ≡ Some (d.callee ∷ xs, k)) none (drops_taken 0 m k d) in
    elements_once t tables w m k n d.callee list stage taken back
    (moved w m k d.callee (Vals.List list) d.locals_same (found d.callee d.items k.cells cells d.many)) live list_live given

-- Going on

turn_of : (w : World) (n : FlatStack) (state : State Frames Frames) (st : Store Frames) (stage : RunState) → StandsWith state st w n stage
    → (stage ≡ RunStates.Over → ⊥) → TurnsTo state st w n (done_at stage)
turn_of w n state st RunStates.Running h not = h
turn_of w n state st RunStates.Failing h not = h
turn_of w n state st RunStates.Hopping h not = absurd h
turn_of w n state st RunStates.Over h not = absurd (not refl)
turn_of w n state st RunStates.AtBound h not = absurd h

-- a row gives at no end of a run
never_over : (oc : HeldOutcome) (all : Extent) (m n : FlatStack) (old : Frames) (seen : Setting) (st : Store Frames) (stage : RunState)
    → GivesOutcome oc m n stage → set_locals seen.locals old ≡ stack_in all m → stage ≡ RunStates.Over → ⊥
never_over oc all m n old seen st RunStates.Running gives s q = cc
never_over oc all m n old seen st RunStates.Failing gives s q = cc
never_over oc all m n old seen st RunStates.Hopping gives s q = cc
never_over oc all m n old seen st RunStates.Over gives s q = gives all old seen st s
never_over oc all m n old seen st RunStates.AtBound gives s q = cc

pub items_go_on : (t : Tables) (w : World) (m k n : FlatStack) (rest : Residual) (list place : ℕ) (stage : RunState)
    → held.resume m ≡ Some (Whys.Op rest, k) → rest ≡ Residuals.ListItems list place → held.set_locals (held.locals k) k ≡ k
    → IsLiveStack t (reach_of w []) m → IsLive (extent_of w.heap) (Vals.List list) → GivesSo w (items_outcome w list place) k n stage
    → FailsInTurn w m w n (done_at stage)
items_go_on t w m k n rest list place stage e is back live list_live given =
    let all = extent_of w.heap in
    let on : Frames = stack_in all k in
    let oc : HeldOutcome = items_outcome w list place in
    record {
      step = λ tables st same more.
          let later : Store Frames = a_turn_later st in
          let seen : Setting = here flat on later in
          let event : Store Frames → State Frames Frames = λ s. outcome flat (again (residual_in all rest) (here flat on s)) on s in
          let leads : fails flat tables (stack_in all m) st ≡ outcome flat (outcome_in all oc seen) on later
          = falls_by all m k (Whys.Op rest) e tables st ∙ in_turn tables st event more
          ∙ ap (λ (r : Residual). outcome flat (again (residual_in all r) seen) on later) is
          ∙ ap (λ (o : Outcome). outcome flat o on later) (items_row w list place seen same) in
          subst (λ (x : State Frames Frames). TurnsTo x later w n (done_at stage)) (sym leads)
          (turn_of w n (outcome flat (outcome_in all oc seen) on later) later stage
          (stands_with (outcome flat (outcome_in all oc seen) on later) w n later stage same (given.gives all on seen later (locals_back all k back)))
          (never_over oc all k n on seen later stage given.gives (locals_back all k back)));
      live = if_going stage _ (λ tables l.
          given.live tables (reach_of w []) (live_resume tables (reach_of w []) m k (Whys.Op rest) e l).rest
          (items_of w list place list_live (held.local_count k)));
      kept = if_going stage _ (continues_refl w).kept;
      counts = if_going stage _ (continues_refl w).counts;
    }

-- the list is of the world
pub items_live : (t : Tables) (w : World) (m : FlatStack) (rest : Residual) (list place : ℕ) → IsHeldBy (Whys.Op rest) m
    → rest ≡ Residuals.ListItems list place → IsLiveStack t (reach_of w []) m → IsLive (extent_of w.heap) (Vals.List list)
items_live t w m rest list place held is live =
    let why : Residual = Residuals.ListItems list place in
    let by : IsHeldBy (Whys.Op why) m = subst (λ (r : Residual). IsHeldBy (Whys.Op r) m) is held in
    (live_resume t (reach_of w []) m by.0 (Whys.Op why) by.1 live).why_live.live
