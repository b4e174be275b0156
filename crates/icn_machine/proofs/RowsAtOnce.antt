-- Rows that are performed at once on a stack in a world, as turns.
use Rattle.std.proofs.Common.{◌≡◌, ℕ, suc, true, nat_lt, Bool, List, [], ◌∷◌, map, Some, sym, ap, ◌∙◌, subst}
use Rattle.std.specs.List.{All}
use Rattle.icn_text.specs.declared.func.Func.{Func}
use Rattle.icn_text.specs.declared.op.Op.{Op}
use Rattle.icn_text.specs.declared.op.Op.TheVariants as Ops
use Rattle.icn_value.specs.declared.item.Item.{Item}
use Rattle.icn_value.specs.declared.val.Val.{Val}
use Rattle.icn_value.specs.Store.{Heap, Names, Outside, Setting, bare_outside}
use Rattle.icn_value.specs.Values.{Value}
use Rattle.icn_defs.specs.Applying.{function_of, operation_row}
use Rattle.icn_defs.specs.Arities.{arity}
use Rattle.icn_defs.specs.Rows.{Outcome}
use Rattle.icn_heap.specs.Extents.{Extent, IsLive, value_in}
use Rattle.icn_heap.specs.Heaps.{extent_of, heap_of}
use Rattle.law_names.specs.NamedSettings.{SettingNamed}
use Rattle.law_names.specs.RowsNamed.{OutcomeNamed}
use Rattle.law_names.specs.RowSizes.{KeepSizes, heap_after}
use Rattle.icn_apply.specs.SizesAfter.{WorldsKeepSizes}
use Rattle.icn_apply.proofs.NamesStay.{function_named}
use Rattle.icn_apply.proofs.SizesStay.{function_sized}
use Rattle.icn_vars.specs.declared.outcome.Outcome.{Outcome as HeldOutcome}
use Rattle.icn_vars.specs.declared.outcome.Outcome.TheVariants as HeldOutcomes
use Rattle.icn_vars.specs.declared.world.World.{World}
use Rattle.icn_vars.specs.Outcomes.{IsLiveOutcome, outcome_in}
use Rattle.icn_vars.specs.Worlds.{KeepsItems, item_in, reach_of, setting_of, world_of}
use Rattle.icn_frames.specs.CalledWith.{DropsWith}
use Rattle.icn_frames.specs.Stacks as held
use Rattle.icn_frames.specs.Stacks.{FlatStack}
use Rattle.icn_code.specs.Codes.{Tables}
use Rattle.icn_code.specs.declared.instr.Instr.{Instr}
use Rattle.icn_code.specs.declared.instr.Instr.TheVariants as Instrs
use Rattle.icn_run.specs.Rows as rows
use Rattle.icn_run.specs.Stacks.{Frames, flat}
use Rattle.icn_run.specs.Step.{State, Store, all_names, invoke_value, invoked_with, outcome, turn, turn_if}
use Rattle.law_steps.specs.StateNames.{StackNamed}
use Rattle.icn_control.specs.LiveStacks.{IsLiveStack, with_locals}
use Rattle.icn_control.specs.StackViews.{instruction_state, stack_in}
use Rattle.icn_control.specs.TakenOperands.{KeepsCounts, take_operands}
use Rattle.icn_control.specs.declared.machine.RunState.{RunState}
use Rattle.icn_control.specs.declared.machine.RunState.TheVariants as RunStates
use Rattle.icn_control.proofs.KeptItems.{stack_same, stack_stays}
use Rattle.icn_control.proofs.StackAndWorldSteps.{value_goes}
use Rattle.icn_control.proofs.TakenOperandSteps.{live_taken, taken_runs}
use Rattle.icn_machine.specs.AnsweredAtOnce.{done_at}
use Rattle.icn_machine.specs.declared.at_once.AtOnce.TheVariants as AtOnces
use Rattle.icn_machine.specs.Giving.{GivesOutcome}
use Rattle.icn_machine.specs.PlainFunctions.{CallsFunction}
use Rattle.icn_machine.specs.PlainScans.{GivesSo}
use Rattle.icn_machine.specs.TurnsAtOnce.{CallsAsTurn, DoesAsTurn, IfGoing, TurnsTo, a_turn_later}
use Rattle.icn_machine.proofs.OperandCalls.{taken_named}
use Rattle.icn_machine.proofs.PerformSteps.{here_is, locals_named, set_is}
use Rattle.icn_machine.proofs.PlainFunctionSteps.{called_dropped, dropped_live, dropped_named, drops_taken, found_there, given_dropped, values_are}
use Rattle.icn_machine.proofs.PlainOperationSteps.{row_performed}

-- The function that is called comes to its row on the values of its operands.
pub called_row : (tables : Tables) (w : World) (count : ℕ) (vs : List Val) (func : Func) (m k : FlatStack) (d : DropsWith count m k)
    → CallsFunction tables w.globals.items m count vs func → (st : Store Frames) → st.world ≡ world_of w
    → nat_lt st.turns st.world.heap.bounds.turns ≡ true
    → instruction_state (extent_of w.heap) tables (Instrs.Invoke count) m st
    ≡ outcome flat (function_of st.names func (map (value_in (extent_of w.heap)) vs) (setting_of st.outside w (held.locals k)))
    (stack_in (extent_of w.heap) k) (a_turn_later st)
called_row tables w count vs func m k d c st same more =
    let all = extent_of w.heap in
    let after : Store Frames = a_turn_later st in
    let on : Frames = stack_in all k in
    let items : List rows.Item = map (item_in all) d.items in
    taken_runs all (suc count) m k (d.callee ∷ d.items) (λ xs a. turn tables st (invoked_with flat tables xs a)) (drops_taken count m k d)
    ∙ ap (λ (b : Bool). turn_if b st (invoked_with flat tables (map (item_in all) (d.callee ∷ d.items)) on)) more
    ∙ value_goes all (item_in all d.callee) on after c.names.callee (λ value. invoke_value flat tables value items on after)
    (found_there w k after d.callee c.names.callee same (called_dropped tables w.globals.items count vs func m k d c))
    ∙ c.names.invoked all items on after
    ∙ ap (λ (o : Outcome). outcome flat o on after)
    (values_are w k after d.items vs (function_of after.names func) same (given_dropped tables w.globals.items count vs func m k d c))
    ∙ ap (λ (s : Setting). outcome flat (function_of after.names func (map (value_in all) vs) s) on after) (here_is w k after after.outside same)

-- so does an operation
pub operated_row : (tables : Tables) (w : World) (op : Op) (m k : FlatStack) (items : List Item) → (op ≡ Ops.Refresh → ⊥)
    → take_operands (arity op) m ≡ Some (items, k) → (st : Store Frames) → st.world ≡ world_of w
    → nat_lt st.turns st.world.heap.bounds.turns ≡ true
    → instruction_state (extent_of w.heap) tables (Instrs.Op op) m st
    ≡ outcome flat (operation_row op (map (item_in (extent_of w.heap)) items) (setting_of st.outside w (held.locals k))) (stack_in (extent_of w.heap) k)
    (a_turn_later st)
operated_row tables w op m k items row taken st same more =
    let all = extent_of w.heap in
    let after : Store Frames = a_turn_later st in
    row_performed all tables op m k items st row taken more
    ∙ ap (λ (s : Setting). outcome flat (operation_row op (map (item_in all) items) s) (stack_in all k) after) (here_is w k after after.outside same)

-- What is given

-- All of a world stays what it was.
pub record Continues (w v : World) : Type 0 where
  pub kept : KeepsItems (reach_of w []) (reach_of v [])
  pub counts : KeepsCounts w v

-- an outcome that is of a world, wherever its locals are
abbrev pub IsOf : World → HeldOutcome → Type 0
IsOf v oc = (n : ℕ) → IsLiveOutcome (with_locals n (reach_of v [])) oc

-- the setting after a row
after_named : (names : Names) (all : Extent) (oc : HeldOutcome) (s : Setting) → OutcomeNamed names (outcome_in all oc s) → SettingNamed names s
after_named names all HeldOutcomes.Fails s h = h
after_named names all (HeldOutcomes.Gives item) s h = h.1
after_named names all (HeldOutcomes.Suspends item rest) s h = h.1.1

-- and its heap
after_sized : (sizes : ℕ → ℕ) (all : Extent) (oc : HeldOutcome) (s : Setting) (heap : Heap) → KeepSizes sizes heap (heap_after (outcome_in all oc s))
    → KeepSizes sizes heap s.world.heap
after_sized sizes all HeldOutcomes.Fails s heap h = h
after_sized sizes all (HeldOutcomes.Gives item) s heap h = h
after_sized sizes all (HeldOutcomes.Suspends item rest) s heap h = h

pub if_going : (stage : RunState) (P : Type 0) → P → IfGoing (done_at stage) P
if_going RunStates.Running P p = p
if_going RunStates.Failing P p = p
if_going RunStates.Hopping P p = tt
if_going RunStates.Over P p = tt
if_going RunStates.AtBound P p = tt

was_at : {A : Type 0} (stage : RunState) → done_at stage ≡ AtOnces.Not → A
was_at RunStates.Running q = absurd (cc)
was_at RunStates.Failing q = absurd (cc)
was_at RunStates.Hopping q = absurd (cc)
was_at RunStates.Over q = absurd (cc)
was_at RunStates.AtBound q = absurd (cc)

module _ (w v : World) (k n : FlatStack) (oc : HeldOutcome) (stage : RunState) (t : Tables) (here_live : IsLiveStack t (reach_of w []) k)
    (back : held.set_locals (held.locals k) k ≡ k) (on : Continues w v) (plain : IsOf v oc) (given : GivesSo v oc k n stage) where
  turns_at : (s : RunState) (state : State Frames Frames) (st : Store Frames) → st.world ≡ world_of w
      → state ≡ outcome flat (outcome_in (extent_of v.heap) oc (setting_of st.outside v (held.locals k))) (stack_in (extent_of w.heap) k) (a_turn_later st)
      → GivesOutcome oc k n s → TurnsTo state (a_turn_later st) v n (done_at s)
  turns_at RunStates.Running state st same e g =
      e ∙ g (extent_of v.heap) (stack_in (extent_of w.heap) k) (setting_of st.outside v (held.locals k)) (a_turn_later st)
      (set_is t w v k k on.kept here_live back)
  turns_at RunStates.Failing state st same e g =
      e ∙ g (extent_of v.heap) (stack_in (extent_of w.heap) k) (setting_of st.outside v (held.locals k)) (a_turn_later st)
      (set_is t w v k k on.kept here_live back)
  turns_at RunStates.Hopping state st same e g =
      absurd (g (extent_of v.heap) (stack_in (extent_of w.heap) k) (setting_of st.outside v (held.locals k)) (a_turn_later st)
      (set_is t w v k k on.kept here_live back))
  turns_at RunStates.Over state st same e g =
      absurd (g (extent_of v.heap) (stack_in (extent_of w.heap) k) (setting_of st.outside v (held.locals k)) (a_turn_later st)
      (set_is t w v k k on.kept here_live back))
  turns_at RunStates.AtBound state st same e g =
      absurd (g (extent_of v.heap) (stack_in (extent_of w.heap) k) (setting_of st.outside v (held.locals k)) (a_turn_later st)
      (set_is t w v k k on.kept here_live back))

  pub does_row : (tables : Tables) (instr : Instr) (m : FlatStack) (row : Names → Setting → Outcome)
      → (IsLiveStack tables (reach_of w []) m → IsLiveStack tables (reach_of w []) k)
      → ((st : Store Frames) → st.world ≡ world_of w → nat_lt st.turns st.world.heap.bounds.turns ≡ true
      → instruction_state (extent_of w.heap) tables instr m st
      ≡ outcome flat (row st.names (setting_of st.outside w (held.locals k))) (stack_in (extent_of w.heap) k) (a_turn_later st))
      → ((names : Names) (outside : Outside) → row names (setting_of outside w (held.locals k))
      ≡ outcome_in (extent_of v.heap) oc (setting_of outside v (held.locals k)))
      → DoesAsTurn tables instr w m v n (done_at stage)
  does_row tables instr m row left performs comes = record {
    step = λ st same more.
        turns_at stage (instruction_state (extent_of w.heap) tables instr m st) st same
        (performs st same more ∙ ap (λ (o : Outcome). outcome flat o (stack_in (extent_of w.heap) k) (a_turn_later st)) (comes st.names st.outside))
        given.gives;
    live = if_going stage _ (λ l. given.live tables (reach_of v []) (stack_stays tables (reach_of w []) (reach_of v []) k on.kept (left l))
        (plain (held.local_count k)));
    kept = if_going stage _ on.kept;
    counts = if_going stage _ on.counts;
    not_done = λ q. was_at stage q;
  }

  -- Functions keep names and the sizes of records.
  pub calls_row : (tables : Tables) (count : ℕ) (vs : List Val) (func : Func) (m : FlatStack) (d : DropsWith count m k)
      → CallsFunction tables w.globals.items m count vs func → IsLiveStack t (reach_of w []) m
      → ((names : Names) (outside : Outside) → function_of names func (map (value_in (extent_of w.heap)) vs) (setting_of outside w (held.locals k))
      ≡ outcome_in (extent_of v.heap) oc (setting_of outside v (held.locals k)))
      → CallsAsTurn tables count w m v n (done_at stage)
  calls_row tables count vs func m d c l comes =
      let all = extent_of w.heap in
      let locals : List Val = held.locals k in
      let values : List Value = map (value_in all) vs in
      let after : Setting = setting_of bare_outside v locals in
      let values_live : All (IsLive all) vs = dropped_live t tables w count vs func m k d c w.sound.live_globals l in
      let sized : WorldsKeepSizes w v = λ sizes.
      after_sized sizes (extent_of v.heap) oc after (heap_of w.heap)
      (subst (λ (o : Outcome). KeepSizes sizes (heap_of w.heap) (heap_after o)) (comes (all_names tables) bare_outside)
      (function_sized (all_names tables) func w locals bare_outside vs values_live sizes)) in
      record {
        does = does_row tables (Instrs.Invoke count) m (λ names. function_of names func values)
            (λ other. (live_taken tables (reach_of w []) (suc count) m k (d.callee ∷ d.items) (drops_taken count m k d) other).rest)
            (called_row tables w count vs func m k d c) comes;
        named = λ names world h. if_going stage _ (
            let stays : StackNamed names (stack_in all k)
            = (taken_named names all (suc count) m k (d.callee ∷ d.items) (drops_taken count m k d) h).1 in
            let seen : SettingNamed names (setting_of bare_outside w locals)
            = record { world = world; locals = locals_named names all k stays } in
            let come : OutcomeNamed names (outcome_in (extent_of v.heap) oc after)
            = subst (OutcomeNamed names) (comes names bare_outside)
            (function_named names func w locals bare_outside vs seen (dropped_named names tables w count vs func m k d c world.globals h) values_live) in
            let now : StackNamed names (stack_in (extent_of v.heap) k)
            = subst (λ (x : Frames). StackNamed names x) (sym (stack_same t (reach_of w []) (reach_of v []) k on.kept here_live)) stays in
            let left : SettingNamed names after = after_named names (extent_of v.heap) oc after come in
            (given.named names after now come, left.world));
        sized = if_going stage _ sized;
      }

-- Nothing was done, or memory was wanting.
pub does_not : (tables : Tables) (instr : Instr) (w v : World) (m n : FlatStack) → n ≡ m → v ≡ w → DoesAsTurn tables instr w m v n AtOnces.Not
does_not tables instr w v m n e f = record { step = λ st same more. tt; live = tt; kept = tt; counts = tt; not_done = λ q. (e, f) }

pub does_lack : (tables : Tables) (instr : Instr) (w v : World) (m n : FlatStack) → DoesAsTurn tables instr w m v n AtOnces.NoMemory
does_lack tables instr w v m n = record { step = λ st same more. tt; live = tt; kept = tt; counts = tt; not_done = λ q. absurd (cc) }

pub calls_not : (tables : Tables) (count : ℕ) (w v : World) (m n : FlatStack) → n ≡ m → v ≡ w → CallsAsTurn tables count w m v n AtOnces.Not
calls_not tables count w v m n e f = record { does = does_not tables (Instrs.Invoke count) w v m n e f; named = λ names world h. tt; sized = tt }

pub calls_lack : (tables : Tables) (count : ℕ) (w v : World) (m n : FlatStack) → CallsAsTurn tables count w m v n AtOnces.NoMemory
calls_lack tables count w v m n = record { does = does_lack tables (Instrs.Invoke count) w v m n; named = λ names world h. tt; sized = tt }
