-- Operations that were done in place, or not, on a machine.
use Rattle.std.proofs.Common.{◌≡◌, ℕ, ◌+◌, true, false, nat_lt, List, [], map, Option, Some, None, IsSome, Result, refl, sym, ap, ◌∙◌, subst, add-one}
use Rattle.icn_text.specs.declared.op.Op.{Op}
use Rattle.icn_value.specs.declared.item.Item.{Item}
use Rattle.icn_value.specs.Store.{Outside, bare_outside}
use Rattle.icn_defs.specs.Arities.{arity}
use Rattle.icn_heap.specs.Extents.{Extent}
use Rattle.icn_heap.specs.Heaps.{heap_of}
use Rattle.icn_vars.specs.declared.outcome.Halt.{Halt}
use Rattle.icn_vars.specs.Worlds.{item_in, reach_of}
use Rattle.icn_frames.specs.Stacks.{FlatStack}
use Rattle.icn_frames.specs.StackInvariant.{SeenStack}
use Rattle.icn_coexp.specs.Transfers.{CoexpTable, with_stack}
use Rattle.icn_code.specs.declared.instr.Instr.{Instr}
use Rattle.icn_code.specs.declared.instr.Instr.TheVariants as Instrs
use Rattle.icn_code.specs.Codes.{Tables}
use Rattle.icn_run.specs.Stacks.{Frames, flat}
use Rattle.icn_run.specs.Step.{Store, at_bound, operate, running, failing, turn}
use Rattle.icn_control.specs.LiveStacks.{IsLiveStack}
use Rattle.icn_control.specs.Machines.{HasStack, IsSoundMachine, StandsAt, does, extent, running_of, stack_of, store_seen}
use Rattle.icn_control.specs.Soundness.{StaysSound}
use Rattle.icn_control.specs.StackViews.{instruction_state, stack_in}
use Rattle.icn_control.specs.TakenOperands.{take_operands}
use Rattle.icn_control.specs.declared.machine.Machine.{Machine}
use Rattle.icn_control.specs.declared.machine.RunState.{RunState}
use Rattle.icn_control.specs.declared.machine.RunState.TheVariants as RunStates
use Rattle.icn_control.proofs.ListSteps.{on_running, turn_bound}
use Rattle.icn_control.proofs.MachineSteps.{stacks_on}
use Rattle.icn_control.proofs.TakenOperandSteps.{taken_runs}
use Rattle.icn_machine.specs.DoneInPlace.{StaysSame}
use Rattle.icn_machine.specs.PlainOperations.{OperatesOver}

-- at the bound of turns an operation ends the run, whatever its operands are
pub bound_is : (all : Extent) (tables : Tables) (op : Op) (m : FlatStack) (st : Store Frames) → IsSome (take_operands (arity op) m)
    → nat_lt st.turns st.world.heap.bounds.turns ≡ false → instruction_state all tables (Instrs.Op op) m st ≡ at_bound st
bound_is all tables op m st there none = by_taken (take_operands (arity op) m) refl there
  where
    by_taken : (o : Option (List Item × FlatStack)) → take_operands (arity op) m ≡ o → IsSome o
        → instruction_state all tables (Instrs.Op op) m st ≡ at_bound st
    by_taken (Some taken) e q =
        taken_runs all (arity op) m taken.1 taken.0 (λ xs a. turn tables st (operate flat op xs a)) e
        ∙ turn_bound tables st st (operate flat op (map (item_in all) taken.0) (stack_in all taken.1)) none refl
    by_taken None e q = cc

-- the machine with this stack, a turn later
abbrev pub a_turn_on : {K : Type 0} → Machine K → SeenStack → Machine K
a_turn_on m s = record {
  world = m.world;
  stacks = with_stack m.stacks s;
  turns = m.turns + 1;
  begun = m.begun;
  limits = m.limits;
}

-- the machine with this stack
abbrev pub on_stack : {K : Type 0} → Machine K → SeenStack → Machine K
on_stack m s = record {
  world = m.world;
  stacks = with_stack m.stacks s;
  turns = m.turns;
  begun = m.begun;
  limits = m.limits;
}

-- what an operation did on the stack alone, said of the machine
pub alone_stands : {K : Type 0} (m : Machine K) (s : SeenStack) (tables : Tables) (was : Outside) (op : Op) (f : FlatStack) (stage : RunState)
    → m.stacks.table.running ≡ Some f → nat_lt m.turns (heap_of m.world.heap).bounds.turns ≡ true → OperatesOver m.world op f s.flat stage
    → StandsAt tables was (does tables was (Instrs.Op op) m) (a_turn_on m s) stage
alone_stands m s tables was op f RunStates.Running e more done =
    let all : Extent = extent m in
    let st : Store Frames = store_seen tables was m in
    on_running m.stacks.table f (λ x. instruction_state all tables (Instrs.Op op) x st) e ∙ done tables st refl more
    ∙ ap (λ (t : ℕ). running (stack_in all s.flat) (record st { turns = t })) (sym (add-one m.turns))
alone_stands m s tables was op f RunStates.Failing e more done =
    let all : Extent = extent m in
    let st : Store Frames = store_seen tables was m in
    on_running m.stacks.table f (λ x. instruction_state all tables (Instrs.Op op) x st) e ∙ done tables st refl more
    ∙ ap (λ (t : ℕ). failing (stack_in all s.flat) (record st { turns = t })) (sym (add-one m.turns))
alone_stands m s tables was op f RunStates.Hopping e more done = absurd (done tables (store_seen tables was m) refl more)
alone_stands m s tables was op f RunStates.Over e more done = absurd (done tables (store_seen tables was m) refl more)
alone_stands m s tables was op f RunStates.AtBound e more done = absurd (done tables (store_seen tables was m) refl more)

-- a stack runs then
pub alone_runs : {K : Type 0} (m : Machine K) (s : SeenStack) (tables : Tables) (op : Op) (f : FlatStack) (stage : RunState)
    → nat_lt m.turns (heap_of m.world.heap).bounds.turns ≡ true → OperatesOver m.world op f s.flat stage → HasStack (a_turn_on m s) stage
alone_runs m s tables op f RunStates.Running more done = refl
alone_runs m s tables op f RunStates.Failing more done = refl
alone_runs m s tables op f RunStates.Hopping more done = absurd (done tables (store_seen tables bare_outside m) refl more)
alone_runs m s tables op f RunStates.Over more done = tt
alone_runs m s tables op f RunStates.AtBound more done = tt

-- A stack that is as it was

table_same : (table : CoexpTable) (f n : FlatStack) → table.running ≡ Some f → n ≡ f → record table { running = Some n } ≡ table
table_same table f n e same =
    ap (λ (o : Option FlatStack). let x : CoexpTable = record table { running = o } in x) (ap (λ (x : FlatStack). Some x) same ∙ sym e)

-- so of the machine
pub stays_on : {K : Type 0} (m : Machine K) (s : SeenStack) (f : FlatStack) → m.stacks.table.running ≡ Some f → s.flat ≡ f → StaysSame m (on_stack m s)
stays_on m s f e same = record { world = refl; table = table_same m.stacks.table f s.flat e same; turns = refl; begun = refl; limits = refl }

pub does_same : {K : Type 0} (m : Machine K) (s : SeenStack) (tables : Tables) (was : Outside) (instr : Instr) (f : FlatStack)
    → m.stacks.table.running ≡ Some f → s.flat ≡ f → does tables was instr m ≡ does tables was instr (on_stack m s)
does_same m s tables was instr f e same = on_running m.stacks.table f (λ x. instruction_state (extent m) tables instr x (store_seen tables was m)) e
    ∙ ap (λ (x : FlatStack). instruction_state (extent m) tables instr x (store_seen tables was m)) (sym same)

pub sound_same : {K : Type 0} (m : Machine K) (s : SeenStack) (t : Tables) (f : FlatStack) → m.stacks.table.running ≡ Some f → s.flat ≡ f
    → IsSoundMachine t m → IsSoundMachine t (on_stack m s)
sound_same m s t f e same k = record {
  stacks = stacks_on t (reach_of m.world []) m.stacks.table f s.flat e
      (λ l. subst (λ (x : FlatStack). IsLiveStack t (reach_of m.world []) x) (sym same) l) k.stacks;
  bounds = k.bounds;
  counts = k.counts;
  counted = record { results = k.counted.results; activators = k.counted.activators };
}

-- what is said of the stack of a machine, said of the same one
pub on_same : {K : Type 0} (m : Machine K) (s : SeenStack) (f : FlatStack) (P : FlatStack → Type 0) → m.stacks.table.running ≡ Some f → s.flat ≡ f
    → P (stack_of m) → P s.flat
on_same m s f P e same h = subst P (sym same) (subst (λ (o : Option FlatStack). P (running_of o)) e h)

pub stays_sound : {K : Type 0} (m after : Machine K) (s : SeenStack) (f : FlatStack) (result : Result RunState Halt) → m.stacks.table.running ≡ Some f
    → s.flat ≡ f → StaysSound (on_stack m s) after result → StaysSound m after result
stays_sound m after s f result e same k =
    record { sound = λ t h. k.sound t (sound_same m s t f e same h); halt = k.halt; limits = k.limits; stack = k.stack }
