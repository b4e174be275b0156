-- Calls of procedures on the stack alone, as steps.
use Rattle.std.proofs.Common.{◌≡◌, ℕ, zero, suc, ◌+◌, ◌<◌, ◌≤◌, Bool, true, false, nat_lt, nat_le, List, [], ◌∷◌, ◌++◌, length, map, replicate, slice_get, Option, Some, None, IsSome, Ok, refl, sym, ap, ◌∙◌, subst, arith, append-nil, add-one}
use Rattle.std.specs.List.{All}
use Rattle.std.specs.Option.{option_and_then, option_map, option_map_or}
use Rattle.std.specs.Prelude.{unwrap_or}
use Rattle.std.proofs.lemmas.List.{map-append}
use Rattle.std.proofs.lemmas.List.Elements.{All-cons, All-head, All-nil, All-tail}
use Rattle.std.proofs.lemmas.Option.{same_Some, slice_get-map}
use Rattle.icn_value.specs.declared.item.Item.{Item}
use Rattle.icn_value.specs.declared.item.Item.TheVariants as Items
use Rattle.icn_value.specs.declared.item.Root.TheVariants as Roots
use Rattle.icn_value.specs.declared.item.VarRef.TheVariants as VarRefs
use Rattle.icn_value.specs.declared.val.Val.{Val}
use Rattle.icn_value.specs.declared.val.Val.TheVariants as Vals
use Rattle.icn_value.specs.Store.{Names, Outside, World as StoreWorld, value_at}
use Rattle.icn_value.specs.Values as values
use Rattle.icn_value.specs.Values.{Value}
use Rattle.icn_defs.specs.Rows.{Gives}
use Rattle.law_rows.proofs.EachOfList.{Each, each_append}
use Rattle.icn_heap.specs.Extents.{Extent, IsLive, value_in}
use Rattle.icn_heap.specs.Heaps.{extent_of, heap_of}
use Rattle.law_names.specs.NamedSettings.{ItemNamed, ValueNamed}
use Rattle.icn_vars.specs.declared.world.World.{World}
use Rattle.icn_vars.specs.Worlds.{IsLiveItem, Reach, item_in, reach_of, world_of}
use Rattle.icn_frames.specs.CalledWith.{EntersWith, HasOperands, HoldValues, as_value, operands_above}
use Rattle.icn_frames.specs.StackInvariant.{SeenStack}
use Rattle.icn_frames.specs.Stacks as held
use Rattle.icn_frames.specs.Stacks.{FlatStack}
use Rattle.icn_frames.specs.declared.layout.Cell.{Cell}
use Rattle.icn_frames.specs.declared.layout.Cell.TheVariants.{Base, Call, Local, Mark, Limit, Suspension, Operand}
use Rattle.icn_frames.specs.Slots.{plain_operand}
use Rattle.icn_frames.specs.declared.slots.StackSlot.{StackSlot}
use Rattle.icn_frames.proofs.CalledWithFacts.{hold_length}
use Rattle.law_frames.proofs.ScansRead.{enter_read}
use Rattle.icn_code.specs.Codes.{Proc, Tables}
use Rattle.icn_code.specs.declared.instr.Instr.TheVariants as Instrs
use Rattle.icn_run.specs.Rows as rows
use Rattle.icn_run.specs.Rows.{value_row}
use Rattle.icn_run.specs.Stacks.{Frames, flat}
use Rattle.icn_run.specs.Step.{Callee, IsProc, State, Store, call_procedure, callee_called, callee_of, at_bound, here, invoke_value, invoked_with, running, turn, turn_if, with_values, with_world}
use Rattle.law_steps.specs.StateNames.{StackNamed}
use Rattle.law_steps.proofs.CallsNamed as named
use Rattle.icn_control.specs.LiveStacks.{IsLiveStack, variable_count, variables_of, with_locals}
use Rattle.icn_control.specs.Machines.{IsSoundMachine, StandsAt, does, extent, store_seen}
use Rattle.icn_control.specs.StackAndWorld.{FindsValue}
use Rattle.icn_control.specs.StackViews.{instruction_state, reading_of, stack_in}
use Rattle.icn_control.specs.TakenOperands.{take_operands, taken_onto}
use Rattle.icn_control.specs.declared.machine.Machine.{Machine}
use Rattle.icn_control.specs.declared.machine.RunState.TheVariants as RunStates
use Rattle.icn_control.proofs.CountedSteps.{turn_more}
use Rattle.icn_control.proofs.ListSteps.{on_running, turn_bound}
use Rattle.icn_control.proofs.LiveCalls.{own_locals}
use Rattle.icn_control.proofs.LiveFrames.{live_enter}
use Rattle.icn_control.proofs.MachineSteps.{stacks_on}
use Rattle.icn_control.proofs.PlainValueSteps.{value_found, value_live}
use Rattle.icn_control.proofs.StackAndWorldSteps.{same_world, value_goes}
use Rattle.icn_control.proofs.TakenOperandSteps.{live_taken, taken_runs}
use Rattle.icn_calls.specs.Calling.{with_parameters_in}
use Rattle.icn_calls.proofs.CallSteps.{at_proc, may_call, values_for_whole}
use Rattle.icn_calls.proofs.ParameterSteps.{called_runs, length_with_nulls, live_with_nulls, plain}
use Rattle.icn_machine.specs.PlainCalls.{CallsAlone, CallsInPlace, NamesProcedure, TakesAsMany, TellsProcedure}
use Rattle.icn_machine.specs.PlainCalls as calls
use Rattle.icn_machine.proofs.InPlaceSteps.{a_turn_on}
use Rattle.icn_machine.proofs.OperateSteps.{named_taken}
use Rattle.icn_machine.proofs.PlainOperands.{value_named}

-- Operands that are there

operands_on : (n : ℕ) (m : FlatStack) (cells : List Cell) (xs : List Item)
    → IsSome (option_and_then (λ (popped : Item × FlatStack). taken_onto n popped.1 (popped.0 ∷ xs)) (held.pop_from m cells))
    → ((k : FlatStack) (ys : List Item) → IsSome (taken_onto n k ys) → HasOperands n k.cells) → HasOperands (suc n) cells
operands_on n m (Operand item ∷ cells) xs there f = f (record m { cells = cells }) (item ∷ xs) there
operands_on n m [] xs there f = cc
operands_on n m (Base proc count ∷ cells) xs there f = cc
operands_on n m (Call proc count level r place ∷ cells) xs there f = cc
operands_on n m (Local v ∷ cells) xs there f = cc
operands_on n m (Mark label changed r ∷ cells) xs there f = cc
operands_on n m (Limit count r ∷ cells) xs there f = cc
operands_on n m (Suspension why r place ∷ cells) xs there f = cc

operands_onto : (n : ℕ) (m : FlatStack) (xs : List Item) → IsSome (taken_onto n m xs) → HasOperands n m.cells
operands_onto zero m xs there = tt
operands_onto (suc n) m xs there = operands_on n m m.cells xs there (operands_onto n)

pub operands_there : (n : ℕ) (m : FlatStack) → IsSome (take_operands (suc n) m) → HasOperands (n + 1) m.cells
operands_there n m there = subst (λ (k : ℕ). HasOperands k m.cells) (sym (add-one n)) (operands_onto (suc n) m [] there)

-- operands above a stack are taken
taken_above : (items : List Item) (n : ℕ) (m : FlatStack) (xs : List Item)
    → taken_onto (length items + n) (record m { cells = operands_above items m.cells }) xs ≡ taken_onto n m (items ++ xs)
taken_above [] n m xs =
    let none : zero + n ≡ n = omega arith in
    ap (λ (k : ℕ). taken_onto k m xs) none
taken_above (x ∷ items) n m xs =
    let more : suc (length items) + n ≡ length items + suc n = omega arith in
    ap (λ (k : ℕ). taken_onto k (record m { cells = operands_above items (Operand x ∷ m.cells) }) xs) more
    ∙ taken_above items (suc n) (held.push x m) xs

pub operands_taken : (count : ℕ) (m k : FlatStack) (callee : Item) (items : List Item)
    → m ≡ record k { cells = operands_above items (Operand callee ∷ k.cells) } → length items ≡ count
    → take_operands (suc count) m ≡ Some (callee ∷ items, k)
operands_taken count m k callee items was as_many =
    let all : List Item = callee ∷ items in
    let many : suc count ≡ length all + 0 = omega (arith, as_many) in
    let F : List Item → Option (List Item × FlatStack) = λ xs. Some (xs, k) in
    ap (λ (x : FlatStack). take_operands (suc count) x) was
    ∙ ap (λ (n : ℕ). taken_onto n (record k { cells = operands_above all k.cells }) []) many
    ∙ taken_above all 0 k [] ∙ ap F (append-nil all)

pub arguments_taken : (proc count nulls address : ℕ) (m n : FlatStack) (e : EntersWith proc count nulls address m n)
    → take_operands (suc count) m ≡ Some (e.callee ∷ e.items, e.rest)
arguments_taken proc count nulls address m n e = operands_taken count m e.rest e.callee e.items e.was e.many

-- Values of operands

values_found : (all : Extent) (k : FlatStack) (st : Store Frames) (items : List Item) (vs : List Val) (next : List Value → State Frames Frames)
    → HoldValues (held.locals k) items vs
    → with_values flat (map (item_in all) items) (stack_in all k) st next ≡ next (map (value_in all) vs)
values_found all k st [] [] next h = refl
values_found all k st [] (v ∷ vs) next h = absurd h
values_found all k st (item ∷ items) [] next h = absurd h
values_found all k st (item ∷ items) (v ∷ vs) next h =
    value_goes all (item_in all item) (stack_in all k) st v
    (λ value. with_values flat (map (item_in all) items) (stack_in all k) st (λ others. next (value ∷ others))) (value_found all k st item v h.0)
    ∙ values_found all k st items vs (λ others. next (value_in all v ∷ others)) h.1

-- the value of a global is found
pub global_found : (w : World) (k : FlatStack) (st : Store Frames) (item : Item) (index : ℕ) (v : Val) → st.world ≡ world_of w
    → item ≡ Items.Var (VarRefs.Whole (Roots.Global index)) → slice_get w.globals.items index ≡ Some v
    → FindsValue (extent_of w.heap) (item_in (extent_of w.heap) item) (here flat (stack_in (extent_of w.heap) k) st) (Ok v)
global_found w k st item index v same e there =
    let all : Extent = extent_of w.heap in
    ap (λ (x : Item). value_row (item_in all x) (here flat (stack_in all k) st)) e
    ∙ ap (λ (v : Value). Gives (rows.Val v) (here flat (stack_in all k) st))
    (ap (λ (x : StoreWorld). value_at x.globals index) same
    ∙ ap (λ (o : Option Value). unwrap_or o values.Null) (slice_get-map (value_in all) w.globals.items index ∙ ap (option_map (value_in all)) there))

-- the procedure that is called is found
callee_found : (w : World) (k : FlatStack) (st : Store Frames) (item : Item) (number : ℕ) → st.world ≡ world_of w
    → NamesProcedure w.globals.items item number
    → FindsValue (extent_of w.heap) (item_in (extent_of w.heap) item) (here flat (stack_in (extent_of w.heap) k) st) (Ok (Vals.Proc number))
callee_found w k st item number same (calls.as_value e) =
    ap (λ (x : Item). value_row (item_in (extent_of w.heap) x) (here flat (stack_in (extent_of w.heap) k) st)) e
callee_found w k st item number same (calls.as_global index e there) = global_found w k st item index (Vals.Proc number) same e there

-- Calls

-- the procedure of a number
is_procedure : (tables : Tables) (number : ℕ) (entry : Proc) → slice_get tables.procs number ≡ Some entry → number < length tables.procs
    → callee_of tables number ≡ IsProc entry
is_procedure tables number entry there within =
    let at = at_proc tables number within in
    let same : at.0 ≡ entry = same_Some _ _ (sym at.1.0 ∙ there) in
    at.1.1 ∙ ap (λ (x : Proc). IsProc x) same

called_alone : (tables : Tables) (w : World) (count number nulls : ℕ) (m n : FlatStack) (takes : TakesAsMany tables number count nulls)
    → number < length tables.procs → (e : EntersWith number count nulls 0 m n) → NamesProcedure w.globals.items e.callee number
    → nat_le (suc (held.level e.rest)) (heap_of w.heap).bounds.levels ≡ true → CallsAlone tables w count m n
called_alone tables w count number nulls m n takes within e names deep st same more =
    let all : Extent = extent_of w.heap in
    let k : FlatStack = e.rest in
    let entry : Proc = takes.entry in
    let after : Store Frames = record st { turns = suc st.turns } in
    let next : List rows.Item → Frames → State Frames Frames = λ items a. turn tables st (invoked_with flat tables items a) in
    let lengths : length e.values ≡ entry.parameters = sym (hold_length (held.locals k) e.items e.values e.hold) ∙ e.many ∙ sym takes.many in
    let entered : n ≡ held.enter number (e.values ++ replicate entry.locals Vals.Null) 0 k
    = e.is ∙ ap (λ (c : ℕ). held.enter number (e.values ++ replicate c Vals.Null) 0 k) (sym takes.locals) in
    taken_runs all (suc count) m k (e.callee ∷ e.items) next (arguments_taken number count nulls 0 m n e)
    ∙ ap (λ (b : Bool). turn_if b st (invoked_with flat tables (map (item_in all) (e.callee ∷ e.items)) (stack_in all k))) more
    ∙ value_goes all (item_in all e.callee) (stack_in all k) after (Vals.Proc number)
    (λ value. invoke_value flat tables value (map (item_in all) e.items) (stack_in all k) after) (callee_found w k after e.callee number same names)
    ∙ ap (λ (c : Callee). callee_called flat c number (map (item_in all) e.items) (stack_in all k) after)
    (is_procedure tables number entry takes.there within)
    ∙ values_found all k after e.items e.values (λ vs. call_procedure flat number entry vs (stack_in all k) after) e.hold
    ∙ called_runs w w k k n number entry e.values e.values deep
    (λ s f at. subst (λ (b : Bool). with_parameters_in b entry.parameters w k e.values s f
    ≡ f (map (value_in all) e.values) (stack_in all k) (with_world (world_of w) s))
    (sym takes.none_collects) (plain w k entry.parameters e.values e.values (sym (values_for_whole entry.parameters e.values lengths)) s f at))
    refl entered after same
    ∙ ap (λ (s : Store Frames). running (stack_in all n) s) (sym (same_world w after same))

-- What is left

values_live : (t : Tables) (reach : Reach) (k : FlatStack) (items : List Item) (vs : List Val) → IsLiveStack t reach k
    → All (IsLiveItem (with_locals (own_locals k) reach)) items → HoldValues (held.locals k) items vs → All (IsLive reach.extent) vs
values_live t reach k [] [] l a h = All-nil (IsLive reach.extent)
values_live t reach k [] (v ∷ vs) l a h = absurd h
values_live t reach k (item ∷ items) [] l a h = absurd h
values_live t reach k (item ∷ items) (v ∷ vs) l a h =
    let P : Item → Type 0 = IsLiveItem (with_locals (own_locals k) reach) in
    All-cons (IsLive reach.extent) v vs (value_live t reach k item v l (All-head P item items a) h.0)
    (values_live t reach k items vs l (All-tail P item items a) h.1)

called_live : (tables : Tables) (w : World) (count number nulls : ℕ) (m n : FlatStack) (takes : TakesAsMany tables number count nulls)
    → (e : EntersWith number count nulls 0 m n) → suc (held.level e.rest) ≤ 4294967295 → IsLiveStack tables (reach_of w []) m
    → IsLiveStack tables (reach_of w []) n
called_live tables w count number nulls m n takes e deep l =
    let reach : Reach = reach_of w [] in
    let k : FlatStack = e.rest in
    let vs : List Val = e.values ++ replicate nulls Vals.Null in
    let P : Item → Type 0 = IsLiveItem (with_locals (own_locals k) reach) in
    let back = live_taken tables reach (suc count) m k (e.callee ∷ e.items) (arguments_taken number count nulls 0 m n e) l in
    let live : All (IsLive reach.extent) e.values
    = values_live tables reach k e.items e.values back.rest (All-tail P e.callee e.items back.items_live) e.hold in
    let lengths : length e.values ≡ takes.entry.parameters = sym (hold_length (held.locals k) e.items e.values e.hold) ∙ e.many ∙ sym takes.many in
    let sum : length vs ≡ takes.entry.parameters + takes.entry.locals = omega (arith, length_with_nulls nulls e.values, lengths, takes.locals) in
    let as_many : length vs ≡ variable_count tables number = sum ∙ sym (ap (λ (o : Option Proc). option_map_or variables_of o 0) takes.there) in
    subst (λ (x : FlatStack). IsLiveStack tables reach x) (sym e.is)
    (live_enter tables reach k number vs 0 as_many deep (live_with_nulls reach.extent nulls e.values live) back.rest)

values_named : (names : Names) (all : Extent) (k : FlatStack) (items : List Item) (vs : List Val) → named.NamedStack names (stack_in all k)
    → Each (ItemNamed names) (map (item_in all) items) → HoldValues (held.locals k) items vs
    → Each (ValueNamed names) (map (value_in all) vs)
values_named names all k [] [] h a g = tt
values_named names all k [] (v ∷ vs) h a g = absurd g
values_named names all k (item ∷ items) [] h a g = absurd g
values_named names all k (item ∷ items) (v ∷ vs) h a g =
    (value_named names all k item v h a.0 g.0, values_named names all k items vs h a.1 g.1)

nulls_named : (names : Names) (all : Extent) (n : ℕ) → Each (ValueNamed names) (map (value_in all) (replicate n Vals.Null))
nulls_named names all zero = tt
nulls_named names all (suc n) = (tt, nulls_named names all n)

called_named : (names : Names) (w : World) (count number nulls : ℕ) (m n : FlatStack) → EntersWith number count nulls 0 m n
    → StackNamed names (stack_in (extent_of w.heap) m) → StackNamed names (stack_in (extent_of w.heap) n)
called_named names w count number nulls m n e h =
    let all : Extent = extent_of w.heap in
    let k : FlatStack = e.rest in
    let vs : List Val = e.values ++ replicate nulls Vals.Null in
    let back = named_taken names all (suc count) m k (e.callee ∷ e.items) (arguments_taken number count nulls 0 m n e) h in
    let given : Each (ValueNamed names) (map (value_in all) e.values) = values_named names all k e.items e.values back.rest back.items_named.1 e.hold in
    let each : Each (ValueNamed names) (map (value_in all) vs)
    = subst (λ (xs : List Value). Each (ValueNamed names) xs) (sym (map-append (value_in all) e.values (replicate nulls Vals.Null)))
    (each_append (ValueNamed names) (map (value_in all) e.values) (map (value_in all) (replicate nulls Vals.Null)) given (nulls_named names all nulls)) in
    let there : named.NamedStack names (flat.enter number (map (value_in all) vs) (stack_in all k))
    = named.enter names number (map (value_in all) vs) (stack_in all k) each back.rest in
    subst (λ (x : FlatStack). StackNamed names (stack_in all x)) (sym e.is)
    (named.stack_out names (stack_in all (held.enter number vs 0 k))
    (subst (λ (x : Frames). named.NamedStack names x) (enter_read (reading_of all) number vs k) there))

-- a procedure that slots tell was called in place
pub called_in_place : (tables : Tables) (w : World) (count number nulls limit : ℕ) (m n : FlatStack) (slot : StackSlot)
    → TellsProcedure w.globals.items slot number
    → ((x y : Item) (items : List Item) (rest : List Cell) → m.cells ≡ operands_above items (Operand x ∷ rest) → length items ≡ count
    → plain_operand slot ≡ Some y → x ≡ y)
    → TakesAsMany tables number count nulls → number < length tables.procs → held.level m < limit → limit ≤ 4294967295
    → (heap_of w.heap).bounds.levels ≡ limit → EntersWith number count nulls 0 m n → CallsInPlace tables w count m n
called_in_place tables w count number nulls limit m n slot tells told takes within low few bound e =
    let same : e.callee ≡ tells.item
    = told e.callee tells.item e.items e.rest.cells (ap (λ (x : FlatStack). x.cells) e.was) e.many tells.tells in
    let names : NamesProcedure w.globals.items e.callee number
    = subst (λ (x : Item). NamesProcedure w.globals.items x number) (sym same) tells.names in
    let lower : held.level e.rest < limit = subst (λ (d : ℕ). d < limit) e.depth low in
    let deep : nat_le (suc (held.level e.rest)) (heap_of w.heap).bounds.levels ≡ true
    = ap (λ (b : ℕ). nat_le (suc (held.level e.rest)) b) bound ∙ may_call (held.level e.rest) limit (held.level e.rest) refl lower in
    let high : suc (held.level e.rest) ≤ 4294967295 = omega arith in
    record {
      calls = called_alone tables w count number nulls m n takes within e names deep;
      live = λ l. called_live tables w count number nulls m n takes e high l;
      named = λ names h. called_named names w count number nulls m n e h;
    }

-- On a machine

-- at the bound of turns a call ends the run, whatever its operands are
pub invoke_bound : (all : Extent) (tables : Tables) (count : ℕ) (m : FlatStack) (st : Store Frames) → IsSome (take_operands (suc count) m)
    → nat_lt st.turns st.world.heap.bounds.turns ≡ false → instruction_state all tables (Instrs.Invoke count) m st ≡ at_bound st
invoke_bound all tables count m st there none = by_taken (take_operands (suc count) m) refl there
  where
    by_taken : (o : Option (List Item × FlatStack)) → take_operands (suc count) m ≡ o → IsSome o
        → instruction_state all tables (Instrs.Invoke count) m st ≡ at_bound st
    by_taken (Some taken) e q =
        taken_runs all (suc count) m taken.1 taken.0 (λ xs a. turn tables st (invoked_with flat tables xs a)) e
        ∙ turn_bound tables st st (invoked_with flat tables (map (item_in all) taken.0) (stack_in all taken.1)) none refl
    by_taken None e q = cc

-- what a call on the stack alone comes to, said of the machine
pub called_stands : {K : Type 0} (m : Machine K) (s : SeenStack) (tables : Tables) (was : Outside) (count : ℕ) (f : FlatStack)
    → m.stacks.table.running ≡ Some f → nat_lt m.turns (heap_of m.world.heap).bounds.turns ≡ true → CallsAlone tables m.world count f s.flat
    → StandsAt tables was (does tables was (Instrs.Invoke count) m) (a_turn_on m s) RunStates.Running
called_stands m s tables was count f e more called =
    let all : Extent = extent m in
    let st : Store Frames = store_seen tables was m in
    on_running m.stacks.table f (λ x. instruction_state all tables (Instrs.Invoke count) x st) e ∙ called st refl more
    ∙ ap (λ (t : ℕ). running (stack_in all s.flat) (record st { turns = t })) (sym (add-one m.turns))

-- the machine is as sound as it was, a turn later, where its stack is
pub sound_called : {K : Type 0} (m : Machine K) (s : SeenStack) (t : Tables) (f : FlatStack) → m.stacks.table.running ≡ Some f
    → (IsLiveStack t (reach_of m.world []) f → IsLiveStack t (reach_of m.world []) s.flat) → IsSoundMachine t m → IsSoundMachine t (a_turn_on m s)
sound_called m s t f e live k = record {
  stacks = stacks_on t (reach_of m.world []) m.stacks.table f s.flat e live k.stacks;
  bounds = k.bounds;
  counts = k.counts;
  counted = record {
    results = turn_more m.turns m.stacks.table.active (heap_of m.world.heap).coexps k.counted.results;
    activators = k.counted.activators;
  };
}
