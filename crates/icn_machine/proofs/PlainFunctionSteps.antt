-- Calls of functions on the values of operands, where these are told as they stand, as steps.
use Rattle.std.proofs.Common.{◌≡◌, ℕ, zero, suc, ◌+◌, ◌-◌, ◌<◌, ◌≤◌, List, [], ◌∷◌, ◌++◌, length, map, slice_get, Option, Some, None, IfSome, IsSome, Result, Ok, refl, sym, ap, ◌∙◌, subst, arith, append-nil, append_assoc}
use Rattle.std.specs.List.{All}
use Rattle.std.specs.Option.{option_and_then, option_map}
use Rattle.std.specs.Prelude.{unwrap_or}
use Rattle.std.proofs.lemmas.List.{length-append}
use Rattle.std.proofs.lemmas.List.Elements.{All-cons, All-head, All-nil, All-tail}
use Rattle.std.proofs.lemmas.Option.{same_Some, slice_get-map}
use Rattle.icn_text.specs.declared.func.Func.{Func}
use Rattle.icn_value.specs.declared.item.Item.{Item}
use Rattle.icn_value.specs.declared.item.Item.TheVariants as Items
use Rattle.icn_value.specs.declared.val.Val.{Val}
use Rattle.icn_value.specs.declared.val.Val.TheVariants as Vals
use Rattle.icn_value.specs.Store.{Names, Outside, World as StoreWorld, value_at}
use Rattle.icn_value.specs.Values as values
use Rattle.icn_value.specs.Values.{Value}
use Rattle.icn_defs.specs.Applying.{function_of}
use Rattle.icn_defs.specs.ReadAndAssign.{the_value, the_values}
use Rattle.icn_defs.specs.Rows.{Outcome, Row}
use Rattle.icn_defs.specs.StepRows as step_rows
use Rattle.law_rows.proofs.EachOfList.{Each, each_get, each_of}
use Rattle.icn_heap.specs.Extents.{Extent, IsLive, value_in}
use Rattle.icn_heap.specs.Heaps.{extent_of}
use Rattle.icn_heap.proofs.ListChanges.{get_live}
use Rattle.law_names.specs.NamedSettings.{ItemNamed, ValueNamed}
use Rattle.icn_vars.specs.declared.outcome.Halt.{Halt}
use Rattle.icn_vars.specs.declared.world.World.{World}
use Rattle.icn_vars.specs.Worlds.{IsLiveItem, item_in, reach_of, world_of}
use Rattle.icn_frames.specs.CalledWith.{DropsWith, HasOperands, as_local, as_value, local_variable, operands_above}
use Rattle.icn_frames.specs.declared.layout.Cell.{Cell}
use Rattle.icn_frames.specs.declared.layout.Cell.TheVariants.{Operand}
use Rattle.icn_frames.specs.Slots.{plain_operand, value_only}
use Rattle.icn_frames.specs.Stacks as held
use Rattle.icn_frames.specs.Stacks.{FlatStack}
use Rattle.icn_frames.specs.declared.slots.StackSlot.{StackSlot}
use Rattle.icn_frames.specs.declared.slots.StackSlot.TheVariants.{VarGlobal, VarLocal}
use Rattle.icn_frames.proofs.CalledWithFacts.{on_top}
use Rattle.icn_streams.specs.Handed.{CallStreams}
use Rattle.icn_code.specs.Codes.{Tables}
use Rattle.icn_run.specs.Rows as rows
use Rattle.icn_run.specs.Stacks.{Frames, flat}
use Rattle.icn_run.specs.Step.{State, Store, all_names, here, invoked_with, outcome}
use Rattle.law_steps.specs.StateNames.{StackNamed}
use Rattle.law_steps.proofs.CallsNamed as named
use Rattle.icn_control.specs.LiveStacks.{IsLiveStack, with_locals}
use Rattle.icn_control.specs.StackAndWorld.{FindsValue}
use Rattle.icn_control.specs.StackViews.{stack_in}
use Rattle.icn_control.specs.TakenOperands.{take_operands, taken_onto}
use Rattle.icn_control.specs.declared.machine.RunState.{RunState}
use Rattle.icn_control.proofs.LiveCalls.{live_pop, own_locals}
use Rattle.icn_control.proofs.OperandValues.{live_locals}
use Rattle.icn_control.proofs.PlainValueSteps.{value_found}
use Rattle.icn_control.proofs.StackSteps.{pushed_back}
use Rattle.icn_control.proofs.TakenOperandSteps.{live_taken}
use Rattle.icn_machine.specs.Invoking.{PerformsEvent}
use Rattle.icn_machine.specs.Performing.{PerformsRow, StandsOver, over_outside, row_on}
use Rattle.icn_machine.specs.PlainFunctions.{CallsFunction, HasValue, HasValueBelow, HaveValues, HaveValuesAbove, as_global, as_held, global_item}
use Rattle.icn_machine.proofs.InvokeSteps.{first_event, function_event}
use Rattle.icn_machine.proofs.OperateSteps.{named_taken}
use Rattle.icn_machine.proofs.PerformEvents.{performs_as}
use Rattle.icn_machine.proofs.PlainCallSteps.{global_found, operands_taken}
use Rattle.icn_machine.proofs.PlainOperands.{value_named}
use Rattle.icn_machine.proofs.PlainOperationSteps.{held_found}

-- Values that are told

-- a slot tells the operand below so many others
abbrev pub TellsBelow : FlatStack → ℕ → StackSlot → Type 0
TellsBelow m count slot = (x y : Item) (items : List Item) (rest : List Cell) → m.cells ≡ operands_above items (Operand x ∷ rest) → length items ≡ count
    → plain_operand slot ≡ Some y → x ≡ y

pub local_below : (globals : List Val) (m : FlatStack) (count index : ℕ) (slot : StackSlot) (r : Option Val) → TellsBelow m count slot → slot ≡ VarLocal index
    → IfSome r (λ v. slice_get (held.locals m) index ≡ Some v) → IfSome r (HasValueBelow globals m count)
local_below globals m count index slot (Some v) told is there =
    λ x items rest cells many. as_held (as_local index (told x (local_variable index) items rest cells many (ap plain_operand is)) there)
local_below globals m count index slot None told is there = tt

pub global_below : (globals : List Val) (m : FlatStack) (count index : ℕ) (slot : StackSlot) (r : Option Val) → TellsBelow m count slot → slot ≡ VarGlobal index
    → r ≡ slice_get globals index → IfSome r (HasValueBelow globals m count)
global_below globals m count index slot (Some v) told is there =
    λ x items rest cells many. as_global index (told x (global_item index) items rest cells many (ap plain_operand is)) (sym there)
global_below globals m count index slot None told is there = tt

pub only_value : (x : Item) (v : Val) → Some v ≡ value_only x → x ≡ Items.Val v
only_value (Items.Val w) v e = ap (λ (u : Val). Items.Val u) (sym (same_Some v w e))
only_value (Items.Var variable) v e = cc

pub value_below : (globals : List Val) (m : FlatStack) (count : ℕ) (r : Option Val)
    → ((x : Item) (items : List Item) (rest : List Cell) → m.cells ≡ operands_above items (Operand x ∷ rest) → length items ≡ count → r ≡ value_only x)
    → IfSome r (HasValueBelow globals m count)
value_below globals m count (Some v) is = λ x items rest cells many. as_held (as_value (only_value x v (is x items rest cells many)))
value_below globals m count None is = tt

-- fewer operands are on top
pub fewer_operands : (k n : ℕ) (cells : List Cell) → k ≤ n → HasOperands n cells → HasOperands k cells
fewer_operands zero n cells p h = tt
fewer_operands (suc k) zero cells p h = absurd (omega arith)
fewer_operands (suc k) (suc n) cells p h =
    let top = on_top n cells h in
    let q : k ≤ n = omega arith in
    subst (λ (s : List Cell). HasOperands (suc k) s) (sym top.is) (fewer_operands k n top.below q top.others)

-- Values of operands, one after the other

-- the last one of some operands
record Last (items : List Item) : Type 0 where
  front : List Item
  last : Item
  is : items ≡ front ++ last ∷ []

last_of : (items : List Item) → 0 < length items → Last items
last_of [] p = absurd (omega arith)
last_of (x ∷ []) p = record { front = []; last = x; is = refl }
last_of (x ∷ y ∷ items) p =
    let q : 0 < length (y ∷ items) = omega arith in
    let more = last_of (y ∷ items) q in
    record { front = x ∷ more.front; last = more.last; is = ap (λ (xs : List Item). x ∷ xs) more.is }

pub operands_append : (a b : List Item) (cells : List Cell) → operands_above (a ++ b) cells ≡ operands_above b (operands_above a cells)
operands_append [] b cells = refl
operands_append (x ∷ a) b cells = operands_append a b (Operand x ∷ cells)

values_more : (globals held : List Val) (front : List Item) (vs : List Val) (x : Item) (v : Val) → HaveValues globals held front vs
    → HasValue globals held x v → HaveValues globals held (front ++ x ∷ []) (vs ++ v ∷ [])
values_more globals held [] [] x v h one = (one, tt)
values_more globals held [] (w ∷ vs) x v h one = absurd h
values_more globals held (y ∷ front) [] x v h one = absurd h
values_more globals held (y ∷ front) (w ∷ vs) x v h one = (h.0, values_more globals held front vs x v h.1 one)

-- the values of all operands but so many
abbrev pub HaveValuesBefore : List Val → FlatStack → ℕ → ℕ → List Val → Type 0
HaveValuesBefore globals m count left vs = (front back : List Item) (rest : List Cell) → m.cells ≡ operands_above (front ++ back) rest → length back ≡ left
    → length front + left ≡ count → HaveValues globals (held.locals m) front vs

pub none_before : (globals : List Val) (m : FlatStack) (count : ℕ) (vs : List Val) → vs ≡ [] → HaveValuesBefore globals m count count vs
none_before globals m count vs e [] back rest cells few all = subst (λ (xs : List Val). HaveValues globals (held.locals m) [] xs) (sym e) tt
none_before globals m count vs e (x ∷ front) back rest cells few all =
    let more : suc (length front) + count ≡ count = all in
    absurd (omega arith)

pub one_more : (globals : List Val) (m : FlatStack) (count left : ℕ) (vs more : List Val) (v : Val) → 0 < left → left ≤ count
    → HaveValuesBefore globals m count left vs → HasValueBelow globals m (left - 1) v → more ≡ vs ++ v ∷ [] → HaveValuesBefore globals m count (left - 1) more
one_more globals m count left vs more v some few before below e front back rest cells back_is all =
    let p : 0 < length front = omega arith in
    let l = last_of front p in
    let long : length front ≡ length l.front + 1 = ap length l.is ∙ length-append l.front (l.last ∷ []) in
    let split : front ++ back ≡ l.front ++ l.last ∷ back
    = ap (λ (xs : List Item). xs ++ back) l.is ∙ append_assoc l.front (l.last ∷ []) back in
    let at : m.cells ≡ operands_above (l.front ++ l.last ∷ back) rest = cells ∙ ap (λ (xs : List Item). operands_above xs rest) split in
    let here : m.cells ≡ operands_above back (Operand l.last ∷ operands_above l.front rest) = at ∙ operands_append l.front (l.last ∷ back) rest in
    let back_more : suc (length back) ≡ left = omega arith in
    let front_less : length l.front + left ≡ count = omega arith in
    let values = values_more globals (held.locals m) l.front vs l.last v (before l.front (l.last ∷ back) rest at back_more front_less)
    (below l.last back (operands_above l.front rest) here back_is) in
    subst (λ (xs : List Val). HaveValues globals (held.locals m) front xs) (sym e)
    (subst (λ (xs : List Item). HaveValues globals (held.locals m) xs (vs ++ v ∷ [])) (sym l.is) values)

pub all_before : (globals : List Val) (m : FlatStack) (count left : ℕ) (vs : List Val) → left ≡ 0 → HaveValuesBefore globals m count left vs
    → HaveValuesAbove globals m count vs
all_before globals m count left vs none before items rest cells many =
    let all : length items + left ≡ count = omega (arith, none, many) in
    before items [] rest (cells ∙ ap (λ (xs : List Item). operands_above xs rest) (sym (append-nil items))) (sym none) all

-- Values that rows find

-- the value of an operand is found
pub value_is : (w : World) (k : FlatStack) (st : Store Frames) (item : Item) (v : Val) (next : Value → Row) → st.world ≡ world_of w
    → HasValue w.globals.items (held.locals k) item v
    → the_value (item_in (extent_of w.heap) item) next (here flat (stack_in (extent_of w.heap) k) st)
    ≡ next (value_in (extent_of w.heap) v) (here flat (stack_in (extent_of w.heap) k) st)
value_is w k st item v next same (as_held h) = held_found (extent_of w.heap) k st item v next h
value_is w k st item v next same (as_global index e there) =
    let all : Extent = extent_of w.heap in
    ap (λ (x : Item). the_value (item_in all x) next (here flat (stack_in all k) st)) e
    ∙ ap (λ (x : Value). next x (here flat (stack_in all k) st))
    (ap (λ (x : StoreWorld). value_at x.globals index) same
    ∙ ap (λ (o : Option Value). unwrap_or o values.Null) (slice_get-map (value_in all) w.globals.items index ∙ ap (option_map (value_in all)) there))

pub values_are : (w : World) (k : FlatStack) (st : Store Frames) (items : List Item) (vs : List Val) (next : List Value → Row) → st.world ≡ world_of w
    → HaveValues w.globals.items (held.locals k) items vs
    → the_values (map (item_in (extent_of w.heap)) items) next (here flat (stack_in (extent_of w.heap) k) st)
    ≡ next (map (value_in (extent_of w.heap)) vs) (here flat (stack_in (extent_of w.heap) k) st)
values_are w k st [] [] next same h = refl
values_are w k st [] (v ∷ vs) next same h = absurd h
values_are w k st (item ∷ items) [] next same h = absurd h
values_are w k st (item ∷ items) (v ∷ vs) next same h =
    let all : Extent = extent_of w.heap in
    value_is w k st item v (λ value. the_values (map (item_in all) items) (λ others. next (value ∷ others))) same h.0
    ∙ values_are w k st items vs (λ others. next (value_in all v ∷ others)) same h.1

pub found_there : (w : World) (k : FlatStack) (st : Store Frames) (item : Item) (v : Val) → st.world ≡ world_of w
    → HasValue w.globals.items (held.locals k) item v
    → FindsValue (extent_of w.heap) (item_in (extent_of w.heap) item) (here flat (stack_in (extent_of w.heap) k) st) (Ok v)
found_there w k st item v same (as_held h) = value_found (extent_of w.heap) k st item v h
found_there w k st item v same (as_global index e there) = global_found w k st item index v same e there

-- What is of the world, and named

-- it is of the world
pub told_live : (t : Tables) (w : World) (k : FlatStack) (n : ℕ) (item : Item) (v : Val) → All (IsLive (extent_of w.heap)) w.globals.items
    → IsLiveStack t (reach_of w []) k → IsLiveItem (with_locals n (reach_of w [])) item → HasValue w.globals.items (held.locals k) item v
    → IsLive (extent_of w.heap) v
told_live t w k n item v globals l i (as_held (as_value e)) =
    let one : IsLiveItem (with_locals n (reach_of w [])) (Items.Val v) = subst (λ (x : Item). IsLiveItem (with_locals n (reach_of w [])) x) e i in
    one.live
told_live t w k n item v globals l i (as_held (as_local index e there)) =
    subst (λ (o : Option Val). IfSome o (IsLive (extent_of w.heap))) there
    (get_live (IsLive (extent_of w.heap)) (held.locals k) index (live_locals t (reach_of w []) k l))
told_live t w k n item v globals l i (as_global index e there) =
    subst (λ (o : Option Val). IfSome o (IsLive (extent_of w.heap))) there (get_live (IsLive (extent_of w.heap)) w.globals.items index globals)

-- the same of the top operand
pub top_live : (t : Tables) (w : World) (m : FlatStack) (v : Val) → All (IsLive (extent_of w.heap)) w.globals.items → IsSome (take_operands 1 m)
    → IsLiveStack t (reach_of w []) m → HasValueBelow w.globals.items m 0 v → IsLive (extent_of w.heap) v
top_live t w m v globals there l below = by_popped (held.pop m) refl there
  where
    by_popped : (o : Option (Item × FlatStack)) → held.pop m ≡ o
        → IsSome (option_and_then (λ (popped : Item × FlatStack). taken_onto 0 popped.1 (popped.0 ∷ [])) o) → IsLive (extent_of w.heap) v
    by_popped (Some top) e q =
        let back = live_pop t (reach_of w []) m top.1 top.0 e l in
        let cells : m.cells ≡ Operand top.0 ∷ top.1.cells = ap (λ (x : FlatStack). x.cells) (sym (pushed_back m top.1 top.0 e)) in
        told_live t w m (own_locals top.1) top.0 v globals l back.item_live (below top.0 [] top.1.cells cells refl)
    by_popped None e q = cc

values_live : (t : Tables) (w : World) (k : FlatStack) (items : List Item) (vs : List Val) → All (IsLive (extent_of w.heap)) w.globals.items
    → IsLiveStack t (reach_of w []) k → All (IsLiveItem (with_locals (own_locals k) (reach_of w []))) items → HaveValues w.globals.items (held.locals k) items vs
    → All (IsLive (extent_of w.heap)) vs
values_live t w k [] [] globals l a h = All-nil (IsLive (extent_of w.heap))
values_live t w k [] (v ∷ vs) globals l a h = absurd h
values_live t w k (item ∷ items) [] globals l a h = absurd h
values_live t w k (item ∷ items) (v ∷ vs) globals l a h =
    let P : Item → Type 0 = IsLiveItem (with_locals (own_locals k) (reach_of w [])) in
    All-cons (IsLive (extent_of w.heap)) v vs (told_live t w k (own_locals k) item v globals l (All-head P item items a) h.0)
    (values_live t w k items vs globals l (All-tail P item items a) h.1)

-- it names only what has a name
pub told_named : (names : Names) (w : World) (k : FlatStack) (item : Item) (v : Val) → All (ValueNamed names) (map (value_in (extent_of w.heap)) w.globals.items)
    → named.NamedStack names (stack_in (extent_of w.heap) k) → ItemNamed names (item_in (extent_of w.heap) item)
    → HasValue w.globals.items (held.locals k) item v → ValueNamed names (value_in (extent_of w.heap) v)
told_named names w k item v globals l i (as_held h) = value_named names (extent_of w.heap) k item v l i h
told_named names w k item v globals l i (as_global index e there) =
    let all : Extent = extent_of w.heap in
    each_get (ValueNamed names) (map (value_in all) w.globals.items) index (value_in all v)
    (each_of (ValueNamed names) (map (value_in all) w.globals.items) globals)
    (slice_get-map (value_in all) w.globals.items index ∙ ap (option_map (value_in all)) there)

values_named : (names : Names) (w : World) (k : FlatStack) (items : List Item) (vs : List Val)
    → All (ValueNamed names) (map (value_in (extent_of w.heap)) w.globals.items)
    → named.NamedStack names (stack_in (extent_of w.heap) k) → Each (ItemNamed names) (map (item_in (extent_of w.heap)) items)
    → HaveValues w.globals.items (held.locals k) items vs
    → All (ValueNamed names) (map (value_in (extent_of w.heap)) vs)
values_named names w k [] [] globals l a h = All-nil (ValueNamed names)
values_named names w k [] (v ∷ vs) globals l a h = absurd h
values_named names w k (item ∷ items) [] globals l a h = absurd h
values_named names w k (item ∷ items) (v ∷ vs) globals l a h =
    All-cons (ValueNamed names) (value_in (extent_of w.heap) v) (map (value_in (extent_of w.heap)) vs) (told_named names w k item v globals l a.0 h.0)
    (values_named names w k items vs globals l a.1 h.1)

-- A call

-- a row that is another one on this stack, in this world
row_as : (row other : Row) (w v : World) (m n : FlatStack) (before after : CallStreams) (result : Result RunState Halt)
    → ((st : Store Frames) → st.world ≡ world_of w
    → row (here flat (stack_in (extent_of w.heap) m) st) ≡ other (here flat (stack_in (extent_of w.heap) m) st))
    → PerformsRow other w m before v n after result → PerformsRow row w m before v n after result
row_as row other w v m n before after result e p st same =
    let M : Frames = stack_in (extent_of w.heap) m in
    let is : (was : Outside) → row_on row w m st was ≡ row_on other w m st was
    = λ was. ap (λ (o : Outcome). outcome flat o M (over_outside was st)) (e (over_outside was st) same) in
    performs_as (row_on row w m st) (row_on other w m st) (λ was now answer. StandsOver (row_on other w m st was) st v n now answer)
    (λ was now answer. StandsOver (row_on row w m st was) st v n now answer) before after result is
    (λ was now h. subst (λ (s : State Frames Frames). StandsOver s st v n now result) (sym (is was)) h) (p st same)

-- the same stack, by another name
pub calls_at : (tables : Tables) (globals : List Val) (count : ℕ) (vs : List Val) (func : Func) (m k : FlatStack) → m ≡ k
    → CallsFunction tables globals m count vs func → CallsFunction tables globals k count vs func
calls_at tables globals count vs func m k same c = subst (λ (x : FlatStack). CallsFunction tables globals x count vs func) same c

-- what is dropped, as operands that are taken
pub drops_taken : (count : ℕ) (m k : FlatStack) (d : DropsWith count m k) → take_operands (suc count) m ≡ Some (d.callee ∷ d.items, k)
drops_taken count m k d = operands_taken count m k d.callee d.items d.was d.many

-- the values of what is dropped, on the stack that is left
pub called_dropped : (tables : Tables) (globals : List Val) (count : ℕ) (vs : List Val) (func : Func) (m k : FlatStack) (d : DropsWith count m k)
    → (c : CallsFunction tables globals m count vs func) → HasValue globals (held.locals k) d.callee c.names.callee
called_dropped tables globals count vs func m k d c =
    let cells : m.cells ≡ operands_above d.items (Operand d.callee ∷ k.cells) = ap (λ (x : FlatStack). x.cells) d.was in
    subst (λ (locals : List Val). HasValue globals locals d.callee c.names.callee) d.locals_same
    (c.names.below d.callee d.items k.cells cells d.many)

pub given_dropped : (tables : Tables) (globals : List Val) (count : ℕ) (vs : List Val) (func : Func) (m k : FlatStack) (d : DropsWith count m k)
    → CallsFunction tables globals m count vs func → HaveValues globals (held.locals k) d.items vs
given_dropped tables globals count vs func m k d c =
    let cells : m.cells ≡ operands_above d.items (Operand d.callee ∷ k.cells) = ap (λ (x : FlatStack). x.cells) d.was in
    subst (λ (locals : List Val). HaveValues globals locals d.items vs) d.locals_same (c.given d.items (Operand d.callee ∷ k.cells) cells d.many)

pub dropped_live : (t tables : Tables) (w : World) (count : ℕ) (vs : List Val) (func : Func) (m k : FlatStack) (d : DropsWith count m k)
    → CallsFunction tables w.globals.items m count vs func → All (IsLive (extent_of w.heap)) w.globals.items → IsLiveStack t (reach_of w []) m
    → All (IsLive (extent_of w.heap)) vs
dropped_live t tables w count vs func m k d c globals l =
    let P : Item → Type 0 = IsLiveItem (with_locals (own_locals k) (reach_of w [])) in
    let back = live_taken t (reach_of w []) (suc count) m k (d.callee ∷ d.items) (drops_taken count m k d) l in
    values_live t w k d.items vs globals back.rest (All-tail P d.callee d.items back.items_live) (given_dropped tables w.globals.items count vs func m k d c)

pub dropped_named : (names : Names) (tables : Tables) (w : World) (count : ℕ) (vs : List Val) (func : Func) (m k : FlatStack) (d : DropsWith count m k)
    → CallsFunction tables w.globals.items m count vs func → All (ValueNamed names) (map (value_in (extent_of w.heap)) w.globals.items)
    → StackNamed names (stack_in (extent_of w.heap) m)
    → All (ValueNamed names) (map (value_in (extent_of w.heap)) vs)
dropped_named names tables w count vs func m k d c globals h =
    let back = named_taken names (extent_of w.heap) (suc count) m k (d.callee ∷ d.items) (drops_taken count m k d) h in
    values_named names w k d.items vs globals back.rest back.items_named.1 (given_dropped tables w.globals.items count vs func m k d c)

-- the function that is performed on the values is the call of the operand with the others
pub function_invoked : (tables : Tables) (names : Names) (w v : World) (count : ℕ) (vs : List Val) (func : Func) (m k n : FlatStack) (d : DropsWith count m k)
    (before after : CallStreams) (result : Result RunState Halt) → names ≡ all_names tables → CallsFunction tables w.globals.items m count vs func
    → PerformsRow (function_of names func (map (value_in (extent_of w.heap)) vs)) w k before v n after result
    → PerformsEvent (all_names tables) (λ st. invoked_with flat tables (map (item_in (extent_of w.heap)) (d.callee ∷ d.items)) (stack_in (extent_of w.heap) k)
    st) w before v n after result
function_invoked tables names w v count vs func m k n d before after result known c p =
    let all : Extent = extent_of w.heap in
    let given = given_dropped tables w.globals.items count vs func m k d c in
    let row : Row = step_rows.apply names (step_rows.Function func) (map (item_in all) d.items) in
    first_event tables (all_names tables) w v k k n (d.callee ∷ d.items) d.items d.callee c.names.callee before after result refl refl
    (λ st same. found_there w k st d.callee c.names.callee same (called_dropped tables w.globals.items count vs func m k d c))
    (function_event tables names func c.names.callee w v k n (map (item_in all) d.items) before after result known c.names.invoked
    (row_as row (function_of names func (map (value_in all) vs)) w v k n before after result
    (λ st same. values_are w k st d.items vs (function_of names func) same given) p))
