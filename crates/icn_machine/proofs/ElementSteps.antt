-- Calls with the elements of a list or the fields of a record.
use Rattle.std.proofs.Common.{◌≡◌, ℕ, List, [], ◌∷◌, ◌++◌, length, map, slice_get, Option, Some, None, IsSome, Result, Ok, Err, refl, sym, ap, ◌∙◌, subst, arith, append_assoc, append-nil}
use Rattle.std.specs.Prelude.{IfErr, IsErrAnd, unwrap_or}
use Rattle.std.specs.List.{All}
use Rattle.std.specs.Option.{option_and_then}
use Rattle.std.proofs.lemmas.List.{length-map}
use Rattle.std.proofs.lemmas.List.Elements.{All-head, All-nil, All-cons, All-tail}
use Rattle.icn_structs.specs.Numbered.{NumberedList}
use Rattle.icn_value.specs.declared.val.Val.{Val}
use Rattle.icn_value.specs.declared.val.Val.TheVariants as Vals
use Rattle.icn_value.specs.declared.item.Item.{Item}
use Rattle.icn_value.specs.declared.item.Item.TheVariants as Items
use Rattle.icn_value.specs.Values.{Value}
use Rattle.icn_value.specs.Store.{Names, Record, World as StoreWorld, list_at, new_list, record_at}
use Rattle.icn_heap.specs.Extents.{Extent, IsLive, value_in}
use Rattle.icn_heap.specs.Heaps.{extent_of, heap_of}
use Rattle.law_names.specs.NamedSettings.{HeapNamed, ItemNamed, ListNamed, RecordNamed, ValueNamed}
use Rattle.icn_vars.specs.declared.outcome.Halt.{Halt}
use Rattle.icn_vars.specs.declared.outcome.Halt.TheVariants as Halts
use Rattle.icn_vars.specs.declared.stop.Stop.{Stop}
use Rattle.icn_vars.specs.declared.world.World.{World}
use Rattle.icn_vars.specs.Outcomes.{IsLiveHalt}
use Rattle.icn_vars.specs.Stops.{halt_of}
use Rattle.icn_vars.specs.Worlds.{IsLiveItem, Reach, item_in, world_of}
use Rattle.icn_frames.specs.Stacks as held
use Rattle.icn_frames.specs.Stacks.{FlatStack}
use Rattle.icn_code.specs.Codes.{Tables}
use Rattle.icn_run.specs.Rows as rows
use Rattle.icn_run.specs.Stacks.{Frames, flat}
use Rattle.icn_run.specs.Step.{State, Store, applied_to_elements, elements_called, errs, invoke_value, plain, with_value}
use Rattle.law_rows.proofs.EachOfList.{each_of}
use Rattle.law_steps.proofs.CallsNamed.{IfThere, each_get}
use Rattle.icn_streams.specs.Handed.{CallStreams}
use Rattle.icn_control.specs.StackAndWorld.{HaltsWith, StandsWith}
use Rattle.icn_control.specs.StackViews.{stack_in}
use Rattle.icn_control.specs.TakenOperands.{take_operands, taken_onto}
use Rattle.icn_control.specs.declared.machine.RunState.{RunState}
use Rattle.icn_control.proofs.StackAndWorldSteps.{match_halt, same_world, value_goes, value_halts}
use Rattle.icn_control.proofs.TakenOperandSteps.{FindsItem}
use Rattle.icn_machine.specs.Invoking.{FindsElements, PerformsEvent}
use Rattle.icn_machine.proofs.PerformEvents.{event_as, still_event}

-- Values as items

pub one_more : (done : List Item) (first : Val) (others rest vals : List Val) → rest ≡ first ∷ others → done ++ map Items.Val rest ≡ map Items.Val vals
    → (done ++ Items.Val first ∷ []) ++ map Items.Val others ≡ map Items.Val vals
one_more done first others rest vals e so =
    let here : done ++ map Items.Val (first ∷ others) ≡ map Items.Val vals = subst (λ (xs : List Val). done ++ map Items.Val xs ≡ map Items.Val vals) e so in
    let moved : (done ++ Items.Val first ∷ []) ++ map Items.Val others ≡ done ++ Items.Val first ∷ map Items.Val others = simp append_assoc in
    moved ∙ here

items_plain : (all : Extent) (vals : List Val) → map (item_in all) (map Items.Val vals) ≡ map plain (map (value_in all) vals)
items_plain all [] = refl
items_plain all (val ∷ vals) = ap (λ (xs : List rows.Item). rows.Val (value_in all val) ∷ xs) (items_plain all vals)

pub values_live : (all : Extent) (vals : List Val) (reach : Reach) → reach.extent ≡ all → All (IsLive all) vals → All (IsLiveItem reach) (map Items.Val vals)
values_live all [] reach e are = All-nil (IsLiveItem reach)
values_live all (val ∷ vals) reach e are =
    let first : IsLiveItem reach (Items.Val val) = record { live = subst (λ (x : Extent). IsLive x val) (sym e) (All-head (IsLive all) val vals are) } in
    All-cons (IsLiveItem reach) (Items.Val val) (map Items.Val vals) first (values_live all vals reach e (All-tail (IsLive all) val vals are))

pub plain_named : (names : Names) (values : List Value) → All (ValueNamed names) values → All (ItemNamed names) (map plain values)
plain_named names [] are = All-nil (ItemNamed names)
plain_named names (value ∷ values) are =
    All-cons (ItemNamed names) (plain value) (map plain values) (record { named = All-head (ValueNamed names) value values are })
    (plain_named names values (All-tail (ValueNamed names) value values are))

pub list_named : (names : Names) (o : Option (NumberedList Value)) → IfThere (ListNamed names) o → All (ValueNamed names) (unwrap_or o (new_list [])).items
list_named names None h = All-nil (ValueNamed names)
list_named names (Some list) h = h

pub record_named : (names : Names) (o : Option Record) → IfThere (RecordNamed names) o → All (ValueNamed names) (unwrap_or o (record {
  kind =
      0;
  fields = [];
})).fields
record_named names None h = All-nil (ValueNamed names)
record_named names (Some structure) h = h.1

pub list_items_named : (names : Names) (w : World) (id : ℕ) (vals : List Val) (items : List Item)
    → map (value_in (extent_of w.heap)) vals ≡ (list_at (heap_of w.heap) id).items → items ≡ map Items.Val vals → HeapNamed names (heap_of w.heap)
    → All (ItemNamed names) (map (item_in (extent_of w.heap)) items)
list_items_named names w id vals items e p h =
    let all : Extent = extent_of w.heap in
    let there = list_named names (slice_get (heap_of w.heap).lists id)
    (each_get (ListNamed names) (heap_of w.heap).lists id (each_of (ListNamed names) (heap_of w.heap).lists h.lists)) in
    subst (λ (xs : List rows.Item). All (ItemNamed names) xs) (sym (ap (map (item_in all)) p ∙ items_plain all vals))
    (plain_named names (map (value_in all) vals) (subst (λ (xs : List Value). All (ValueNamed names) xs) (sym e) there))

pub record_items_named : (names : Names) (w : World) (id : ℕ) (vals : List Val) (items : List Item)
    → map (value_in (extent_of w.heap)) vals ≡ (record_at (heap_of w.heap) id).fields → items ≡ map Items.Val vals → HeapNamed names (heap_of w.heap)
    → All (ItemNamed names) (map (item_in (extent_of w.heap)) items)
record_items_named names w id vals items e p h =
    let all : Extent = extent_of w.heap in
    let there = record_named names (slice_get (heap_of w.heap).records id)
    (each_get (RecordNamed names) (heap_of w.heap).records id (each_of (RecordNamed names) (heap_of w.heap).records h.records)) in
    subst (λ (xs : List rows.Item). All (ItemNamed names) xs) (sym (ap (map (item_in all)) p ∙ items_plain all vals))
    (plain_named names (map (value_in all) vals) (subst (λ (xs : List Value). All (ValueNamed names) xs) (sym e) there))

-- Elements

elements_are : (all : Extent) (vals : List Val) (items : List Item) (values : List Value) → map (value_in all) vals ≡ values → items ≡ map Items.Val vals
    → map plain values ≡ map (item_in all) items
elements_are all vals items values e p = ap (map plain) (sym e) ∙ sym (items_plain all vals) ∙ ap (map (item_in all)) (sym p)

pub list_elements : (w : World) (from : Val) (id : ℕ) (vals : List Val) (items : List Item) → from ≡ Vals.List id
    → map (value_in (extent_of w.heap)) vals ≡ (list_at (heap_of w.heap) id).items → items ≡ map Items.Val vals
    → FindsElements {A = Unit} w from items (Ok tt)
list_elements w from id vals items f e p tables callee m st same =
    let all : Extent = extent_of w.heap in
    let F : List rows.Item → State Frames Frames = λ xs. invoke_value flat tables callee xs m st in
    ap (λ (x : Val). elements_called flat tables callee (value_in all x) m st) f
    ∙ ap (λ (x : StoreWorld). F (map plain (list_at x.heap id).items)) same
    ∙ ap F (elements_are all vals items (list_at (heap_of w.heap) id).items e p)

pub record_elements : (w : World) (from : Val) (id : ℕ) (vals : List Val) (items : List Item) → from ≡ Vals.Rec id
    → map (value_in (extent_of w.heap)) vals ≡ (record_at (heap_of w.heap) id).fields → items ≡ map Items.Val vals
    → FindsElements {A = Unit} w from items (Ok tt)
record_elements w from id vals items f e p tables callee m st same =
    let all : Extent = extent_of w.heap in
    let F : List rows.Item → State Frames Frames = λ xs. invoke_value flat tables callee xs m st in
    ap (λ (x : Val). elements_called flat tables callee (value_in all x) m st) f
    ∙ ap (λ (x : StoreWorld). F (map plain (record_at x.heap id).fields)) same
    ∙ ap F (elements_are all vals items (record_at (heap_of w.heap) id).fields e p)

pub no_elements : (w : World) (from : Val) (items : List Item) → ((id : ℕ) → from ≡ Vals.List id → ⊥) → ((id : ℕ) → from ≡ Vals.Rec id → ⊥) → FindsElements {A =
    Unit} w from items (Err (Halts.Error 126 (Some from)))
no_elements w from items h k tables callee m st same = by_value from h k ∙ ap (errs 126 (Some (value_in (extent_of w.heap) from)) m) (same_world w st same)
  where
    all : Extent
    all = extent_of w.heap

    by_value : (from : Val) → ((id : ℕ) → from ≡ Vals.List id → ⊥) → ((id : ℕ) → from ≡ Vals.Rec id → ⊥)
        → elements_called flat tables callee (value_in all from) m st ≡ errs 126 (Some (value_in all from)) m st
    by_value Vals.Null h k = refl
    by_value (Vals.Integer n) h k = refl
    by_value (Vals.Text span) h k = refl
    by_value (Vals.Chars cset) h k = refl
    by_value (Vals.Std file) h k = refl
    by_value (Vals.Proc n) h k = refl
    by_value (Vals.Rec id) h k = absurd (k id refl)
    by_value (Vals.List id) h k = absurd (h id refl)
    by_value (Vals.Set id) h k = refl
    by_value (Vals.Table id) h k = refl
    by_value (Vals.Coexp n) h k = refl

-- Calls

-- what is called with the elements of a value
abbrev pub applied_on : Tables → World → FlatStack → Item → Item → Store Frames → State Frames Frames
applied_on tables w m callee from st =
    applied_to_elements flat tables (item_in (extent_of w.heap) callee ∷ item_in (extent_of w.heap) from ∷ []) (stack_in (extent_of w.heap) m) st

first_goes : (tables : Tables) (w : World) (m : FlatStack) (callee from : Item) (value : Val) (st : Store Frames) → st.world ≡ world_of w
    → FindsItem w m callee (Ok value)
    → applied_on tables w m callee from st
    ≡ with_value flat (item_in (extent_of w.heap) from) (stack_in (extent_of w.heap) m) st
    (λ x. elements_called flat tables (value_in (extent_of w.heap) value) x (stack_in (extent_of w.heap) m) st)
first_goes tables w m callee from value st same f =
    let all : Extent = extent_of w.heap in
    let M : Frames = stack_in all m in
    value_goes all (item_in all callee) M st value (λ called. with_value flat (item_in all from) M st (λ x. elements_called flat tables called x M st))
    (f st same)

both_go : (tables : Tables) (w : World) (m : FlatStack) (callee from : Item) (value other : Val) (st : Store Frames) → st.world ≡ world_of w
    → FindsItem w m callee (Ok value) → FindsItem w m from (Ok other)
    → applied_on tables w m callee from st
    ≡ elements_called flat tables (value_in (extent_of w.heap) value) (value_in (extent_of w.heap) other) (stack_in (extent_of w.heap) m) st
both_go tables w m callee from value other st same f k =
    let all : Extent = extent_of w.heap in
    let M : Frames = stack_in all m in
    first_goes tables w m callee from value st same f
    ∙ value_goes all (item_in all from) M st other (λ x. elements_called flat tables (value_in all value) x M st) (k st same)

pub elements_event : (tables : Tables) (names : Names) (w v : World) (m k n : FlatStack) (callee from : Item) (value other : Val)
    (items xs : List Item) (before after : CallStreams) (result : Result RunState Halt)
    → FindsItem w m callee (Ok value) → FindsItem w m from (Ok other) → FindsElements {A = Unit} w other items (Ok tt) → k ≡ m → xs ≡ items
    → PerformsEvent names (λ st. invoke_value flat tables (value_in (extent_of w.heap) value) (map (item_in (extent_of w.heap)) xs)
    (stack_in (extent_of w.heap) k) st) w before v n after result
    → PerformsEvent names (applied_on tables w m callee from) w before v n after result
elements_event tables names w v m k n callee from value other items xs before after result f g h e d p =
    let all : Extent = extent_of w.heap in
    event_as names (applied_on tables w m callee from) (λ st. invoke_value flat tables (value_in all value) (map (item_in all) xs) (stack_in all k) st) w v
    n before after result
    (λ st same names_same. both_go tables w m callee from value other st same f g
    ∙ h tables (value_in all value) (stack_in all m) st same
    ∙ ap (λ (x : FlatStack). invoke_value flat tables (value_in all value) (map (item_in all) items) (stack_in all x) st) (sym e)
    ∙ ap (λ (ys : List Item). invoke_value flat tables (value_in all value) (map (item_in all) ys) (stack_in all k) st) (sym d))
    p

stops_event : (tables : Tables) (names : Names) (w : World) (m n : FlatStack) (callee from : Item) (halt : Halt) (before : CallStreams)
    (result : Result RunState Halt)
    → IsErrAnd result (λ h. h ≡ halt) → n ≡ m
    → ((st : Store Frames) → st.world ≡ world_of w → HaltsWith (applied_on tables w m callee from st) st w (stack_in (extent_of w.heap) m) halt)
    → PerformsEvent names (applied_on tables w m callee from) w before w n before result
stops_event tables names w m n callee from halt before result err e h =
    let all : Extent = extent_of w.heap in
    still_event names (applied_on tables w m callee from) w w n before result
    (λ st same. match_halt result halt (StandsWith (applied_on tables w m callee from st) st w n)
    (HaltsWith (applied_on tables w m callee from st) st w (stack_in all n)) err
    (subst (λ (x : FlatStack). HaltsWith (applied_on tables w m callee from st) st w (stack_in all x) halt) (sym e) (h st same)))

pub callee_stops : (tables : Tables) (names : Names) (w : World) (m n : FlatStack) (callee from : Item) (stop : Stop) (before : CallStreams)
    (result : Result RunState Halt)
    → IsErrAnd result (λ h. h ≡ halt_of stop) → n ≡ m
    → FindsItem w m callee (Err stop) → PerformsEvent names (applied_on tables w m callee from) w before w n before result
callee_stops tables names w m n callee from stop before result err e f =
    let all : Extent = extent_of w.heap in
    let M : Frames = stack_in all m in
    stops_event tables names w m n callee from (halt_of stop) before result err e
    (λ st same. value_halts w (item_in all callee) M st stop
    (λ called. with_value flat (item_in all from) M st (λ x. elements_called flat tables called x M st)) same (f st same))

pub from_stops : (tables : Tables) (names : Names) (w : World) (m n : FlatStack) (callee from : Item) (value : Val) (stop : Stop) (before : CallStreams)
    (result : Result RunState Halt)
    → IsErrAnd result (λ h. h ≡ halt_of stop) → n ≡ m
    → FindsItem w m callee (Ok value) → FindsItem w m from (Err stop) → PerformsEvent names (applied_on tables w m callee from) w before w n before result
from_stops tables names w m n callee from value stop before result err e f g =
    let all : Extent = extent_of w.heap in
    let M : Frames = stack_in all m in
    stops_event tables names w m n callee from (halt_of stop) before result err e
    (λ st same. subst (λ (s : State Frames Frames). HaltsWith s st w M (halt_of stop)) (sym (first_goes tables w m callee from value st same f))
    (value_halts w (item_in all from) M st stop (λ x. elements_called flat tables (value_in all value) x M st) same (g st same)))

pub elements_stop : (tables : Tables) (names : Names) (w : World) (m n : FlatStack) (callee from : Item) (value other : Val) (items : List Item)
    (halt : Halt) (before : CallStreams) (result : Result RunState Halt)
    → IsErrAnd result (λ h. h ≡ halt) → n ≡ m
    → FindsItem w m callee (Ok value) → FindsItem w m from (Ok other) → FindsElements {A = Unit} w other items (Err halt)
    → PerformsEvent names (applied_on tables w m callee from) w before w n before result
elements_stop tables names w m n callee from value other items halt before result err e f g h =
    let all : Extent = extent_of w.heap in
    stops_event tables names w m n callee from halt before result err e
    (λ st same. subst (λ (s : State Frames Frames). HaltsWith s st w (stack_in all m) halt) (sym (both_go tables w m callee from value other st same f g))
    (h tables (value_in all value) (stack_in all m) st same))

-- Two operands

pub two_taken : (m k n : FlatStack) (upper lower : Item) → held.pop m ≡ Some (upper, k) → held.pop k ≡ Some (lower, n)
    → take_operands 2 m ≡ Some (lower ∷ upper ∷ [], n)
two_taken m k n upper lower e f =
    ap (option_and_then (λ (popped : Item × FlatStack). taken_onto 1 popped.1 (popped.0 ∷ []))) e
    ∙ ap (option_and_then (λ (popped : Item × FlatStack). taken_onto 0 popped.1 (popped.0 ∷ upper ∷ []))) f

pub second_pops : (m k : FlatStack) (upper : Item) → held.pop m ≡ Some (upper, k) → IsSome (take_operands 2 m) → IsSome (held.pop k)
second_pops m k upper e h =
    let there : IsSome (taken_onto 1 k (upper ∷ []))
    = subst (λ (o : Option (List Item × FlatStack)). IsSome o)
    (ap (option_and_then (λ (popped : Item × FlatStack). taken_onto 1 popped.1 (popped.0 ∷ []))) e) h in
    by_pop (held.pop k) there
  where
    by_pop : (o : Option (Item × FlatStack)) → IsSome (option_and_then (λ (popped : Item × FlatStack). taken_onto 0 popped.1 (popped.0 ∷ upper ∷ [])) o)
        → IsSome o
    by_pop None q = q
    by_pop (Some p) q = refl

pub all_done : (done : List Item) (rest vals : List Val) → length rest ≡ 0 → done ++ map Items.Val rest ≡ map Items.Val vals → done ≡ map Items.Val vals
all_done done [] vals none so = sym (append-nil done) ∙ so
all_done done (val ∷ rest) vals none so = absurd (omega arith)

pub as_many : (vals : List Val) (items : List Item) → items ≡ map Items.Val vals → length items ≡ length vals
as_many vals items e = ap (λ (xs : List Item). length xs) e ∙ length-map vals Items.Val

pub all_live : (all : Extent) (vals : List Val) (items : List Item) (reach : Reach) → reach.extent ≡ all → items ≡ map Items.Val vals → All (IsLive all) vals
    → All (IsLiveItem reach) items
all_live all vals items reach e p are = subst (λ (xs : List Item). All (IsLiveItem reach) xs) (sym p) (values_live all vals reach e are)

pub wants_memory : (reach : Reach) (result : Result Unit Halt) → IfErr result (λ halt. halt ≡ Halts.NoMemory) → IfErr result (IsLiveHalt reach)
wants_memory reach (Ok done) h = tt
wants_memory reach (Err halt) h = subst (λ (x : Halt). IsLiveHalt reach x) (sym h) tt
