-- What calls leave names only what has a name, and has each record as long as its kind.
use Rattle.std.proofs.Common.{◌≡◌, ℕ, List, [], ◌∷◌, map, Some, None, Result, Ok, Err, MatchResult, refl, sym, ap, ◌∙◌, subst}
use Rattle.std.specs.Prelude.{IfOk, IsErrAnd, slice_get}
use Rattle.std.specs.List.{All}
use Rattle.std.specs.Option.{option_map}
use Rattle.std.proofs.lemmas.List.Elements.{All-cons, All-head, All-nil}
use Rattle.icn_text.specs.declared.func.Func.{Func}
use Rattle.icn_value.specs.declared.val.Val.{Val}
use Rattle.icn_value.specs.declared.val.Val.TheVariants as Vals
use Rattle.icn_value.specs.declared.item.Item.{Item as HeldItem}
use Rattle.icn_value.specs.Store.{Names, list_at, bare_outside, record_at}
use Rattle.icn_value.specs.Values.{Value, Null, Integer, Text, Chars, Std, Procedure, ARecord, AList, ASet, ATable, ACoexp}
use Rattle.icn_defs.specs.Running.{callee_number}
use Rattle.law_rows.proofs.EachOfList.{each_of, none_is_not_some, some_injective}
use Rattle.icn_heap.specs.Extents.{Extent, value_in}
use Rattle.icn_heap.specs.Heaps.{extent_of, heap_of}
use Rattle.law_names.specs.NamedSettings.{ItemNamed, ListNamed, RecordNamed, ValueNamed, WorldNamed}
use Rattle.law_names.specs.RowSizes.{FitSizes}
use Rattle.icn_vars.specs.declared.outcome.Halt.{Halt}
use Rattle.icn_vars.specs.declared.outcome.Halt.TheVariants as Halts
use Rattle.icn_vars.specs.declared.stop.Stop.{Stop}
use Rattle.icn_vars.specs.Stops.{halt_of}
use Rattle.icn_vars.specs.declared.world.World.{World}
use Rattle.icn_vars.specs.Worlds.{item_in, world_of}
use Rattle.icn_frames.specs.Stacks.{FlatStack}
use Rattle.icn_code.specs.Codes.{Tables}
use Rattle.icn_run.specs.Rows as rows
use Rattle.icn_run.specs.Stacks.{Frames, flat}
use Rattle.icn_run.specs.Step.{State, Store, IsFunc, running, stuck, all_names, callee_of, elements_called, errs, invoke_value, plain, with_value, with_world}
use Rattle.law_steps.specs.KeepingNames.{StepsKeepNames}
use Rattle.law_steps.specs.KeepingSizes.{StateFits, StepsKeepSizes, field_count}
use Rattle.law_steps.specs.StateNames.{CoexpNamed, StackNamed, StateNamed, StoreNamed}
use Rattle.law_steps.proofs.CallsNamed as C
use Rattle.icn_apply.specs.SizesAfter.{WorldsKeepSizes}
use Rattle.icn_control.specs.Soundness.{UnlessEnded}
use Rattle.icn_control.specs.StackAndWorld.{HaltsWith, StandsWith}
use Rattle.icn_control.specs.StackViews.{stack_in}
use Rattle.icn_control.specs.declared.machine.RunState.{RunState}
use Rattle.icn_control.specs.declared.machine.RunState.TheVariants as RunStates
use Rattle.icn_control.proofs.StackAndWorldSteps.{value_goes, value_halts}
use Rattle.icn_control.proofs.TakenOperandSteps.{FindsItem}
use Rattle.icn_calls.specs.Calling.{IsGoing, NamesNothing, function_in}
use Rattle.icn_calls.proofs.InvokeSteps.{never_function}
use Rattle.icn_machine.specs.Invoking.{FindsElements}
use Rattle.icn_machine.specs.Performing.{LeavesNamed, UnlessOver}
use Rattle.icn_machine.proofs.ElementSteps.{list_named, plain_named, record_named}
use Rattle.icn_machine.proofs.SettleSteps.{errs_fit, errs_named, named_errs}

-- a store of a world in which no co-expression was made
abbrev pub bare_store : Names → World → Store Frames
bare_store names w = record { world = world_of w; outside = bare_outside; turns = 0; begun = []; coexps = []; active = 0; names = names }

bare_named : (names : Names) (w : World) → WorldNamed names (world_of w) → StoreNamed names (bare_store names w)
bare_named names w h = record { world = h; coexps = All-nil (CoexpNamed names) }

no_function : (tables : Tables) (all : Extent) (callee : Val) (n : ℕ) (func : Func) → function_in tables callee ≡ None → value_in all callee ≡ Procedure n
    → callee_of tables n ≡ IsFunc func → ⊥
no_function tables all (Vals.Proc k) n func none is found =
    let same : k ≡ n = cc in
    never_function tables (Vals.Proc k) n func none (ap (λ (x : ℕ). Vals.Proc x) same) found
no_function tables all Vals.Null n func none is found = cc
no_function tables all (Vals.Integer i) n func none is found = cc
no_function tables all (Vals.Text span) n func none is found = cc
no_function tables all (Vals.Chars cset) n func none is found = cc
no_function tables all (Vals.Std file) n func none is found = cc
no_function tables all (Vals.Rec id) n func none is found = cc
no_function tables all (Vals.List id) n func none is found = cc
no_function tables all (Vals.Set id) n func none is found = cc
no_function tables all (Vals.Table id) n func none is found = cc
no_function tables all (Vals.Coexp id) n func none is found = cc

-- what is called names no function either
no_function_named : (names : Names) (tables : Tables) (all : Extent) (callee : Val) (n : ℕ) (func : Func) → function_in tables callee ≡ None
    → NamesNothing names (value_in all callee) → callee_number names (value_in all callee) ≡ Some n → callee_of tables n ≡ IsFunc func → ⊥
no_function_named names tables all (Vals.Proc k) n func none nothing is found =
    no_function tables all (Vals.Proc k) n func none (ap Procedure (some_injective is)) found
no_function_named names tables all Vals.Null n func none nothing is found = none_is_not_some n (sym nothing ∙ is)
no_function_named names tables all (Vals.Integer i) n func none nothing is found = none_is_not_some n (sym nothing ∙ is)
no_function_named names tables all (Vals.Text span) n func none nothing is found = none_is_not_some n (sym nothing ∙ is)
no_function_named names tables all (Vals.Chars cset) n func none nothing is found = none_is_not_some n (sym nothing ∙ is)
no_function_named names tables all (Vals.Std file) n func none nothing is found = none_is_not_some n (sym nothing ∙ is)
no_function_named names tables all (Vals.Rec id) n func none nothing is found = none_is_not_some n (sym nothing ∙ is)
no_function_named names tables all (Vals.List id) n func none nothing is found = none_is_not_some n (sym nothing ∙ is)
no_function_named names tables all (Vals.Set id) n func none nothing is found = none_is_not_some n (sym nothing ∙ is)
no_function_named names tables all (Vals.Table id) n func none nothing is found = none_is_not_some n (sym nothing ∙ is)
no_function_named names tables all (Vals.Coexp id) n func none nothing is found = none_is_not_some n (sym nothing ∙ is)

-- what a call on a stack in a world comes to
abbrev CallsWith : Tables → World → FlatStack → Val → List rows.Item → World → FlatStack → Result RunState Halt → Type 0
CallsWith tables w m callee items v n result = (st : Store Frames) → st.world ≡ world_of w → NamesNothing st.names (value_in (extent_of w.heap) callee)
    → MatchResult result (StandsWith (invoke_value flat tables (value_in (extent_of w.heap) callee) items (stack_in (extent_of w.heap) m) st) st v n)
    (HaltsWith (invoke_value flat tables (value_in (extent_of w.heap) callee) items (stack_in (extent_of w.heap) m) st) st v (stack_in (extent_of v.heap) n))

-- Names

-- what an error leaves, of a state that names only what has a name
pub halted_named : (names ns : Names) (w v : World) (n : FlatStack) (state : State Frames Frames) (halt : Halt) → StateNamed names state
    → HaltsWith state (bare_store ns w) v (stack_in (extent_of v.heap) n) halt → LeavesNamed names v n (Err halt)
halted_named names ns w v n state (Halts.Error number offending) h e = λ goes. (
    let after : Store Frames = with_world (world_of v) (bare_store ns w) in
    let kept = errs_named names number (option_map (value_in (extent_of v.heap)) offending) (stack_in (extent_of v.heap) n) after
    (subst (λ (x : State Frames Frames). StateNamed names x) e h) goes in
    (kept.0, kept.1.world))
halted_named names ns w v n state (Halts.Ends status) h e = tt
halted_named names ns w v n state Halts.ReadFault h e = tt
halted_named names ns w v n state Halts.WriteFault h e = tt
halted_named names ns w v n state Halts.FileFault h e = tt
halted_named names ns w v n state Halts.NoMemory h e = tt

pub call_named : (law : StepsKeepNames) (tables : Tables) (names : Names) (w v : World) (m n : FlatStack) (callee : Val) (items : List rows.Item)
    (result : Result RunState Halt)
    → names ≡ all_names tables
    → function_in tables callee ≡ None → NamesNothing names (value_in (extent_of w.heap) callee)
    → ValueNamed names (value_in (extent_of w.heap) callee) → All (ItemNamed names) items
    → StackNamed names (stack_in (extent_of w.heap) m) → WorldNamed names (world_of w)
    → CallsWith tables w m callee items v n result → IfOk result IsGoing
    → LeavesNamed names v n result
call_named law tables names w v m n callee items result known none silent called are stack world h g =
    subst (λ (x : Names). LeavesNamed x v n result) (sym known)
    (by_result result h g (subst (λ (x : Names). ValueNamed x (value_in (extent_of w.heap) callee)) known called)
    (subst (λ (x : Names). All (ItemNamed x) items) known are)
    (subst (λ (x : Names). StackNamed x (stack_in (extent_of w.heap) m)) known stack) (subst (λ (x : Names). WorldNamed x (world_of w)) known world))
  where
    ns : Names
    ns = all_names tables

    st : Store Frames
    st = bare_store ns w

    nothing : NamesNothing ns (value_in (extent_of w.heap) callee)
    nothing = subst (λ (x : Names). NamesNothing x (value_in (extent_of w.heap) callee)) known silent

    after : ValueNamed ns (value_in (extent_of w.heap) callee) → All (ItemNamed ns) items → StackNamed ns (stack_in (extent_of w.heap) m)
        → WorldNamed ns (world_of w)
        → StateNamed ns (invoke_value flat tables (value_in (extent_of w.heap) callee) items (stack_in (extent_of w.heap) m) st)
    after called are stack world =
        law.called tables (value_in (extent_of w.heap) callee) items (stack_in (extent_of w.heap) m) st
        (λ k func is found. absurd (no_function_named ns tables (extent_of w.heap) callee k func none nothing is found))
        (λ k is. none_is_not_some k (sym nothing ∙ is)) called are stack (bare_named ns w world)

    by_result : (result : Result RunState Halt) → CallsWith tables w m callee items v n result → IfOk result IsGoing
        → ValueNamed ns (value_in (extent_of w.heap) callee) → All (ItemNamed ns) items
        → StackNamed ns (stack_in (extent_of w.heap) m) → WorldNamed ns (world_of w) → LeavesNamed ns v n result
    by_result (Ok RunStates.Running) h g called are stack world =
        let s = subst (λ (x : State Frames Frames). StateNamed ns x) (h st refl nothing) (after called are stack world) in (s.0, s.1.world)
    by_result (Ok RunStates.Failing) h g called are stack world =
        let s = subst (λ (x : State Frames Frames). StateNamed ns x) (h st refl nothing) (after called are stack world) in (s.0, s.1.world)
    by_result (Ok RunStates.Hopping) h g called are stack world = absurd g
    by_result (Ok RunStates.Over) h g called are stack world = absurd g
    by_result (Ok RunStates.AtBound) h g called are stack world = absurd g
    by_result (Err halt) h g called are stack world =
        halted_named ns ns w v n (invoke_value flat tables (value_in (extent_of w.heap) callee) items (stack_in (extent_of w.heap) m) st) halt
        (after called are stack world) (h st refl nothing)

-- The value of an item

-- a value that stands on top of a stack
abbrev on_top : List Value → Frames → Store Frames → State Frames Frames
on_top (value ∷ []) m st = running (flat.push (rows.Val value) m) st
on_top values m st = stuck

on_top_named : (names : Names) (values : List Value) (m : Frames) (st : Store Frames) → All (ValueNamed names) values → StackNamed names m
    → StoreNamed names st → StateNamed names (on_top values m st)
on_top_named names (value ∷ []) m st are h k =
    let item : ItemNamed names (rows.Val value) = record { named = All-head (ValueNamed names) value [] are } in
    (C.stack_out names (flat.push (rows.Val value) m) (item, C.stack_in names m h), k)
on_top_named names [] m st are h k = tt
on_top_named names (value ∷ other ∷ values) m st are h k = tt

module _ (law : StepsKeepNames) (tables : Tables) (w : World) (m : FlatStack) (item : HeldItem) where
  abbrev ns : Names
  ns = all_names tables

  abbrev all : Extent
  all = extent_of w.heap

  abbrev on : Frames
  on = stack_in all m

  abbrev bare : Store Frames
  bare = bare_store ns w

  one_named : (next : List Value → State Frames Frames) → ItemNamed ns (item_in all item) → StackNamed ns on → WorldNamed ns (world_of w)
      → ((values : List Value) → All (ValueNamed ns) values → StateNamed ns (next values))
      → StateNamed ns (with_value flat (item_in all item) on bare (λ value. next (value ∷ [])))
  one_named next is stack world f =
      law.values tables (item_in all item ∷ []) on bare next (All-cons (ItemNamed ns) (item_in all item) [] is (All-nil (ItemNamed ns))) stack
      (bare_named ns w world) f

  -- it names only what has a name
  found_named : (val : Val) → ItemNamed ns (item_in all item) → StackNamed ns on → WorldNamed ns (world_of w) → FindsItem w m item (Ok val)
      → ValueNamed ns (value_in all val)
  found_named val is stack world found =
      let there : StateNamed ns (running (flat.push (rows.Val (value_in all val)) on) bare)
      = subst (λ (x : State Frames Frames). StateNamed ns x)
      (value_goes all (item_in all item) on bare val (λ value. on_top (value ∷ []) on bare) (found bare refl))
      (one_named (λ values. on_top values on bare) is stack world
      (λ values are. on_top_named ns values on bare are stack (bare_named ns w world))) in
      let first : ItemNamed ns (rows.Val (value_in all val)) = (C.stack_in ns (flat.push (rows.Val (value_in all val)) on) there.0).0 in
      first.named

  -- where it has none, what is left does
  unfound_named : (n : FlatStack) (stop : Stop) → n ≡ m → ItemNamed ns (item_in all item) → StackNamed ns on → WorldNamed ns (world_of w)
      → FindsItem w m item (Err stop) → LeavesNamed ns w n (Err (halt_of stop))
  unfound_named n stop e is stack world found =
      subst (λ (x : FlatStack). LeavesNamed ns w x (Err (halt_of stop))) (sym e)
      (halted_named ns ns w w m (with_value flat (item_in all item) on bare (λ value. stuck)) (halt_of stop)
      (one_named (λ values. stuck) is stack world (λ values are. tt))
      (value_halts w (item_in all item) on bare stop (λ value. stuck) refl (found bare refl)))

-- the same under other names
pub value_named : (law : StepsKeepNames) (tables : Tables) (names : Names) (w : World) (m : FlatStack) (item : HeldItem) (val : Val)
    → names ≡ all_names tables → ItemNamed names (item_in (extent_of w.heap) item) → StackNamed names (stack_in (extent_of w.heap) m)
    → WorldNamed names (world_of w) → FindsItem w m item (Ok val) → ValueNamed names (value_in (extent_of w.heap) val)
value_named law tables names w m item val known is stack world found =
    subst (λ (x : Names). ValueNamed x (value_in (extent_of w.heap) val)) (sym known)
    (found_named law tables w m item val (subst (λ (x : Names). ItemNamed x (item_in (extent_of w.heap) item)) known is)
    (subst (λ (x : Names). StackNamed x (stack_in (extent_of w.heap) m)) known stack) (subst (λ (x : Names). WorldNamed x (world_of w)) known world) found)

pub unfound_leaves : (law : StepsKeepNames) (tables : Tables) (names : Names) (w : World) (m n : FlatStack) (item : HeldItem) (stop : Stop)
    (result : Result RunState Halt) → IsErrAnd result (λ h. h ≡ halt_of stop) → n ≡ m
    → names ≡ all_names tables → ItemNamed names (item_in (extent_of w.heap) item) → StackNamed names (stack_in (extent_of w.heap) m)
    → WorldNamed names (world_of w) → FindsItem w m item (Err stop) → LeavesNamed names w n result
unfound_leaves law tables names w m n item stop (Ok stage) err e known is stack world found = absurd err
unfound_leaves law tables names w m n item stop (Err halt) err e known is stack world found =
    subst (λ (x : Halt). LeavesNamed names w n (Err x)) (sym err)
    (subst (λ (x : Names). LeavesNamed x w n (Err (halt_of stop))) (sym known)
    (unfound_named law tables w m item n stop e (subst (λ (x : Names). ItemNamed x (item_in (extent_of w.heap) item)) known is)
    (subst (λ (x : Names). StackNamed x (stack_in (extent_of w.heap) m)) known stack) (subst (λ (x : Names). WorldNamed x (world_of w)) known world) found))

-- The elements of a value

-- a value, of all that may be called, that is no function
abbrev called_null : Tables → Value → Frames → Store Frames → State Frames Frames
called_null tables from m st = elements_called flat tables Null from m st

null_named : (law : StepsKeepNames) (tables : Tables) (items : List rows.Item) (m : Frames) (st : Store Frames) → All (ItemNamed (all_names tables)) items
    → StackNamed (all_names tables) m → StoreNamed (all_names tables) st → StateNamed (all_names tables) (invoke_value flat tables Null items m st)
null_named law tables items m st are stack store = law.called tables Null items m st (λ k func is found. absurd (cc)) (λ k is. absurd (cc)) tt are stack store

-- it has no elements
none_named : (names : Names) (from : Value) (m : Frames) (st : Store Frames) → ValueNamed names from → StackNamed names m → StoreNamed names st
    → StateNamed names (errs 126 (Some from) m st)
none_named names from m st is stack store = named_errs names 126 (Some from) m st (λ goes. (
  stack,
  record {
    world = record { heap = store.world.heap; globals = store.world.globals; statics = store.world.statics; kept = (is, refl) };
    coexps = store.coexps;
  },
))

called_named : (law : StepsKeepNames) (tables : Tables) (from : Value) (m : Frames) (st : Store Frames) → ValueNamed (all_names tables) from
    → StackNamed (all_names tables) m → StoreNamed (all_names tables) st → StateNamed (all_names tables) (called_null tables from m st)
called_named law tables (AList n) m st is stack store =
    null_named law tables (map plain (list_at st.world.heap n).items) m st
    (plain_named (all_names tables) (list_at st.world.heap n).items (list_named (all_names tables) (slice_get st.world.heap.lists n)
    (C.each_get (ListNamed (all_names tables)) st.world.heap.lists n
    (each_of (ListNamed (all_names tables)) st.world.heap.lists store.world.heap.lists)))) stack store
called_named law tables (ARecord n) m st is stack store =
    null_named law tables (map plain (record_at st.world.heap n).fields) m st
    (plain_named (all_names tables) (record_at st.world.heap n).fields (record_named (all_names tables) (slice_get st.world.heap.records n)
    (C.each_get (RecordNamed (all_names tables)) st.world.heap.records n
    (each_of (RecordNamed (all_names tables)) st.world.heap.records store.world.heap.records)))) stack store
called_named law tables Null m st is stack store = none_named (all_names tables) Null m st is stack store
called_named law tables (Integer n) m st is stack store = none_named (all_names tables) (Integer n) m st is stack store
called_named law tables (Text text) m st is stack store = none_named (all_names tables) (Text text) m st is stack store
called_named law tables (Chars bytes) m st is stack store = none_named (all_names tables) (Chars bytes) m st is stack store
called_named law tables (Std file) m st is stack store = none_named (all_names tables) (Std file) m st is stack store
called_named law tables (Procedure n) m st is stack store = none_named (all_names tables) (Procedure n) m st is stack store
called_named law tables (ASet n) m st is stack store = none_named (all_names tables) (ASet n) m st is stack store
called_named law tables (ATable n) m st is stack store = none_named (all_names tables) (ATable n) m st is stack store
called_named law tables (ACoexp n) m st is stack store = none_named (all_names tables) (ACoexp n) m st is stack store

pub elements_leave : (law : StepsKeepNames) (tables : Tables) (names : Names) (w : World) (m n : FlatStack) (from : Val) (items : List HeldItem) (halt : Halt)
    (result : Result RunState Halt) → IsErrAnd result (λ h. h ≡ halt) → n ≡ m → names ≡ all_names tables
    → ValueNamed names (value_in (extent_of w.heap) from) → StackNamed names (stack_in (extent_of w.heap) m) → WorldNamed names (world_of w)
    → FindsElements {A = Unit} w from items (Err halt) → LeavesNamed names w n result
elements_leave law tables names w m n from items halt (Ok stage) err e known is stack world found = absurd err
elements_leave law tables names w m n from items halt (Err other) err e known is stack world found =
    let ns : Names = all_names tables in
    let on : Frames = stack_in (extent_of w.heap) m in
    let st : Store Frames = bare_store ns w in
    let value : Value = value_in (extent_of w.heap) from in
    subst (λ (x : Halt). LeavesNamed names w n (Err x)) (sym err)
    (subst (λ (x : Names). LeavesNamed x w n (Err halt)) (sym known)
    (subst (λ (x : FlatStack). LeavesNamed ns w x (Err halt)) (sym e)
    (halted_named ns ns w w m (called_null tables value on st) halt
    (called_named law tables value on st (subst (λ (x : Names). ValueNamed x value) known is) (subst (λ (x : Names). StackNamed x on) known stack)
    (bare_named ns w (subst (λ (x : Names). WorldNamed x (world_of w)) known world)))
    (found tables Null on st refl))))

-- Sizes

pub call_sized : (law : StepsKeepSizes) (tables : Tables) (w v : World) (m n : FlatStack) (callee : Val) (items : List rows.Item)
    (result : Result RunState Halt)
    → function_in tables callee ≡ None → NamesNothing (all_names tables) (value_in (extent_of w.heap) callee)
    → CallsWith tables w m callee items v n result → IfOk result IsGoing → FitSizes (field_count tables) (heap_of w.heap)
    → UnlessOver v result (FitSizes (field_count tables) (heap_of v.heap))
call_sized law tables w v m n callee items result none nothing h g fits = by_result result h g
  where
    st : Store Frames
    st = bare_store (all_names tables) w

    after : StateFits tables (invoke_value flat tables (value_in (extent_of w.heap) callee) items (stack_in (extent_of w.heap) m) st)
    after =
        law.called tables (value_in (extent_of w.heap) callee) items (stack_in (extent_of w.heap) m) st
        (λ k func is found. absurd (no_function_named (all_names tables) tables (extent_of w.heap) callee k func none nothing is found)) fits

    by_result : (result : Result RunState Halt) → CallsWith tables w m callee items v n result → IfOk result IsGoing
        → UnlessOver v result (FitSizes (field_count tables) (heap_of v.heap))
    by_result (Ok RunStates.Running) h g = subst (λ (x : State Frames Frames). StateFits tables x) (h st refl nothing) after
    by_result (Ok RunStates.Failing) h g = subst (λ (x : State Frames Frames). StateFits tables x) (h st refl nothing) after
    by_result (Ok RunStates.Hopping) h g = absurd g
    by_result (Ok RunStates.Over) h g = absurd g
    by_result (Ok RunStates.AtBound) h g = absurd g
    by_result (Err (Halts.Error number offending)) h g =
        errs_fit tables number (option_map (value_in (extent_of v.heap)) offending) (stack_in (extent_of v.heap) n) (with_world (world_of v) st)
        (subst (λ (x : State Frames Frames). StateFits tables x) (h st refl nothing) after)
    by_result (Err (Halts.Ends status)) h g = tt
    by_result (Err Halts.ReadFault) h g = tt
    by_result (Err Halts.WriteFault) h g = tt
    by_result (Err Halts.FileFault) h g = tt
    by_result (Err Halts.NoMemory) h g = tt

-- what holds whatever is answered
pub unless_over : {A : Type 0} (w : World) (result : Result A Halt) (P : Type 0) → P → UnlessOver w result P
unless_over w (Ok a) P p = p
unless_over w (Err (Halts.Error number offending)) P p = λ goes. p
unless_over w (Err (Halts.Ends status)) P p = tt
unless_over w (Err Halts.ReadFault) P p = tt
unless_over w (Err Halts.WriteFault) P p = tt
unless_over w (Err Halts.FileFault) P p = tt
unless_over w (Err Halts.NoMemory) P p = tt

pub sizes_stay_on : (result : Result RunState Halt) (w v : World) (sizes : ℕ → ℕ) → UnlessEnded result (WorldsKeepSizes w v)
    → FitSizes sizes (heap_of w.heap)
    → UnlessOver v result (FitSizes sizes (heap_of v.heap))
sizes_stay_on (Ok stage) w v sizes h fits = (h sizes).fit fits
sizes_stay_on (Err (Halts.Error number offending)) w v sizes h fits = λ goes. (h sizes).fit fits
sizes_stay_on (Err (Halts.Ends status)) w v sizes h fits = tt
sizes_stay_on (Err Halts.ReadFault) w v sizes h fits = tt
sizes_stay_on (Err Halts.WriteFault) w v sizes h fits = tt
sizes_stay_on (Err Halts.FileFault) w v sizes h fits = tt
sizes_stay_on (Err Halts.NoMemory) w v sizes h fits = tt
