-- Records that are made of arguments, and fields of records.
use Rattle.std.proofs.Common.{◌≡◌, ℕ, ◌<◌, ◌≤◌, List, [], ◌∷◌, map, length, slice_get, Option, Some, None, Result, Ok, Err, refl, sym, ap, ◌∙◌, subst}
use Rattle.std.specs.Prelude.{get_or, slice_index}
use Rattle.std.specs.List.{position}
use Rattle.std.specs.Option.{option_and_then, option_map, option_map_or}
use Rattle.std.proofs.lemmas.Option.{get_or_from_slice_get, slice_get-get_or, slice_get-map, slice_get_past, unwrap_or-slice_get}
use Rattle.icn_value.specs.declared.val.Val.{Val}
use Rattle.icn_value.specs.declared.val.Val.TheVariants as Vals
use Rattle.icn_value.specs.declared.item.Item.{Item}
use Rattle.icn_value.specs.declared.item.Item.TheVariants.{Val as HeldVal, Var as HeldVar}
use Rattle.icn_value.specs.declared.item.VarRef.TheVariants.{Whole as HeldWhole}
use Rattle.icn_value.specs.declared.item.Root.TheVariants.{Field as HeldField}
use Rattle.icn_value.specs.Store.{Record, World as StoreWorld, record_at}
use Rattle.icn_value.specs.Values.{Value}
use Rattle.icn_defs.specs.StepRows.{record_row}
use Rattle.icn_heap.specs.Extents.{Extent, IsLive, value_in}
use Rattle.icn_heap.specs.declared.heap.Heap.{Heap as HeldHeap}
use Rattle.icn_heap.specs.Heaps.{extent_of, heap_of}
use Rattle.icn_heap.proofs.StructureNumbers.{record_below}
use Rattle.icn_vars.specs.declared.stop.Stop.{Stop}
use Rattle.icn_vars.specs.declared.stop.Stop.TheVariants.{Error as StopError, NoMemory as StopNoMemory}
use Rattle.icn_vars.specs.declared.world.World.{World}
use Rattle.icn_vars.specs.Stops.{halt_of}
use Rattle.icn_args.specs.RowWords.{IsFound}
use Rattle.icn_defs.specs.Rows.{gives_value}
use Rattle.icn_defs.specs.Structures.{new_record_of}
use Rattle.icn_value.specs.Store.{Outside, bare_outside}
use Rattle.icn_vars.specs.Worlds.{IsLiveItem, item_in, field_counts, reach_of, setting_of, world_of}
use Rattle.law_names.specs.RowSizes.{FitSizes}
use Rattle.icn_control.specs.LiveStacks.{with_locals}
use Rattle.icn_frames.specs.Stacks as held
use Rattle.icn_frames.specs.Stacks.{FlatStack}
use Rattle.icn_code.specs.Codes.{RecordType, Tables}
use Rattle.icn_run.specs.Rows as rows
use Rattle.icn_run.specs.Stacks.{Frames, flat}
use Rattle.icn_run.specs.Step.{State, Store, construct_record, errs, field_applied, field_of, field_index, field_taken, fill_nulls, here, push_item, running, with_world}
use Rattle.icn_control.specs.StackAndWorld.{FindsValue, HaltsWith, RunsWith}
use Rattle.icn_control.proofs.StackAndWorldSteps.{same_world, value_goes, value_halts}
use Rattle.icn_control.specs.StackViews.{stack_in}
use Rattle.icn_control.specs.TakenOperands.{KeepsCounts, MakesValue, UnlessNoMemory, made_in}
use Rattle.icn_control.proofs.GrowthSteps.{record_keeps, record_refuses}
use Rattle.icn_calls.specs.Calling.{field_count, is_number, values_for}
use Rattle.icn_calls.proofs.ParameterSteps.{map_values_for}

-- the record is made of the fields, and pushed
abbrev made_and_pushed : World → ℕ → List Value → FlatStack → Store Frames → State Frames Frames
made_and_pushed w kind fields m st = made_in (record_row kind fields) w m st (λ value m st. push_item flat (rows.Val value) m st)

constructed_is : (w : World) (m : FlatStack) (kind at count : ℕ) (entry : RecordType) (vals fields : List Val) → at ≡ kind → count ≡ length entry.fields
    → fields ≡ values_for count vals → (st : Store Frames)
    → construct_record flat kind entry (map (value_in (extent_of w.heap)) vals) (stack_in (extent_of w.heap) m) st
    ≡ made_and_pushed w at (map (value_in (extent_of w.heap)) fields) m st
constructed_is w m kind at count entry vals fields k c e st =
    let all : Extent = extent_of w.heap in
    let is : map (value_in all) fields ≡ fill_nulls (length entry.fields) (map (value_in all) vals)
    = ap (map (value_in all)) e ∙ map_values_for all count vals ∙ ap (λ (n : ℕ). fill_nulls n (map (value_in all) vals)) c in
    ap (λ (xs : List Value). made_and_pushed w kind xs m st) (sym is) ∙ ap (λ (n : ℕ). made_and_pushed w n (map (value_in all) fields) m st) (sym k)

pub record_runs : (w v : World) (m k n : FlatStack) (kind at count : ℕ) (entry : RecordType) (vals fields : List Val) (val : Val) → at ≡ kind
    → count ≡ length entry.fields → fields ≡ values_for count vals
    → MakesValue (record_row at (map (value_in (extent_of w.heap)) fields)) w m v (Ok val) → k ≡ m → n ≡ held.push (HeldVal val) k → (st : Store Frames)
    → st.world ≡ world_of w
    → RunsWith (construct_record flat kind entry (map (value_in (extent_of w.heap)) vals) (stack_in (extent_of w.heap) m) st) st v n
record_runs w v m k n kind at count entry vals fields val a c e made_so p q st same =
    constructed_is w m kind at count entry vals fields a c e st
    ∙ made_so st (λ value m st. push_item flat (rows.Val value) m st) same
    ∙ ap (λ (x : FlatStack). running (stack_in (extent_of v.heap) (held.push (HeldVal val) x)) (with_world (world_of v) st)) (sym p)
    ∙ ap (λ (x : FlatStack). running (stack_in (extent_of v.heap) x) (with_world (world_of v) st)) (sym q)

pub record_halts : (w v : World) (m k : FlatStack) (kind at count : ℕ) (entry : RecordType) (vals fields : List Val) (stop : Stop) → at ≡ kind
    → count ≡ length entry.fields → fields ≡ values_for count vals
    → MakesValue (record_row at (map (value_in (extent_of w.heap)) fields)) w m v (Err stop) → k ≡ m → (st : Store Frames) → st.world ≡ world_of w
    → HaltsWith (construct_record flat kind entry (map (value_in (extent_of w.heap)) vals) (stack_in (extent_of w.heap) m) st) st v
    (stack_in (extent_of v.heap) k) (halt_of stop)
record_halts w v m k kind at count entry vals fields stop a c e made_so p st same =
    let state : State Frames Frames = construct_record flat kind entry (map (value_in (extent_of w.heap)) vals) (stack_in (extent_of w.heap) m) st in
    subst (λ (y : FlatStack). HaltsWith state st v (stack_in (extent_of v.heap) y) (halt_of stop)) (sym p)
    (subst (λ (x : State Frames Frames). HaltsWith x st v (stack_in (extent_of v.heap) m) (halt_of stop))
    (sym (constructed_is w m kind at count entry vals fields a c e st))
    (made_so st (λ value m st. push_item flat (rows.Val value) m st) same))

pub record_counted : (w v : World) (locals : List Val) (kind : ℕ) (fields : List Value) (result : Result Val Stop)
    → ((outside : Outside) → IsFound (extent_of v.heap) (new_record_of (record { kind = kind; fields = fields })) (setting_of outside w locals)
    (setting_of outside v locals) (value_in (extent_of v.heap)) result)
    → UnlessNoMemory result (KeepsCounts w v)
record_counted w v locals kind fields (Ok val) f =
    record_keeps w v bare_outside locals (rows.Val (value_in (extent_of v.heap) val)) kind fields (f bare_outside gives_value)
record_counted w v locals kind fields (Err (StopError number offending)) f =
    record_refuses w v bare_outside locals number (option_map (value_in (extent_of v.heap)) offending) kind fields (f bare_outside gives_value)
record_counted w v locals kind fields (Err StopNoMemory) f = tt

-- Fields

-- the first place of a field, by the kind of its record

pub kind_there : (tables : Tables) (kind : ℕ) → kind < length tables.records → (entry : RecordType) × (slice_get tables.records kind ≡ Some entry)
kind_there tables kind p =
    let nothing : RecordType = record { name = 0; fields = [] } in
    (get_or tables.records kind nothing, slice_get-get_or tables.records kind nothing p)

pub place_absent : (tables : Tables) (field kind : ℕ) → length tables.records ≤ kind → None ≡ field_index tables field kind
place_absent tables field kind p =
    sym (ap (option_and_then (λ (entry : RecordType). position (is_number field) entry.fields)) (slice_get_past tables.records kind p))

pub place_found : (tables : Tables) (field kind : ℕ) (entry : RecordType) (fields : List ℕ) (place : Option ℕ) → slice_get tables.records kind ≡ Some entry
    → fields ≡ entry.fields → place ≡ position (is_number field) fields
    → place ≡ field_index tables field kind
place_found tables field kind entry fields place at e p =
    p ∙ ap (position (is_number field)) e ∙ sym (ap (option_and_then (λ (entry : RecordType). position (is_number field) entry.fields)) at)

pub count_found : (tables : Tables) (kind : ℕ) (entry : RecordType) (fields : List ℕ) → slice_get tables.records kind ≡ Some entry → fields ≡ entry.fields
    → length fields ≡ field_count tables kind
count_found tables kind entry fields at e =
    ap length e ∙ sym (ap (λ (o : Option RecordType). option_map_or (λ (entry : RecordType). length entry.fields) o 0) at)

-- how many fields a record of the heap has
size_is : (sizes : ℕ → ℕ) (heap : HeldHeap) (id : ℕ) → FitSizes sizes (heap_of heap) → IsLive (extent_of heap) (Vals.Rec id)
    → slice_index (field_counts (heap_of heap)) id ≡ sizes (record_at (heap_of heap) id).kind
size_is sizes heap id fit live =
    let nothing : Record = record { kind = 0; fields = [] } in
    let within : id < length (heap_of heap).records = record_below heap id live in
    let there : slice_get (heap_of heap).records id ≡ Some (get_or (heap_of heap).records id nothing)
    = slice_get-get_or (heap_of heap).records id nothing within in
    let is : get_or (heap_of heap).records id nothing ≡ record_at (heap_of heap) id = sym (unwrap_or-slice_get (heap_of heap).records id nothing) in
    let size : Record → ℕ = λ structure. length structure.fields in
    get_or_from_slice_get (field_counts (heap_of heap)) id (size (get_or (heap_of heap).records id nothing)) 0
    (slice_get-map size (heap_of heap).records id ∙ ap (option_map size) there)
    ∙ fit.fit id (get_or (heap_of heap).records id nothing) there
    ∙ ap (λ (structure : Record). sizes structure.kind) is

pub field_live : (sizes : ℕ → ℕ) (w : World) (locals id place kind : ℕ) → FitSizes sizes (heap_of w.heap) → IsLive (extent_of w.heap) (Vals.Rec id)
    → kind ≡ (record_at (heap_of w.heap) id).kind → place < sizes kind
    → IsLiveItem (with_locals locals (reach_of w [])) (HeldVar (HeldWhole (HeldField id place)))
field_live sizes w locals id place kind fit live e p =
    let is : slice_index (field_counts (heap_of w.heap)) id ≡ sizes kind = size_is sizes w.heap id fit live ∙ ap sizes (sym e) in
    let within : place < slice_index (field_counts (heap_of w.heap)) id = subst (λ (n : ℕ). place < n) (sym is) p in
    record { live = record { live = record { live = (live, within) } } }

-- what comes of a field, once its item has a value
applied_is : (w : World) (tables : Tables) (field : ℕ) (item : Item) (m : FlatStack) (val : Val) (st : Store Frames)
    → FindsValue (extent_of w.heap) (item_in (extent_of w.heap) item) (here flat (stack_in (extent_of w.heap) m) st) (Ok val)
    → field_applied flat tables field (item_in (extent_of w.heap) item ∷ []) (stack_in (extent_of w.heap) m) st
    ≡ field_of flat tables field (value_in (extent_of w.heap) val) (stack_in (extent_of w.heap) m) st
applied_is w tables field item m val st f =
    value_goes (extent_of w.heap) (item_in (extent_of w.heap) item) (stack_in (extent_of w.heap) m) st val
    (λ value. field_of flat tables field value (stack_in (extent_of w.heap) m) st) f

pub field_unfound : (w : World) (tables : Tables) (field : ℕ) (item : Item) (m k : FlatStack) (stop : Stop) (st : Store Frames) → st.world ≡ world_of w
    → FindsValue (extent_of w.heap) (item_in (extent_of w.heap) item) (here flat (stack_in (extent_of w.heap) m) st) (Err stop) → k ≡ m
    → HaltsWith (field_applied flat tables field (item_in (extent_of w.heap) item ∷ []) (stack_in (extent_of w.heap) m) st) st w
    (stack_in (extent_of w.heap) k) (halt_of stop)
field_unfound w tables field item m k stop st same f p =
    let all : Extent = extent_of w.heap in
    let state : State Frames Frames = field_applied flat tables field (item_in all item ∷ []) (stack_in all m) st in
    subst (λ (x : FlatStack). HaltsWith state st w (stack_in all x) (halt_of stop)) (sym p)
    (value_halts w (item_in all item) (stack_in all m) st stop (λ value. field_of flat tables field value (stack_in all m) st) same f)

-- a value that is no record has no fields
no_record : (all : Extent) (tables : Tables) (field : ℕ) (val : Val) (m : Frames) (st : Store Frames) → ((id : ℕ) → val ≡ Vals.Rec id → ⊥)
    → field_of flat tables field (value_in all val) m st ≡ errs 107 (Some (value_in all val)) m st
no_record all tables field Vals.Null m st h = refl
no_record all tables field (Vals.Integer n) m st h = refl
no_record all tables field (Vals.Text span) m st h = refl
no_record all tables field (Vals.Chars cset) m st h = refl
no_record all tables field (Vals.Std file) m st h = refl
no_record all tables field (Vals.Proc n) m st h = refl
no_record all tables field (Vals.Rec id) m st h = absurd (h id refl)
no_record all tables field (Vals.List id) m st h = refl
no_record all tables field (Vals.Set id) m st h = refl
no_record all tables field (Vals.Table id) m st h = refl
no_record all tables field (Vals.Coexp n) m st h = refl

pub not_a_record : (w : World) (tables : Tables) (field : ℕ) (item : Item) (m k : FlatStack) (val : Val) (st : Store Frames) → st.world ≡ world_of w
    → FindsValue (extent_of w.heap) (item_in (extent_of w.heap) item) (here flat (stack_in (extent_of w.heap) m) st) (Ok val)
    → ((id : ℕ) → val ≡ Vals.Rec id → ⊥) → k ≡ m
    → field_applied flat tables field (item_in (extent_of w.heap) item ∷ []) (stack_in (extent_of w.heap) m) st
    ≡ errs 107 (Some (value_in (extent_of w.heap) val)) (stack_in (extent_of w.heap) k) (with_world (world_of w) st)
not_a_record w tables field item m k val st same f h q =
    let all : Extent = extent_of w.heap in
    applied_is w tables field item m val st f ∙ no_record all tables field val (stack_in all m) st h
    ∙ ap (errs 107 (Some (value_in all val)) (stack_in all m)) (same_world w st same)
    ∙ ap (λ (x : FlatStack). errs 107 (Some (value_in all val)) (stack_in all x) (with_world (world_of w) st)) (sym q)

-- the field of a record, by its place
taken_is : (w : World) (tables : Tables) (field : ℕ) (item : Item) (m : FlatStack) (val : Val) (id kind : ℕ) (place : Option ℕ) (st : Store Frames)
    → st.world ≡ world_of w
    → FindsValue (extent_of w.heap) (item_in (extent_of w.heap) item) (here flat (stack_in (extent_of w.heap) m) st) (Ok val) → val ≡ Vals.Rec id
    → kind ≡ (record_at (heap_of w.heap) id).kind → place ≡ field_index tables field kind
    → field_applied flat tables field (item_in (extent_of w.heap) item ∷ []) (stack_in (extent_of w.heap) m) st
    ≡ field_taken flat place id (stack_in (extent_of w.heap) m) st
taken_is w tables field item m val id kind place st same f v k p =
    let all : Extent = extent_of w.heap in
    applied_is w tables field item m val st f
    ∙ ap (λ (x : Val). field_of flat tables field (value_in all x) (stack_in all m) st) v
    ∙ ap (λ (x : StoreWorld). field_taken flat (field_index tables field (record_at x.heap id).kind) id (stack_in all m) st) same
    ∙ ap (λ (n : ℕ). field_taken flat (field_index tables field n) id (stack_in all m) st) (sym k)
    ∙ ap (λ (o : Option ℕ). field_taken flat o id (stack_in all m) st) (sym p)

pub no_such_field : (w : World) (tables : Tables) (field : ℕ) (item : Item) (m l : FlatStack) (val : Val) (id kind : ℕ) (place : Option ℕ) (st : Store Frames)
    → st.world ≡ world_of w
    → FindsValue (extent_of w.heap) (item_in (extent_of w.heap) item) (here flat (stack_in (extent_of w.heap) m) st) (Ok val) → val ≡ Vals.Rec id
    → kind ≡ (record_at (heap_of w.heap) id).kind → place ≡ field_index tables field kind → place ≡ None → l ≡ m
    → field_applied flat tables field (item_in (extent_of w.heap) item ∷ []) (stack_in (extent_of w.heap) m) st
    ≡ errs 207 (Some (rows.ARecord id)) (stack_in (extent_of w.heap) l) (with_world (world_of w) st)
no_such_field w tables field item m l val id kind place st same f v k p e q =
    let all : Extent = extent_of w.heap in
    taken_is w tables field item m val id kind place st same f v k p
    ∙ ap (λ (o : Option ℕ). field_taken flat o id (stack_in all m) st) e
    ∙ ap (errs 207 (Some (rows.ARecord id)) (stack_in all m)) (same_world w st same)
    ∙ ap (λ (x : FlatStack). errs 207 (Some (rows.ARecord id)) (stack_in all x) (with_world (world_of w) st)) (sym q)

pub field_runs : (w : World) (tables : Tables) (field : ℕ) (item : Item) (m k n : FlatStack) (val : Val) (id kind at : ℕ) (place : Option ℕ) (st : Store Frames)
    → st.world ≡ world_of w
    → FindsValue (extent_of w.heap) (item_in (extent_of w.heap) item) (here flat (stack_in (extent_of w.heap) m) st) (Ok val) → val ≡ Vals.Rec id
    → kind ≡ (record_at (heap_of w.heap) id).kind → place ≡ field_index tables field kind
    → place ≡ Some at → k ≡ m → n ≡ held.push (HeldVar (HeldWhole (HeldField id at))) k
    → RunsWith (field_applied flat tables field (item_in (extent_of w.heap) item ∷ []) (stack_in (extent_of w.heap) m) st) st w n
field_runs w tables field item m k n val id kind at place st same f v e p there q r =
    let all : Extent = extent_of w.heap in
    taken_is w tables field item m val id kind place st same f v e p
    ∙ ap (λ (o : Option ℕ). field_taken flat o id (stack_in all m) st) there
    ∙ ap (λ (x : FlatStack). running (stack_in all (held.push (HeldVar (HeldWhole (HeldField id at))) x)) st) (sym q)
    ∙ ap (λ (x : FlatStack). running (stack_in all x) st) (sym r)
    ∙ ap (running (stack_in all n)) (same_world w st same)
