-- Arguments that become parameters, and procedures that are entered with them.
use Rattle.std.proofs.Common.{◌≡◌, ℕ, zero, suc, ◌+◌, ◌-◌, ◌≤◌, Bool, true, false, nat_le, List, [], ◌∷◌, ◌++◌, map, length, take, drop, replicate, Result, Ok, Err, refl, sym, ap, ◌∙◌, subst, arith}
use Rattle.std.specs.List.{All}
use Rattle.std.specs.Prelude.{IsErrAnd}
use Rattle.std.proofs.lemmas.List.{map-append}
use Rattle.std.proofs.lemmas.List.Elements.{All-cons, All-head, All-nil, All-tail}
use Rattle.icn_value.specs.declared.val.Val.{Val}
use Rattle.icn_value.specs.declared.val.Val.TheVariants.{Null}
use Rattle.icn_value.specs.Values.{Value, Null as NullValue}
use Rattle.icn_defs.specs.StepRows.{list_row}
use Rattle.icn_heap.specs.Extents.{Extent, IsLive, KeepsValues, value_in}
use Rattle.icn_heap.specs.Heaps.{extent_of, heap_of}
use Rattle.icn_vars.specs.declared.world.World.{World}
use Rattle.icn_vars.specs.declared.stop.Stop.{Stop}
use Rattle.icn_vars.specs.declared.stop.Stop.TheVariants.{Error as StopError, NoMemory as StopNoMemory}
use Rattle.icn_vars.specs.Stops.{halt_of}
use Rattle.icn_vars.specs.Worlds.{world_of}
use Rattle.icn_frames.specs.Stacks as held
use Rattle.icn_frames.specs.Stacks.{FlatStack}
use Rattle.icn_code.specs.Codes.{Proc}
use Rattle.icn_run.specs.Stacks.{Frames, flat}
use Rattle.law_frames.proofs.CallsRead.{level_read}
use Rattle.law_frames.proofs.ScansRead.{enter_read}
use Rattle.icn_value.specs.Store.{World as StoreWorld}
use Rattle.icn_control.specs.StackViews.{reading_of}
use Rattle.icn_run.specs.Step.{State, Store, call_procedure, called_if, enter_procedure, fill_nulls, list_made, running, with_world}
use Rattle.icn_control.specs.StackAndWorld.{HaltsWith}
use Rattle.icn_control.specs.StackViews.{stack_in}
use Rattle.icn_control.specs.TakenOperands.{MakesValue, UnlessNoMemory}
use Rattle.icn_control.proofs.GrowthSteps.{values_same}
use Rattle.icn_control.proofs.StackAndWorldSteps.{same_world}
use Rattle.icn_calls.specs.Calling.{values_for, with_parameters_in}

-- Values for places

map_fill : (all : Extent) (n k : ℕ) (xs : List Val)
    → map (value_in all) (take n (xs ++ replicate k Null)) ≡ take n (map (value_in all) xs ++ replicate k NullValue)
map_fill all zero k xs = refl
map_fill all (suc n) zero [] = refl
map_fill all (suc n) (suc k) [] = ap (λ (r : List Value). NullValue ∷ r) (map_fill all n k [])
map_fill all (suc n) k (x ∷ xs) = ap (λ (r : List Value). value_in all x ∷ r) (map_fill all n k xs)

pub map_values_for : (all : Extent) (n : ℕ) (xs : List Val) → map (value_in all) (values_for n xs) ≡ fill_nulls n (map (value_in all) xs)
map_values_for all n xs = map_fill all n n xs

map_drop : (all : Extent) (n : ℕ) (xs : List Val) → map (value_in all) (drop n xs) ≡ drop n (map (value_in all) xs)
map_drop all zero xs = refl
map_drop all (suc n) [] = refl
map_drop all (suc n) (x ∷ xs) = map_drop all n xs

length_fill : (n k : ℕ) (xs : List Val) → n ≤ length xs + k → length (take n (xs ++ replicate k Null)) ≡ n
length_fill zero k xs p = refl
length_fill (suc n) zero [] p = absurd (omega arith)
length_fill (suc n) (suc k) [] p = ap (λ (m : ℕ). suc m) (length_fill n k [] (omega arith))
length_fill (suc n) k (x ∷ xs) p = ap (λ (m : ℕ). suc m) (length_fill n k xs (omega arith))

pub length_values_for : (n : ℕ) (xs : List Val) → length (values_for n xs) ≡ n
length_values_for n xs = length_fill n n xs (omega arith)

null_live : (all : Extent) → IsLive all Null
null_live all = record { live = tt }

live_fill : (all : Extent) (n k : ℕ) (xs : List Val) → All (IsLive all) xs → All (IsLive all) (take n (xs ++ replicate k Null))
live_fill all zero k xs a = All-nil (IsLive all)
live_fill all (suc n) zero [] a = All-nil (IsLive all)
live_fill all (suc n) (suc k) [] a = All-cons (IsLive all) Null (take n (replicate k Null)) (null_live all) (live_fill all n k [] a)
live_fill all (suc n) k (x ∷ xs) a =
    All-cons (IsLive all) x (take n (xs ++ replicate k Null)) (All-head (IsLive all) x xs a) (live_fill all n k xs (All-tail (IsLive all) x xs a))

pub live_values_for : (all : Extent) (n : ℕ) (xs : List Val) → All (IsLive all) xs → All (IsLive all) (values_for n xs)
live_values_for all n xs a = live_fill all n n xs a

pub live_drop : (all : Extent) (n : ℕ) (xs : List Val) → All (IsLive all) xs → All (IsLive all) (drop n xs)
live_drop all zero xs a = a
live_drop all (suc n) [] a = a
live_drop all (suc n) (x ∷ xs) a = live_drop all n xs (All-tail (IsLive all) x xs a)

-- Why there are none

-- of want of memory nothing is said
pub unless_lacking : {A : Type 0} (result : Result A Stop) (P : Type 0) → IsErrAnd result (λ s. s ≡ StopNoMemory) → UnlessNoMemory result P
unless_lacking {A} (Err s) P e = subst (λ (x : Stop). UnlessNoMemory {A = A} (Err x) P) (sym e) tt
unless_lacking (Ok a) P e = absurd e

-- what holds of a stop unless memory was wanting holds where another call passes it on
pub unless_passed_on : {A : Type 0} (B : Type 0) (result : Result A Stop) (stop : Stop) (P : Type 0) → IsErrAnd result (λ s. s ≡ stop)
    → UnlessNoMemory {A = B} (Err stop) P → UnlessNoMemory result P
unless_passed_on {A} B (Err s) stop P e p = subst (λ (x : Stop). UnlessNoMemory {A = A} (Err x) P) (sym e) (by_stop stop p)
  where
    by_stop : (x : Stop) → UnlessNoMemory {A = B} (Err x) P → UnlessNoMemory {A = A} (Err x) P
    by_stop (StopError number offending) q = q
    by_stop StopNoMemory q = tt
unless_passed_on B (Ok a) stop P e p = absurd e

-- Parameters

pub plain : (w : World) (m : FlatStack) (count : ℕ) (vals parameters : List Val) → parameters ≡ values_for count vals
    → (st : Store Frames) (next : List Value → Frames → Store Frames → State Frames Frames) → st.world ≡ world_of w
    → with_parameters_in false count w m vals st next
    ≡ next (map (value_in (extent_of w.heap)) parameters) (stack_in (extent_of w.heap) m) (with_world (world_of w) st)
plain w m count vals parameters e st next same =
    ap (λ (xs : List Value). next xs (stack_in (extent_of w.heap) m) st)
    (sym (ap (map (value_in (extent_of w.heap))) e ∙ map_values_for (extent_of w.heap) count vals))
    ∙ ap (next (map (value_in (extent_of w.heap)) parameters) (stack_in (extent_of w.heap) m)) (same_world w st same)

pub collects : (w v : World) (m : FlatStack) (count : ℕ) (vals cut parameters : List Val) (list : Val)
    → MakesValue (list_row (map (value_in (extent_of w.heap)) (drop (count - 1) vals))) w m v (Ok list) → cut ≡ values_for (count - 1) vals
    → parameters ≡ cut ++ list ∷ [] → KeepsValues (extent_of w.heap) (extent_of v.heap) → All (IsLive (extent_of w.heap)) vals
    → (st : Store Frames) (next : List Value → Frames → Store Frames → State Frames Frames) → st.world ≡ world_of w
    → with_parameters_in true count w m vals st next
    ≡ next (map (value_in (extent_of v.heap)) parameters) (stack_in (extent_of v.heap) m) (with_world (world_of v) st)
collects w v m count vals cut parameters list made_so c p k a st next same =
    let all : Extent = extent_of w.heap in
    let new : Extent = extent_of v.heap in
    let behind : Value → Frames → Store Frames → State Frames Frames = λ rest x s. next (fill_nulls (count - 1) (map (value_in all) vals) ++ rest ∷ []) x s in
    let is : map (value_in new) parameters ≡ fill_nulls (count - 1) (map (value_in all) vals) ++ value_in new list ∷ []
    = ap (map (value_in new)) p ∙ map-append (value_in new) cut (list ∷ [])
    ∙ ap (λ (xs : List Val). map (value_in new) xs ++ value_in new list ∷ []) c
    ∙ ap (λ (xs : List Value). xs ++ value_in new list ∷ []) (map_values_for new (count - 1) vals)
    ∙ ap (λ (xs : List Value). fill_nulls (count - 1) xs ++ value_in new list ∷ []) (values_same all new k vals a) in
    ap (λ (xs : List Value). list_made flat xs (stack_in all m) st behind) (sym (map_drop all (count - 1) vals))
    ∙ made_so st behind same
    ∙ ap (λ (xs : List Value). next xs (stack_in new m) (with_world (world_of v) st)) (sym is)

pub collects_not : (w v : World) (m : FlatStack) (count : ℕ) (vals : List Val) (stop : Stop)
    → MakesValue (list_row (map (value_in (extent_of w.heap)) (drop (count - 1) vals))) w m v (Err stop)
    → (st : Store Frames) (next : List Value → Frames → Store Frames → State Frames Frames) → st.world ≡ world_of w
    → HaltsWith (with_parameters_in true count w m vals st next) st v (stack_in (extent_of v.heap) m) (halt_of stop)
collects_not w v m count vals stop made_so st next same =
    let all : Extent = extent_of w.heap in
    let behind : Value → Frames → Store Frames → State Frames Frames = λ rest x s. next (fill_nulls (count - 1) (map (value_in all) vals) ++ rest ∷ []) x s in
    subst (λ (x : State Frames Frames). HaltsWith x st v (stack_in (extent_of v.heap) m) (halt_of stop))
    (ap (λ (xs : List Value). list_made flat xs (stack_in all m) st behind) (map_drop all (count - 1) vals)) (made_so st behind same)

pub plain_result : (b : Bool) (w : World) (m : FlatStack) (count : ℕ) (vals parameters : List Val) → b ≡ false → parameters ≡ values_for count vals
    → (st : Store Frames) (next : List Value → Frames → Store Frames → State Frames Frames) → st.world ≡ world_of w
    → with_parameters_in b count w m vals st next
    ≡ next (map (value_in (extent_of w.heap)) parameters) (stack_in (extent_of w.heap) m) (with_world (world_of w) st)
plain_result b w m count vals parameters e p st next same =
    ap (λ (x : Bool). with_parameters_in x count w m vals st next) e ∙ plain w m count vals parameters p st next same

-- Calls

map_nulls : (all : Extent) (n : ℕ) → map (value_in all) (replicate n Null) ≡ replicate n NullValue
map_nulls all zero = refl
map_nulls all (suc n) = ap (λ (r : List Value). NullValue ∷ r) (map_nulls all n)

-- what a call is, once its level was tested
called_by : (w : World) (m : FlatStack) (number : ℕ) (entry : Proc) (vals : List Val) (b : Bool)
    → nat_le (suc (held.level m)) (heap_of w.heap).bounds.levels ≡ b → (st : Store Frames) → st.world ≡ world_of w
    → call_procedure flat number entry (map (value_in (extent_of w.heap)) vals) (stack_in (extent_of w.heap) m) st
    ≡ called_if flat b number entry (map (value_in (extent_of w.heap)) vals) (stack_in (extent_of w.heap) m) st
called_by w m number entry vals b e st same =
    let F : Bool → State Frames Frames = λ x. called_if flat x number entry (map (value_in (extent_of w.heap)) vals) (stack_in (extent_of w.heap) m) st in
    ap (λ (l : ℕ). F (nat_le (suc l) st.world.heap.bounds.levels)) (level_read (reading_of (extent_of w.heap)) m)
    ∙ ap (λ (x : StoreWorld). F (nat_le (suc (held.level m)) x.heap.bounds.levels)) same
    ∙ ap F e

pub called_runs : (w v : World) (m k n : FlatStack) (number : ℕ) (entry : Proc) (vals parameters : List Val)
    → nat_le (suc (held.level m)) (heap_of w.heap).bounds.levels ≡ true
    → ((st : Store Frames) (next : List Value → Frames → Store Frames → State Frames Frames) → st.world ≡ world_of w
    → with_parameters_in entry.collects entry.parameters w m vals st next
    ≡ next (map (value_in (extent_of v.heap)) parameters) (stack_in (extent_of v.heap) m) (with_world (world_of v) st))
    → k ≡ m → n ≡ held.enter number (parameters ++ replicate entry.locals Null) 0 k → (st : Store Frames) → st.world ≡ world_of w
    → call_procedure flat number entry (map (value_in (extent_of w.heap)) vals) (stack_in (extent_of w.heap) m) st
    ≡ running (stack_in (extent_of v.heap) n) (with_world (world_of v) st)
called_runs w v m k n number entry vals parameters b f e p st same =
    let new : Extent = extent_of v.heap in
    let locals : List Val = parameters ++ replicate entry.locals Null in
    let is : map (value_in new) locals ≡ map (value_in new) parameters ++ replicate entry.locals NullValue
    = map-append (value_in new) parameters (replicate entry.locals Null)
    ∙ ap (λ (r : List Value). map (value_in new) parameters ++ r) (map_nulls new entry.locals) in
    called_by w m number entry vals true b st same
    ∙ f st (λ ps a s. enter_procedure flat number entry ps a s) same
    ∙ ap (λ (xs : List Value). running (flat.enter number xs (stack_in new m)) (with_world (world_of v) st)) (sym is)
    ∙ ap (λ (a : Frames). running a (with_world (world_of v) st)) (enter_read (reading_of new) number locals m)
    ∙ ap (λ (x : FlatStack). running (stack_in new (held.enter number locals 0 x)) (with_world (world_of v) st)) (sym e)
    ∙ ap (λ (x : FlatStack). running (stack_in new x) (with_world (world_of v) st)) (sym p)

pub called_halts : (w v : World) (m k : FlatStack) (number : ℕ) (entry : Proc) (vals : List Val) (stop : Stop)
    → nat_le (suc (held.level m)) (heap_of w.heap).bounds.levels ≡ true
    → ((st : Store Frames) (next : List Value → Frames → Store Frames → State Frames Frames) → st.world ≡ world_of w
    → HaltsWith (with_parameters_in entry.collects entry.parameters w m vals st next) st v (stack_in (extent_of v.heap) m) (halt_of stop)) → k ≡ m
    → (st : Store Frames) → st.world ≡ world_of w
    → HaltsWith (call_procedure flat number entry (map (value_in (extent_of w.heap)) vals) (stack_in (extent_of w.heap) m) st) st v
    (stack_in (extent_of v.heap) k) (halt_of stop)
called_halts w v m k number entry vals stop b f p st same =
    let state : State Frames Frames = call_procedure flat number entry (map (value_in (extent_of w.heap)) vals) (stack_in (extent_of w.heap) m) st in
    subst (λ (y : FlatStack). HaltsWith state st v (stack_in (extent_of v.heap) y) (halt_of stop)) (sym p)
    (subst (λ (x : State Frames Frames). HaltsWith x st v (stack_in (extent_of v.heap) m) (halt_of stop)) (sym (called_by w m number entry vals true b st same))
    (f st (λ ps a s. enter_procedure flat number entry ps a s) same))

pub nulls_live : (all : Extent) (n : ℕ) → All (IsLive all) (replicate n Null)
nulls_live all zero = All-nil (IsLive all)
nulls_live all (suc n) = All-cons (IsLive all) Null (replicate n Null) (null_live all) (nulls_live all n)

pub live_with_nulls : (all : Extent) (n : ℕ) (xs : List Val) → All (IsLive all) xs → All (IsLive all) (xs ++ replicate n Null)
live_with_nulls all n [] a = nulls_live all n
live_with_nulls all n (x ∷ xs) a =
    All-cons (IsLive all) x (xs ++ replicate n Null) (All-head (IsLive all) x xs a) (live_with_nulls all n xs (All-tail (IsLive all) x xs a))

pub length_with_nulls : (n : ℕ) (xs : List Val) → length (xs ++ replicate n Null) ≡ length xs + n
length_with_nulls zero [] = refl
length_with_nulls (suc n) [] = ap (λ (k : ℕ). suc k) (length_with_nulls n []) ∙ omega arith
length_with_nulls n (x ∷ xs) = ap (λ (k : ℕ). suc k) (length_with_nulls n xs) ∙ omega arith
