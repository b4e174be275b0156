-- Instructions that take a value and touch the stack and the world alone.
use Rattle.std.proofs.Common.{◌≡◌, ℕ, zero, suc, ℤ, pos, negsuc, Option, Some, None, Result, Ok, Err, MatchResult, refl, sym, ap, ◌∙◌, subst}
use Rattle.std.specs.Option.{option_map}
use Rattle.std.specs.Prelude.{IsErrAnd}
use Rattle.icn_value.specs.declared.val.Val.{Val}
use Rattle.icn_value.specs.declared.item.Item.{Item}
use Rattle.icn_value.specs.declared.item.Item.TheVariants.{Val as HeldVal}
use Rattle.icn_value.specs.declared.item.Pair.{Pair as HeldPair}
use Rattle.icn_value.specs.Store.{World as StoreWorld}
use Rattle.icn_defs.specs.Conversions.{integer_of}
use Rattle.icn_defs.specs.Rows.{Outcome}
use Rattle.icn_heap.specs.declared.heap.Heap.{Heap as HeldHeap}
use Rattle.icn_heap.specs.Extents.{Extent, value_in}
use Rattle.icn_heap.specs.Heaps.{extent_of}
use Rattle.icn_vars.specs.declared.world.World.{World}
use Rattle.icn_vars.specs.declared.stop.Stop.{Stop}
use Rattle.icn_vars.specs.declared.stop.Stop.TheVariants.{Error as StopError, NoMemory as StopNoMemory}
use Rattle.icn_vars.specs.declared.outcome.Halt.{Halt}
use Rattle.icn_vars.specs.Stops.{halt_of}
use Rattle.icn_vars.specs.Worlds.{world_of, item_in}
use Rattle.icn_frames.specs.Stacks as held
use Rattle.icn_frames.specs.Stacks.{FlatStack}
use Rattle.law_frames.proofs.CallsRead.{open_limit_read}
use Rattle.icn_code.specs.declared.instr.Instr.TheVariants as Instrs
use Rattle.icn_code.specs.Codes.{Tables}
use Rattle.icn_run.specs.Rows as rows
use Rattle.icn_run.specs.Stacks.{Frames, flat}
use Rattle.icn_run.specs.Step.{State, Store, running, failing, errs, with_value, with_given, with_world, with_popped, here, scans_left, unmark_then, push_item, limit_results}
use Rattle.icn_control.specs.StackViews.{instruction_state, stack_in, reading_of, maybe_pair_in}
use Rattle.icn_control.specs.Pairs.{maybe_paired}
use Rattle.icn_control.specs.StackAndWorld.{RunsWith, FailsWith, StandsWith, HaltsWith, FindsValue, natural_of}
use Rattle.icn_control.specs.declared.machine.RunState.{RunState}
use Rattle.std.proofs.lemmas.Option.{same_Some}
use Rattle.icn_control.proofs.StackSteps.{popped_runs, unmarked_by}

-- the store in which a value was looked for is that of its world
pub same_world : (w : World) (st : Store Frames) → st.world ≡ world_of w → st ≡ with_world (world_of w) st
same_world w st e = ap (λ (x : StoreWorld). with_world x st) e

-- where an item has a value, the instruction goes on with it
pub value_goes : (all : Extent) (item : rows.Item) (m : Frames) (st : Store Frames) (val : Val) (next : rows.Value → State Frames Frames)
    → FindsValue all item (here flat m st) (Ok val)
    → with_value flat item m st next ≡ next (value_in all val)
value_goes all item m st val next h = ap (λ (o : Outcome). with_given o m st next) h

-- where an item has no value, the instruction halts with the reason
pub value_halts : (w : World) (item : rows.Item) (m : Frames) (st : Store Frames) (stop : Stop) (next : rows.Value → State Frames Frames)
    → st.world ≡ world_of w → FindsValue (extent_of w.heap) item (here flat m st) (Err stop)
    → HaltsWith (with_value flat item m st next) st w m (halt_of stop)
value_halts w item m st (StopError number offending) next e h =
    ap (λ (o : Outcome). with_given o m st next) h ∙ ap (errs number (option_map (value_in (extent_of w.heap)) offending) m) (same_world w st e)
value_halts w item m st StopNoMemory next e h = tt

-- a pair that comes back is in the world then
left_is : (all : Extent) (pair : Option HeldPair) (st : Store Frames)
    → scans_left (maybe_pair_in all pair) st ≡ with_world (maybe_paired (maybe_pair_in all pair) st.world) st
left_is all None st = refl
left_is all (Some pair) st = refl

pub left_world : (w v : World) (pair : Option HeldPair) (st : Store Frames) → st.world ≡ world_of w
    → world_of v ≡ maybe_paired (maybe_pair_in (extent_of w.heap) pair) (world_of w)
    → scans_left (maybe_pair_in (extent_of w.heap) pair) st ≡ with_world (world_of v) st
left_world w v pair st e b =
    left_is (extent_of w.heap) pair st ∙ ap (λ (x : StoreWorld). with_world (maybe_paired (maybe_pair_in (extent_of w.heap) pair) x) st) e
    ∙ ap (λ (x : StoreWorld). with_world x st) (sym b)

-- the value of an operand that is taken, with the rest of the instruction
pub popped_value : (w : World) (m k : FlatStack) (item : Item) (val : Val) → held.pop m ≡ Some (item, k) → (st : Store Frames)
    → FindsValue (extent_of w.heap) (item_in (extent_of w.heap) item) (here flat (stack_in (extent_of w.heap) k) st) (Ok val)
    → (next : rows.Value → Frames → State Frames Frames)
    → with_popped flat (stack_in (extent_of w.heap) m) (λ x n. with_value flat x n st (λ value. next value n))
    ≡ next (value_in (extent_of w.heap) val) (stack_in (extent_of w.heap) k)
popped_value w m k item val e st h next =
    popped_runs m k item e (extent_of w.heap) (λ x n. with_value flat x n st (λ value. next value n))
    ∙ value_goes (extent_of w.heap) (item_in (extent_of w.heap) item) (stack_in (extent_of w.heap) k) st val
    (λ value. next value (stack_in (extent_of w.heap) k)) h

pub popped_halts : (w : World) (m k : FlatStack) (item : Item) (stop : Stop) → held.pop m ≡ Some (item, k) → (st : Store Frames) → st.world ≡ world_of w
    → FindsValue (extent_of w.heap) (item_in (extent_of w.heap) item) (here flat (stack_in (extent_of w.heap) k) st) (Err stop)
    → (next : rows.Value → Frames → State Frames Frames)
    → HaltsWith (with_popped flat (stack_in (extent_of w.heap) m) (λ x n. with_value flat x n st (λ value. next value n))) st w (stack_in (extent_of w.heap) k)
    (halt_of stop)
popped_halts w m k item stop e st same h next =
    subst (λ (s : State Frames Frames). HaltsWith s st w (stack_in (extent_of w.heap) k) (halt_of stop))
    (sym (popped_runs m k item e (extent_of w.heap) (λ x n. with_value flat x n st (λ value. next value n))))
    (value_halts w (item_in (extent_of w.heap) item) (stack_in (extent_of w.heap) k) st stop (λ value. next value (stack_in (extent_of w.heap) k)) same h)

pub eret_runs : (w v : World) (m k l n : FlatStack) (item : Item) (val : Val) (pair : Option HeldPair) → held.pop m ≡ Some (item, k)
    → ((st : Store Frames)
    → st.world ≡ world_of w → FindsValue (extent_of w.heap) (item_in (extent_of w.heap) item) (here flat (stack_in (extent_of w.heap) k) st) (Ok val))
    → held.unmark k ≡ Some (l, pair) → v.heap ≡ w.heap
    → world_of v ≡ maybe_paired (maybe_pair_in (extent_of w.heap) pair) (world_of w) → n ≡ held.push (HeldVal val) l → (tables : Tables) (st : Store Frames)
    → st.world ≡ world_of w
    → RunsWith (instruction_state (extent_of w.heap) tables Instrs.Eret m st) st v n
eret_runs w v m k l n item val pair e h u same back p tables st here_in =
    let all : Extent = extent_of w.heap in
    let F : HeldHeap → State Frames Frames = λ x. running (stack_in (extent_of x) n) (with_world (world_of v) st) in
    popped_value w m k item val e st (h st here_in) (λ value a. unmark_then flat a st (push_item flat (rows.Val value)))
    ∙ unmarked_by k l pair u all (λ outside back. push_item flat (rows.Val (value_in all val)) outside (scans_left back st))
    ∙ ap (λ (x : Store Frames). running (stack_in all (held.push (HeldVal val) l)) x) (left_world w v pair st here_in back)
    ∙ ap (λ (x : FlatStack). running (stack_in all x) (with_world (world_of v) st)) (sym p)
    ∙ ap F (sym same)

pub eret_halts : (w : World) (m k : FlatStack) (item : Item) (stop : Stop) → held.pop m ≡ Some (item, k)
    → ((st : Store Frames)
    → st.world ≡ world_of w → FindsValue (extent_of w.heap) (item_in (extent_of w.heap) item) (here flat (stack_in (extent_of w.heap) k) st) (Err stop))
    → (tables : Tables) (st : Store Frames)
    → st.world ≡ world_of w → HaltsWith (instruction_state (extent_of w.heap) tables Instrs.Eret m st) st w (stack_in (extent_of w.heap) k) (halt_of stop)
eret_halts w m k item stop e h tables st same =
    popped_halts w m k item stop e st same (h st same) (λ value a. unmark_then flat a st (push_item flat (rows.Val value)))

-- an answer that halts
pub match_halt : {A : Type 0} (result : Result A Halt) (halt : Halt) (P : A → Type 0) (Q : Halt → Type 0) → IsErrAnd result (λ h. h ≡ halt) → Q halt
    → MatchResult result P Q
match_halt (Err h) halt P Q e q = subst Q (sym e) q
match_halt (Ok a) halt P Q e q = absurd e

pub eret_err : {A : Type 0} (result : Result A Halt) (w : World) (m k n : FlatStack) (item : Item) (stop : Stop) → IsErrAnd result (λ h. h ≡ halt_of stop)
    → held.pop m ≡ Some (item, k) → n ≡ k
    → ((st : Store Frames)
    → st.world ≡ world_of w → FindsValue (extent_of w.heap) (item_in (extent_of w.heap) item) (here flat (stack_in (extent_of w.heap) k) st) (Err stop))
    → (tables : Tables) (st : Store Frames)
    → st.world ≡ world_of w → MatchResult result (λ (x : A). RunsWith (instruction_state (extent_of w.heap) tables Instrs.Eret m st) st w n)
    (HaltsWith (instruction_state (extent_of w.heap) tables Instrs.Eret m st) st w (stack_in (extent_of w.heap) n))
eret_err {A} result w m k n item stop err e p h tables st same =
    match_halt result (halt_of stop) (λ (x : A). RunsWith (instruction_state (extent_of w.heap) tables Instrs.Eret m st) st w n)
    (HaltsWith (instruction_state (extent_of w.heap) tables Instrs.Eret m st) st w (stack_in (extent_of w.heap) n)) err
    (subst (λ (x : FlatStack). HaltsWith (instruction_state (extent_of w.heap) tables Instrs.Eret m st) st w (stack_in (extent_of w.heap) x) (halt_of stop))
    (sym p)
    (eret_halts w m k item stop e h tables st same))

-- The limit of a limitation

pub limit_goes : (w : World) (m k : FlatStack) (item : Item) (val : Val) → held.pop m ≡ Some (item, k)
    → ((st : Store Frames)
    → st.world ≡ world_of w → FindsValue (extent_of w.heap) (item_in (extent_of w.heap) item) (here flat (stack_in (extent_of w.heap) k) st) (Ok val))
    → (n : Option ℤ) → n ≡ integer_of (value_in (extent_of w.heap) val)
    → (tables : Tables) (st : Store Frames) → st.world ≡ world_of w
    → instruction_state (extent_of w.heap) tables Instrs.Limit m st ≡ limit_results flat (value_in (extent_of w.heap) val) n (stack_in (extent_of w.heap) k) st
limit_goes w m k item val e h n i tables st same =
    popped_value w m k item val e st (h st same) (λ value a. limit_results flat value (integer_of value) a st)
    ∙ ap (λ (x : Option ℤ). limit_results flat (value_in (extent_of w.heap) val) x (stack_in (extent_of w.heap) k) st) (sym i)

pub limit_halts : (w : World) (m k : FlatStack) (item : Item) (stop : Stop) → held.pop m ≡ Some (item, k)
    → ((st : Store Frames)
    → st.world ≡ world_of w → FindsValue (extent_of w.heap) (item_in (extent_of w.heap) item) (here flat (stack_in (extent_of w.heap) k) st) (Err stop))
    → (tables : Tables) (st : Store Frames)
    → st.world ≡ world_of w → HaltsWith (instruction_state (extent_of w.heap) tables Instrs.Limit m st) st w (stack_in (extent_of w.heap) k) (halt_of stop)
limit_halts w m k item stop e h tables st same =
    popped_halts w m k item stop e st same (h st same) (λ value a. limit_results flat value (integer_of value) a st)

pub limit_err : (result : Result RunState Halt) (w : World) (m k n : FlatStack) (item : Item) (stop : Stop) → IsErrAnd result (λ h. h ≡ halt_of stop)
    → held.pop m ≡ Some (item, k) → n ≡ k
    → ((st : Store Frames)
    → st.world ≡ world_of w → FindsValue (extent_of w.heap) (item_in (extent_of w.heap) item) (here flat (stack_in (extent_of w.heap) k) st) (Err stop))
    → (tables : Tables) (st : Store Frames)
    → st.world ≡ world_of w → MatchResult result (StandsWith (instruction_state (extent_of w.heap) tables Instrs.Limit m st) st w n)
    (HaltsWith (instruction_state (extent_of w.heap) tables Instrs.Limit m st) st w (stack_in (extent_of w.heap) n))
limit_err result w m k n item stop err e p h tables st same =
    match_halt result (halt_of stop) (StandsWith (instruction_state (extent_of w.heap) tables Instrs.Limit m st) st w n)
    (HaltsWith (instruction_state (extent_of w.heap) tables Instrs.Limit m st) st w (stack_in (extent_of w.heap) n)) err
    (subst (λ (x : FlatStack). HaltsWith (instruction_state (extent_of w.heap) tables Instrs.Limit m st) st w (stack_in (extent_of w.heap) x) (halt_of stop))
    (sym p)
    (limit_halts w m k item stop e h tables st same))

-- the integer that a count stands for
count_is : (n : ℤ) (count : ℕ) → natural_of n ≡ Some count → n ≡ pos count
count_is (pos k) count e = ap pos (same_Some _ _ e)
count_is (negsuc k) count e = cc

below_is : (n : ℤ) → natural_of n ≡ None → (k : ℕ) × (n ≡ negsuc k)
below_is (pos k) e = cc
below_is (negsuc k) e = (k, refl)

-- what a limit comes to, by its integer
pub limit_none : (w : World) (m k l : FlatStack) (item : Item) (val : Val) → held.pop m ≡ Some (item, k)
    → ((st : Store Frames)
    → st.world ≡ world_of w → FindsValue (extent_of w.heap) (item_in (extent_of w.heap) item) (here flat (stack_in (extent_of w.heap) k) st) (Ok val))
    → None ≡ integer_of (value_in (extent_of w.heap) val) → l ≡ k
    → (tables : Tables) (st : Store Frames) → st.world ≡ world_of w
    → instruction_state (extent_of w.heap) tables Instrs.Limit m st
    ≡ errs 101 (Some (value_in (extent_of w.heap) val)) (stack_in (extent_of w.heap) l) (with_world (world_of w) st)
limit_none w m k l item val e h i p tables st same =
    limit_goes w m k item val e h None i tables st same
    ∙ ap (errs 101 (Some (value_in (extent_of w.heap) val)) (stack_in (extent_of w.heap) k)) (same_world w st same)
    ∙ ap (λ (x : FlatStack). errs 101 (Some (value_in (extent_of w.heap) val)) (stack_in (extent_of w.heap) x) (with_world (world_of w) st)) (sym p)

pub limit_below : (w : World) (m k l : FlatStack) (item : Item) (val : Val) → held.pop m ≡ Some (item, k)
    → ((st : Store Frames)
    → st.world ≡ world_of w → FindsValue (extent_of w.heap) (item_in (extent_of w.heap) item) (here flat (stack_in (extent_of w.heap) k) st) (Ok val))
    → (n : ℤ) → Some n ≡ integer_of (value_in (extent_of w.heap) val)
    → None ≡ natural_of n → l ≡ k → (tables : Tables) (st : Store Frames) → st.world ≡ world_of w
    → instruction_state (extent_of w.heap) tables Instrs.Limit m st
    ≡ errs 205 (Some (value_in (extent_of w.heap) val)) (stack_in (extent_of w.heap) l) (with_world (world_of w) st)
limit_below w m k l item val e h n i b p tables st same =
    let below = below_is n (sym b) in
    limit_goes w m k item val e h (Some n) i tables st same
    ∙ ap (λ (x : ℤ). limit_results flat (value_in (extent_of w.heap) val) (Some x) (stack_in (extent_of w.heap) k) st) below.1
    ∙ ap (errs 205 (Some (value_in (extent_of w.heap) val)) (stack_in (extent_of w.heap) k)) (same_world w st same)
    ∙ ap (λ (x : FlatStack). errs 205 (Some (value_in (extent_of w.heap) val)) (stack_in (extent_of w.heap) x) (with_world (world_of w) st)) (sym p)

limit_count : (w : World) (m k : FlatStack) (item : Item) (val : Val) → held.pop m ≡ Some (item, k)
    → ((st : Store Frames)
    → st.world ≡ world_of w → FindsValue (extent_of w.heap) (item_in (extent_of w.heap) item) (here flat (stack_in (extent_of w.heap) k) st) (Ok val))
    → (n : ℤ) → Some n ≡ integer_of (value_in (extent_of w.heap) val)
    → (count : ℕ) → Some count ≡ natural_of n → (tables : Tables) (st : Store Frames) → st.world ≡ world_of w
    → instruction_state (extent_of w.heap) tables Instrs.Limit m st
    ≡ limit_results flat (value_in (extent_of w.heap) val) (Some (pos count)) (stack_in (extent_of w.heap) k) st
limit_count w m k item val e h n i count b tables st same =
    limit_goes w m k item val e h (Some n) i tables st same
    ∙ ap (λ (x : ℤ). limit_results flat (value_in (extent_of w.heap) val) (Some x) (stack_in (extent_of w.heap) k) st) (count_is n count (sym b))

pub limit_zero : (w : World) (m k n : FlatStack) (item : Item) (val : Val) → held.pop m ≡ Some (item, k)
    → ((st : Store Frames)
    → st.world ≡ world_of w → FindsValue (extent_of w.heap) (item_in (extent_of w.heap) item) (here flat (stack_in (extent_of w.heap) k) st) (Ok val))
    → (i : ℤ) → Some i ≡ integer_of (value_in (extent_of w.heap) val)
    → (count : ℕ) → Some count ≡ natural_of i → count ≡ 0 → n ≡ k → (tables : Tables) (st : Store Frames) → st.world ≡ world_of w
    → FailsWith (instruction_state (extent_of w.heap) tables Instrs.Limit m st) st w n
limit_zero w m k n item val e h i is count b z p tables st same =
    limit_count w m k item val e h i is count b tables st same
    ∙ ap (λ (c : ℕ). limit_results flat (value_in (extent_of w.heap) val) (Some (pos c)) (stack_in (extent_of w.heap) k) st) z
    ∙ ap (failing (stack_in (extent_of w.heap) k)) (same_world w st same)
    ∙ ap (λ (x : FlatStack). failing (stack_in (extent_of w.heap) x) (with_world (world_of w) st)) (sym p)

more_than : (c : ℕ) → (c ≡ 0 → ⊥) → (k : ℕ) × (c ≡ suc k)
more_than zero d = absurd (d refl)
more_than (suc k) d = (k, refl)

pub limit_more : (w : World) (m k l n : FlatStack) (item : Item) (val : Val) → held.pop m ≡ Some (item, k)
    → ((st : Store Frames)
    → st.world ≡ world_of w → FindsValue (extent_of w.heap) (item_in (extent_of w.heap) item) (here flat (stack_in (extent_of w.heap) k) st) (Ok val))
    → (i : ℤ) → Some i ≡ integer_of (value_in (extent_of w.heap) val)
    → (count : ℕ) → Some count ≡ natural_of i → (count ≡ 0 → ⊥) → l ≡ k → n ≡ held.open_either None (Some count) l → (tables : Tables) (st : Store Frames)
    → st.world ≡ world_of w
    → RunsWith (instruction_state (extent_of w.heap) tables Instrs.Limit m st) st w n
limit_more w m k l n item val e h i is count b d p q tables st same =
    let all : Extent = extent_of w.heap in
    let more = more_than count d in
    let there : held.open_either None (Some (suc more.0)) k ≡ n = ap (λ (c : ℕ). held.open_either None (Some c) k) (sym more.1)
    ∙ ap (held.open_either None (Some count)) (sym p) ∙ sym q in
    limit_count w m k item val e h i is count b tables st same
    ∙ ap (λ (c : ℕ). limit_results flat (value_in all val) (Some (pos c)) (stack_in all k) st) more.1
    ∙ ap (λ (x : Frames). running x st) (open_limit_read (reading_of all) None (suc more.0) k)
    ∙ ap (λ (x : FlatStack). running (stack_in all x) st) there
    ∙ ap (running (stack_in all n)) (same_world w st same)
