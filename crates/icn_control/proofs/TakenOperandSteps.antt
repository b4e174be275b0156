-- Operands that are taken together, once the stack is read, and their values.
use Rattle.std.proofs.Common.{◌≡◌, ℕ, zero, suc, ◌<◌, List, [], ◌∷◌, ◌++◌, map, length, drop, slice_set, Option, Some, None, IsSome, Result, Ok, Err, refl, sym, ap, ◌∙◌, subst, arith, append_assoc, append-nil}
use Rattle.std.specs.Prelude.{IsErrAnd}
use Rattle.std.specs.List.{All}
use Rattle.std.specs.Option.{option_map, option_and_then}
use Rattle.std.proofs.lemmas.List.{map-append}
use Rattle.std.proofs.lemmas.List.Elements.{All-cons, All-nil}
use Rattle.std.proofs.lemmas.Option.{same_Some}
use Rattle.icn_value.specs.declared.val.Val.{Val}
use Rattle.icn_value.specs.declared.item.Item.{Item}
use Rattle.icn_value.specs.Values.{Value}
use Rattle.icn_value.specs.Store.{Setting}
use Rattle.icn_defs.specs.Rows.{Row, Finds, Outcome, Gives, Error, gives_value}
use Rattle.icn_heap.specs.Extents.{Extent, value_in}
use Rattle.icn_heap.specs.Heaps.{extent_of}
use Rattle.icn_vars.specs.declared.world.World.{World}
use Rattle.icn_vars.specs.declared.stop.Stop.{Stop}
use Rattle.icn_vars.specs.declared.stop.Stop.TheVariants.{Error as StopError, NoMemory as StopNoMemory}
use Rattle.icn_vars.specs.Stops.{halt_of}
use Rattle.icn_vars.specs.Worlds.{Reach, IsLiveItem, KeepsItems, item_in, reach_of, setting_of, world_of}
use Rattle.icn_args.specs.RowWords.{IsFound}
use Rattle.icn_frames.specs.Stacks as held
use Rattle.icn_frames.specs.Stacks.{FlatStack}
use Rattle.law_frames.specs.ReadStacks.{popped_read}
use Rattle.law_frames.proofs.CallsRead.{pop_read, taken_pop, set_locals_read}
use Rattle.icn_code.specs.Codes.{Tables}
use Rattle.icn_run.specs.Rows as rows
use Rattle.icn_run.specs.Stacks as code
use Rattle.icn_run.specs.Stacks.{Frames, flat}
use Rattle.icn_run.specs.Step.{State, Store, errs, here, with_made, on_pair, with_found, with_values, with_world}
use Rattle.icn_control.specs.LiveStacks.{with_locals, IsLiveStack}
use Rattle.icn_control.specs.StackAndWorld.{FindsValue, HaltsWith}
use Rattle.icn_control.specs.StackViews.{stack_in, reading_of}
use Rattle.icn_control.specs.TakenOperands.{taken_onto, take_operands, with_values_in, FindsValues, made_in, MakesValue}
use Rattle.icn_control.proofs.OperandValues.{here_is}
use Rattle.icn_control.proofs.KeptItems.{stack_same}
use Rattle.icn_control.proofs.LiveCalls.{own_locals, live_pop, pop_owner}
use Rattle.icn_control.proofs.StackAndWorldSteps.{value_goes, value_halts}

-- Taking

-- what is taken, read
abbrev taken_read : Extent → List Item × FlatStack → List rows.Item × Frames
taken_read all pair = (map (item_in all) pair.0, stack_in all pair.1)

over_pop : (all : Extent) (n : ℕ) (items : List Item) → ((m : FlatStack) (xs : List Item)
    → code.take_top n (stack_in all m) (stack_in all m).cells (map (item_in all) xs) ≡ option_map (taken_read all) (taken_onto n m xs))
    → (o : Option (Item × FlatStack))
    → option_and_then (λ (pair : rows.Item × Frames). code.take_top n pair.1 pair.1.cells (pair.0 ∷ map (item_in all) items))
    (option_map (popped_read (reading_of all)) o)
    ≡ option_map (taken_read all) (option_and_then (λ (popped : Item × FlatStack). taken_onto n popped.1 (popped.0 ∷ items)) o)
over_pop all n items h None = refl
over_pop all n items h (Some popped) = h popped.1 (popped.0 ∷ items)

take_onto_read : (all : Extent) (n : ℕ) (m : FlatStack) (items : List Item)
    → code.take_top n (stack_in all m) (stack_in all m).cells (map (item_in all) items) ≡ option_map (taken_read all) (taken_onto n m items)
take_onto_read all zero m items = refl
take_onto_read all (suc n) m items =
    taken_pop n (stack_in all m) (map (item_in all) items)
    ∙ ap (option_and_then (λ (pair : rows.Item × Frames). code.take_top n pair.1 pair.1.cells (pair.0 ∷ map (item_in all) items))) (pop_read (reading_of all) m)
    ∙ over_pop all n items (take_onto_read all n) (held.pop m)

-- what is taken off a stack, with the rest of the instruction
pub taken_runs : (all : Extent) (n : ℕ) (m k : FlatStack) (items : List Item) (next : List rows.Item → Frames → State Frames Frames)
    → take_operands n m ≡ Some (items, k)
    → with_found (flat.take n (stack_in all m)) (on_pair next) ≡ next (map (item_in all) items) (stack_in all k)
taken_runs all n m k items next e =
    ap (λ (o : Option (List rows.Item × Frames)). with_found o (on_pair next)) (take_onto_read all n m [] ∙ ap (option_map (taken_read all)) e)

-- what is taken is of the world
pub record TakesLive (t : Tables) (reach : Reach) (before : ℕ) (items : List Item) (n : FlatStack) : Type 0 where
  pub items_live : All (IsLiveItem (with_locals (own_locals n) reach)) items
  pub rest : IsLiveStack t reach n
  pub same : before ≡ own_locals n

live_onto : (t : Tables) (reach : Reach) (n : ℕ) (m k : FlatStack) (xs items : List Item) → taken_onto n m xs ≡ Some (items, k)
    → All (IsLiveItem (with_locals (own_locals m) reach)) xs → IsLiveStack t reach m → TakesLive t reach (own_locals m) items k
live_onto t reach zero m k xs items e a l =
    let here : List Item × FlatStack = (xs, m) in
    let both : TakesLive t reach (own_locals m) xs m = record { items_live = a; rest = l; same = refl } in
    subst (λ (w : List Item × FlatStack). TakesLive t reach (own_locals m) w.0 w.1) (same_Some here (items, k) e) both
live_onto t reach (suc n) m k xs items e a l = by_pop (held.pop m) refl e (live_onto t reach n)
  where
    by_pop : (o : Option (Item × FlatStack)) → held.pop m ≡ o
        → option_and_then (λ (popped : Item × FlatStack). taken_onto n popped.1 (popped.0 ∷ xs)) o ≡ Some (items, k)
        → ((m k : FlatStack) (xs items : List Item) → taken_onto n m xs ≡ Some (items, k) → All (IsLiveItem (with_locals (own_locals m) reach)) xs
        → IsLiveStack t reach m → TakesLive t reach (own_locals m) items k) → TakesLive t reach (own_locals m) items k
    by_pop None p q f = cc
    by_pop (Some popped) p q f =
        let back = live_pop t reach m popped.1 popped.0 p l in
        let same : own_locals m ≡ own_locals popped.1 = pop_owner m popped.1 popped.0 p l.root in
        let others : All (IsLiveItem (with_locals (own_locals popped.1) reach)) xs = subst (λ (c : ℕ). All (IsLiveItem (with_locals c reach)) xs) same a in
        let rest = f popped.1 k (popped.0 ∷ xs) items q
        (All-cons (IsLiveItem (with_locals (own_locals popped.1) reach)) popped.0 xs back.item_live others) back.rest in
        record { items_live = rest.items_live; rest = rest.rest; same = same ∙ rest.same }

-- operands that are taken together are of the world, and so is what is left
pub live_taken : (t : Tables) (reach : Reach) (n : ℕ) (m k : FlatStack) (items : List Item) → take_operands n m ≡ Some (items, k) → IsLiveStack t reach m
    → TakesLive t reach (own_locals m) items k
live_taken t reach n m k items e l = live_onto t reach n m k [] items e (All-nil (IsLiveItem (with_locals (own_locals m) reach))) l

-- places that are filled from the last one on

drop_all : (s : List Item) → drop (length s) s ≡ []
drop_all [] = refl
drop_all (x ∷ s) = drop_all s

drop_set : (k : ℕ) (s : List Item) (x : Item) → k < length s → drop k (slice_set s k x) ≡ x ∷ drop (suc k) s
drop_set zero [] x p = absurd (omega arith)
drop_set zero (y ∷ s) x p = refl
drop_set (suc k) [] x p = absurd (omega arith)
drop_set (suc k) (y ∷ s) x p = drop_set k s x (omega arith)

pub none_taken : (m : FlatStack) (items : List Item) → take_operands (length items) m ≡ taken_onto (length items) m (drop (length items) items)
none_taken m items = ap (taken_onto (length items) m) (sym (drop_all items))

-- an operand is there where more are to be taken
pub pop_there : (n : ℕ) (m : FlatStack) (xs : List Item) → IsSome (taken_onto (suc n) m xs) → IsSome (held.pop m)
pop_there n m xs k = by_pop (held.pop m) k
  where
    by_pop : (o : Option (Item × FlatStack)) → IsSome (option_and_then (λ (popped : Item × FlatStack). taken_onto n popped.1 (popped.0 ∷ xs)) o) → IsSome o
    by_pop None q = q
    by_pop (Some p) q = refl

-- one more is taken
pub one_taken : (k : ℕ) (m n : FlatStack) (x : Item) (items : List Item) → k < length items → held.pop m ≡ Some (x, n)
    → taken_onto (suc k) m (drop (suc k) items) ≡ taken_onto k n (drop k (slice_set items k x))
one_taken k m n x items p e =
    ap (option_and_then (λ (popped : Item × FlatStack). taken_onto k popped.1 (popped.0 ∷ drop (suc k) items))) e
    ∙ ap (taken_onto k n) (sym (drop_set k items x p))

-- Values

-- the value of an item of the activation that runs, or why there is none
abbrev pub FindsItem : World → FlatStack → Item → Result Val Stop → Type 0
FindsItem w m item result = (st : Store Frames) → st.world ≡ world_of w
    → FindsValue (extent_of w.heap) (item_in (extent_of w.heap) item) (here flat (stack_in (extent_of w.heap) m) st) result

pub found_at : (w : World) (m k : FlatStack) (item : Item) (result : Result Val Stop) → k ≡ m → FindsItem w k item result → FindsItem w m item result
found_at w m k item result e f = subst (λ (x : FlatStack). FindsItem w x item result) e f

nothing_left : (items : List Item) → length items ≡ 0 → items ≡ []
nothing_left [] none = refl
nothing_left (item ∷ items) none = absurd (omega arith)

-- what comes of the values of items is what comes of those of the rest, behind those that were found
abbrev pub ValuesSo : World → FlatStack → List Item → List Val → List Item → Type 0
ValuesSo w m items vals rest = (st : Store Frames) (next : List Value → State Frames Frames) → st.world ≡ world_of w
    → with_values_in w m items st next ≡ with_values_in w m rest st (λ more. next (map (value_in (extent_of w.heap)) vals ++ more))

pub values_next : (w : World) (m : FlatStack) (items others rest : List Item) (vals more : List Val) (first : Item) (val : Val) → rest ≡ first ∷ others
    → more ≡ vals ++ val ∷ []
    → ((st : Store Frames)
    → st.world ≡ world_of w → FindsValue (extent_of w.heap) (item_in (extent_of w.heap) first) (here flat (stack_in (extent_of w.heap) m) st) (Ok val))
    → ValuesSo w m items vals rest → ValuesSo w m items more others
values_next w m items others rest vals more first val e p f so st next same =
    let all : Extent = extent_of w.heap in
    so st next same
    ∙ ap (λ (r : List Item). with_values_in w m r st (λ ys. next (map (value_in all) vals ++ ys))) e
    ∙ value_goes all (item_in all first) (stack_in all m) st val
    (λ value. with_values flat (map (item_in all) others) (stack_in all m) st (λ ys. next (map (value_in all) vals ++ value ∷ ys))) (f st same)
    ∙ behind
    ∙ ap (λ (xs : List Value). with_values_in w m others st (λ ys. next (xs ++ ys)))
    (sym (ap (map (value_in all)) p ∙ map-append (value_in all) vals (val ∷ [])))
  where
    behind : with_values_in w m others st (λ ys. next (map (value_in (extent_of w.heap)) vals ++ value_in (extent_of w.heap) val ∷ ys))
        ≡ with_values_in w m others st (λ ys. next ((map (value_in (extent_of w.heap)) vals ++ value_in (extent_of w.heap) val ∷ []) ++ ys))
    behind = simp append_assoc

pub values_stop : (result : Result Unit Stop) (w : World) (m : FlatStack) (items others rest : List Item) (vals after : List Val) (first : Item) (stop : Stop)
    → IsErrAnd result (λ s. s ≡ stop) → rest ≡ first ∷ others
    → ((st : Store Frames)
    → st.world ≡ world_of w → FindsValue (extent_of w.heap) (item_in (extent_of w.heap) first) (here flat (stack_in (extent_of w.heap) m) st) (Err stop))
    → ValuesSo w m items vals rest → FindsValues w m items after result
values_stop (Ok a) w m items others rest vals after first stop err e f so st next same = absurd err
values_stop (Err s) w m items others rest vals after first stop err e f so st next same =
    let all : Extent = extent_of w.heap in
    let go : with_values_in w m items st next ≡ with_values_in w m (first ∷ others) st (λ ys. next (map (value_in all) vals ++ ys))
    = so st next same ∙ ap (λ (r : List Item). with_values_in w m r st (λ ys. next (map (value_in all) vals ++ ys))) e in
    let at : HaltsWith (with_values_in w m (first ∷ others) st (λ ys. next (map (value_in all) vals ++ ys))) st w (stack_in all m) (halt_of stop)
    = value_halts w (item_in all first) (stack_in all m) st stop
    (λ value. with_values flat (map (item_in all) others) (stack_in all m) st (λ ys. next (map (value_in all) vals ++ value ∷ ys))) same (f st same) in
    subst (λ (z : Stop). HaltsWith (with_values_in w m items st next) st w (stack_in all m) (halt_of z)) (sym err)
    (subst (λ (x : State Frames Frames). HaltsWith x st w (stack_in all m) (halt_of stop)) (sym go) at)

pub values_found : (w : World) (m : FlatStack) (items rest : List Item) (vals : List Val) → length rest ≡ 0 → ValuesSo w m items vals rest
    → (st : Store Frames) (next : List Value → State Frames Frames) → st.world ≡ world_of w
    → with_values_in w m items st next ≡ next (map (value_in (extent_of w.heap)) vals)
values_found w m items rest vals z so st next same =
    so st next same
    ∙ ap (λ (r : List Item). with_values_in w m r st (λ ys. next (map (value_in (extent_of w.heap)) vals ++ ys))) (nothing_left rest z)
    ∙ ap next (append-nil (map (value_in (extent_of w.heap)) vals))

-- Values that are made

-- a world that keeps its items keeps them with no locals too
pub keeps_without_locals : (w v : World) (locals : List Val) → KeepsItems (reach_of w locals) (reach_of v locals) → KeepsItems (reach_of w []) (reach_of v [])
keeps_without_locals w v locals k = record { extent = k.extent; fields = k.fields; globals = k.globals; statics = k.statics; locals = refl }

-- the locals are set to what they are
pub locals_back : (t : Tables) (w v : World) (m : FlatStack) → KeepsItems (reach_of w []) (reach_of v []) → IsLiveStack t (reach_of w []) m
    → held.set_locals (held.locals m) m ≡ m
    → flat.set_locals (map (value_in (extent_of v.heap)) (held.locals m)) (stack_in (extent_of w.heap) m) ≡ stack_in (extent_of v.heap) m
locals_back t w v m k l s =
    ap (flat.set_locals (map (value_in (extent_of v.heap)) (held.locals m))) (sym (stack_same t (reach_of w []) (reach_of v []) m k l))
    ∙ set_locals_read (reading_of (extent_of v.heap)) (held.locals m) m
    ∙ ap (stack_in (extent_of v.heap)) s

pub made_goes : (t : Tables) (w v : World) (m : FlatStack) (row : Row) (val : Val) (st : Store Frames)
    (next : Value → Frames → Store Frames → State Frames Frames) → st.world ≡ world_of w → KeepsItems (reach_of w []) (reach_of v [])
    → IsLiveStack t (reach_of w []) m → held.set_locals (held.locals m) m ≡ m
    → row (setting_of st.outside w (held.locals m)) ≡ Gives (rows.Val (value_in (extent_of v.heap) val)) (setting_of st.outside v (held.locals m))
    → made_in row w m st next ≡ next (value_in (extent_of v.heap) val) (stack_in (extent_of v.heap) m) (with_world (world_of v) st)
made_goes t w v m row val st next same k l s r =
    ap (λ (x : Setting). with_made flat (row x) (stack_in (extent_of w.heap) m) st next) (here_is w m st same)
    ∙ ap (λ (o : Outcome). with_made flat o (stack_in (extent_of w.heap) m) st next) r
    ∙ ap (λ (a : Frames). next (value_in (extent_of v.heap) val) a (with_world (world_of v) st)) (locals_back t w v m k l s)

pub made_halts : (t : Tables) (w v : World) (m : FlatStack) (row : Row) (number : ℕ) (offending : Option Val) (st : Store Frames)
    (next : Value → Frames → Store Frames → State Frames Frames) → st.world ≡ world_of w → KeepsItems (reach_of w []) (reach_of v [])
    → IsLiveStack t (reach_of w []) m → held.set_locals (held.locals m) m ≡ m
    → row (setting_of st.outside w (held.locals m))
    ≡ Error number (option_map (value_in (extent_of v.heap)) offending) (setting_of st.outside v (held.locals m))
    → made_in row w m st next
    ≡ errs number (option_map (value_in (extent_of v.heap)) offending) (stack_in (extent_of v.heap) m) (with_world (world_of v) st)
made_halts t w v m row number offending st next same k l s r =
    ap (λ (x : Setting). with_made flat (row x) (stack_in (extent_of w.heap) m) st next) (here_is w m st same)
    ∙ ap (λ (o : Outcome). with_made flat o (stack_in (extent_of w.heap) m) st next) r
    ∙ ap (λ (a : Frames). errs number (option_map (value_in (extent_of v.heap)) offending) a (with_world (world_of v) st)) (locals_back t w v m k l s)

pub made_at : (row : Row) (w v : World) (m k : FlatStack) (result : Result Val Stop) → k ≡ m → MakesValue row w k v result → MakesValue row w m v result
made_at row w v m k result e f = subst (λ (x : FlatStack). MakesValue row w x v result) e f

-- a row that finds a new value and gives it
pub makes_value : (t : Tables) (w v : World) (m : FlatStack) (find : Finds Value) (result : Result Val Stop)
    → KeepsItems (reach_of w (held.locals m)) (reach_of v (held.locals m)) → IsLiveStack t (reach_of w []) m
    → held.set_locals (held.locals m) m ≡ m
    → ((outside : _)
    → IsFound (extent_of v.heap) find (setting_of outside w (held.locals m)) (setting_of outside v (held.locals m)) (value_in (extent_of v.heap)) result)
    → MakesValue (find gives_value) w m v result
makes_value t w v m find (Ok val) k l s f st next same =
    made_goes t w v m (find gives_value) val st next same (keeps_without_locals w v (held.locals m) k) l s (f st.outside gives_value)
makes_value t w v m find (Err (StopError number offending)) k l s f st next same =
    made_halts t w v m (find gives_value) number offending st next same (keeps_without_locals w v (held.locals m) k) l s (f st.outside gives_value)
makes_value t w v m find (Err StopNoMemory) k l s f st next same = tt

-- want of memory says nothing of what is looked for
pub values_lack : (result : Result Unit Stop) (w : World) (m : FlatStack) (items : List Item) (after : List Val) → IsErrAnd result (λ s. s ≡ StopNoMemory)
    → FindsValues w m items after result
values_lack (Ok a) w m items after err st next same = absurd err
values_lack (Err s) w m items after err st next same =
    subst (λ (z : Stop). HaltsWith (with_values_in w m items st next) st w (stack_in (extent_of w.heap) m) (halt_of z)) (sym err) tt
