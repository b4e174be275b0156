-- Operands that are taken for their values.
use Rattle.std.proofs.Common.{◌≡◌, ℕ, List, [], ◌∷◌, Option, Some, None, IsSome, Result, Ok, Err, refl, sym, ap, ◌∙◌, subst}
use Rattle.std.specs.Option.{option_and_then}
use Rattle.std.specs.Prelude.{IfSome}
use Rattle.icn_value.specs.declared.val.Val.{Val}
use Rattle.icn_value.specs.declared.val.Val.TheVariants as Vals
use Rattle.icn_value.specs.declared.item.Item.{Item}
use Rattle.icn_value.specs.Values.{Value}
use Rattle.icn_heap.specs.Extents.{Extent, value_in}
use Rattle.icn_heap.specs.Heaps.{extent_of}
use Rattle.icn_vars.specs.declared.stop.Stop.{Stop}
use Rattle.icn_vars.specs.declared.world.World.{World}
use Rattle.icn_vars.specs.Stops.{halt_of}
use Rattle.icn_vars.specs.Worlds.{IsLiveItem, Reach, item_in, world_of}
use Rattle.icn_frames.specs.declared.layout.Cell.TheVariants.{Operand}
use Rattle.icn_frames.specs.Stacks as held
use Rattle.icn_frames.specs.Stacks.{FlatStack}
use Rattle.law_frames.proofs.CallsRead.{taken_pop}
use Rattle.icn_code.specs.Codes.{Tables}
use Rattle.icn_run.specs.Rows as rows
use Rattle.icn_run.specs.Stacks as code
use Rattle.icn_run.specs.Stacks.{Frames, flat}
use Rattle.icn_run.specs.Step.{State, Store, activation, errs, here, on_pair, refresh, with_found, with_popped, with_taken, with_value}
use Rattle.icn_control.specs.LiveStacks.{with_locals, IsLiveStack}
use Rattle.icn_control.specs.Operands.{TakesTop, TakesTwo, coexp_number, with_top, with_two}
use Rattle.icn_control.specs.StackAndWorld.{FindsValue, HaltsWith}
use Rattle.icn_control.specs.StackViews.{stack_in}
use Rattle.icn_control.proofs.LiveCells.{owner_on}
use Rattle.icn_control.proofs.LiveCalls.{live_pop, own_locals}
use Rattle.icn_control.proofs.StackAndWorldSteps.{popped_halts, popped_value, value_goes, value_halts}
use Rattle.icn_control.proofs.StackSteps.{popped_runs, pushed_back}

-- the value of an item on a stack
abbrev pub Finds : World → FlatStack → Item → Result Val Stop → Type 0
Finds w m item result = (st : Store Frames) → st.world ≡ world_of w
    → FindsValue (extent_of w.heap) (item_in (extent_of w.heap) item) (here flat (stack_in (extent_of w.heap) m) st) result

-- the same on a stack that is the same
pub finds_on : (w : World) (m n : FlatStack) (item : Item) (result : Result Val Stop) → m ≡ n → Finds w m item result → Finds w n item result
finds_on w m n item result e h = subst (λ (x : FlatStack). Finds w x item result) e h

pub top_taken : (w : World) (m k n : FlatStack) (item : Item) (result : Result Val Stop) → held.pop m ≡ Some (item, k) → n ≡ k → Finds w k item result
    → TakesTop w m n result
top_taken w m k n item (Ok val) e p h st next same =
    popped_value w m k item val e st (h st same) next ∙ ap (λ (x : FlatStack). next (value_in (extent_of w.heap) val) (stack_in (extent_of w.heap) x)) (sym p)
top_taken w m k n item (Err stop) e p h st next same =
    subst (λ (x : FlatStack). HaltsWith (with_top (stack_in (extent_of w.heap) m) st next) st w (stack_in (extent_of w.heap) x) (halt_of stop)) (sym p)
    (popped_halts w m k item stop e st same (h st same) next)

-- two of them, up to their values
two_popped : (w : World) (m l k : FlatStack) (upper lower : Item) → held.pop m ≡ Some (upper, l) → held.pop l ≡ Some (lower, k)
    → (st : Store Frames) (next : Value → Value → Frames → State Frames Frames)
    → with_two (stack_in (extent_of w.heap) m) st next
    ≡ with_value flat (item_in (extent_of w.heap) lower) (stack_in (extent_of w.heap) k) st (λ first. with_value flat (item_in (extent_of w.heap) upper)
    (stack_in (extent_of w.heap) k) st (λ second. next first second (stack_in (extent_of w.heap) k)))
two_popped w m l k upper lower e f st next =
    let all : Extent = extent_of w.heap in
    popped_runs m l upper e all (λ u x. with_popped flat x (λ i y. with_value flat i y st (λ first. with_value flat u y st (λ second. next first second y))))
    ∙ popped_runs l k lower f all (λ i y. with_value flat i y st (λ first. with_value flat (item_in all upper) y st (λ second. next first second y)))

pub two_found : (w : World) (m l k n : FlatStack) (upper lower : Item) (first second : Val) → held.pop m ≡ Some (upper, l) → held.pop l ≡ Some (lower, k)
    → n ≡ k → Finds w k lower (Ok first) → Finds w k upper (Ok second)
    → TakesTwo w m n (Ok (first, second))
two_found w m l k n upper lower first second e f p g h st next same =
    let all : Extent = extent_of w.heap in
    two_popped w m l k upper lower e f st next
    ∙ value_goes all (item_in all lower) (stack_in all k) st first
    (λ x. with_value flat (item_in all upper) (stack_in all k) st (λ y. next x y (stack_in all k))) (g st same)
    ∙ value_goes all (item_in all upper) (stack_in all k) st second (λ y. next (value_in all first) y (stack_in all k)) (h st same)
    ∙ ap (λ (x : FlatStack). next (value_in all first) (value_in all second) (stack_in all x)) (sym p)

pub first_stops : (w : World) (m l k n : FlatStack) (upper lower : Item) (stop : Stop) → held.pop m ≡ Some (upper, l) → held.pop l ≡ Some (lower, k)
    → n ≡ k → Finds w k lower (Err stop) → TakesTwo w m n (Err stop)
first_stops w m l k n upper lower stop e f p g st next same =
    let all : Extent = extent_of w.heap in
    subst (λ (x : FlatStack). HaltsWith (with_two (stack_in all m) st next) st w (stack_in all x) (halt_of stop)) (sym p)
    (subst (λ (s : State Frames Frames). HaltsWith s st w (stack_in all k) (halt_of stop)) (sym (two_popped w m l k upper lower e f st next))
    (value_halts w (item_in all lower) (stack_in all k) st stop
    (λ x. with_value flat (item_in all upper) (stack_in all k) st (λ y. next x y (stack_in all k))) same (g st same)))

pub second_stops : (w : World) (m l k n : FlatStack) (upper lower : Item) (first : Val) (stop : Stop) → held.pop m ≡ Some (upper, l)
    → held.pop l ≡ Some (lower, k) → n ≡ k → Finds w k lower (Ok first) → Finds w k upper (Err stop)
    → TakesTwo w m n (Err stop)
second_stops w m l k n upper lower first stop e f p g h st next same =
    let all : Extent = extent_of w.heap in
    let to : with_two (stack_in all m) st next ≡ with_value flat (item_in all upper) (stack_in all k) st (λ y. next (value_in all first) y (stack_in all k))
    = two_popped w m l k upper lower e f st next
    ∙ value_goes all (item_in all lower) (stack_in all k) st first
    (λ x. with_value flat (item_in all upper) (stack_in all k) st (λ y. next x y (stack_in all k))) (g st same) in
    subst (λ (x : FlatStack). HaltsWith (with_two (stack_in all m) st next) st w (stack_in all x) (halt_of stop)) (sym p)
    (subst (λ (s : State Frames Frames). HaltsWith s st w (stack_in all k) (halt_of stop)) (sym to)
    (value_halts w (item_in all upper) (stack_in all k) st stop (λ y. next (value_in all first) y (stack_in all k)) same (h st same)))

-- two operands that are taken are of the world
pub record TwoLive (t : Tables) (reach : Reach) (upper lower : Item) (n : FlatStack) : Type 0 where
  pub upper_live : IsLiveItem (with_locals (own_locals n) reach) upper
  pub lower_live : IsLiveItem (with_locals (own_locals n) reach) lower
  pub rest : IsLiveStack t reach n

same_own : (t : Tables) (reach : Reach) (l k : FlatStack) (lower : Item) → held.pop l ≡ Some (lower, k) → IsLiveStack t reach l → own_locals l ≡ own_locals k
same_own t reach l k lower e live =
    let rest = (live_pop t reach l k lower e live).rest in
    ap own_locals (sym (pushed_back l k lower e)) ∙ owner_on (Operand lower) k.cells k.registers rest.root

pub two_live : (t : Tables) (reach : Reach) (m l k : FlatStack) (upper lower : Item) → held.pop m ≡ Some (upper, l) → held.pop l ≡ Some (lower, k)
    → IsLiveStack t reach m → TwoLive t reach upper lower k
two_live t reach m l k upper lower e f live =
    let first = live_pop t reach m l upper e live in
    let second = live_pop t reach l k lower f first.rest in
    record {
      upper_live = subst (λ (n : ℕ). IsLiveItem (with_locals n reach) upper) (same_own t reach l k lower f first.rest) first.item_live;
      lower_live = second.item_live;
      rest = second.rest;
    }

-- Operands that are taken together are taken one by one.

one_by : (next : List rows.Item → Frames → State Frames Frames) (o : Option (rows.Item × Frames))
    → with_found (option_and_then (λ (popped : rows.Item × Frames). code.take_top 0 popped.1 popped.1.cells (popped.0 ∷ [])) o) (on_pair next)
    ≡ with_found o (on_pair (λ item n. next (item ∷ []) n))
one_by next None = refl
one_by next (Some popped) = refl

pub one_popped : (m : Frames) (next : List rows.Item → Frames → State Frames Frames)
    → with_taken flat 1 m next ≡ with_popped flat m (λ item n. next (item ∷ []) n)
one_popped m next = ap (λ (o : Option (List rows.Item × Frames)). with_found o (on_pair next)) (taken_pop 0 m []) ∙ one_by next (code.pop m)

second_by : (next : List rows.Item → Frames → State Frames Frames) (upper : rows.Item) (o : Option (rows.Item × Frames))
    → with_found (option_and_then (λ (popped : rows.Item × Frames). code.take_top 0 popped.1 popped.1.cells (popped.0 ∷ upper ∷ [])) o) (on_pair next)
    ≡ with_found o (on_pair (λ lower n. next (lower ∷ upper ∷ []) n))
second_by next upper None = refl
second_by next upper (Some popped) = refl

first_by : (next : List rows.Item → Frames → State Frames Frames) (o : Option (rows.Item × Frames))
    → with_found (option_and_then (λ (popped : rows.Item × Frames). code.take_top 1 popped.1 popped.1.cells (popped.0 ∷ [])) o) (on_pair next)
    ≡ with_found o (on_pair (λ upper n. with_popped flat n (λ lower k. next (lower ∷ upper ∷ []) k)))
first_by next None = refl
first_by next (Some popped) =
    ap (λ (o : Option (List rows.Item × Frames)). with_found o (on_pair next)) (taken_pop 0 popped.1 (popped.0 ∷ []))
    ∙ second_by next popped.0 (code.pop popped.1)

pub two_by_one : (m : Frames) (next : List rows.Item → Frames → State Frames Frames)
    → with_taken flat 2 m next ≡ with_popped flat m (λ upper n. with_popped flat n (λ lower k. next (lower ∷ upper ∷ []) k))
two_by_one m next = ap (λ (o : Option (List rows.Item × Frames)). with_found o (on_pair next)) (taken_pop 1 m []) ∙ first_by next (code.pop m)

-- Co-expressions among the values

pub number_is : (v : Val) (id : ℕ) → Some id ≡ coexp_number v → v ≡ Vals.Coexp id
number_is (Vals.Coexp number) id e = let q : number ≡ id = cc in ap (λ (n : ℕ). Vals.Coexp n) q
number_is Vals.Null id e = cc
number_is (Vals.Integer n) id e = cc
number_is (Vals.Text span) id e = cc
number_is (Vals.Chars cset) id e = cc
number_is (Vals.Std file) id e = cc
number_is (Vals.Proc number) id e = cc
number_is (Vals.Rec number) id e = cc
number_is (Vals.List number) id e = cc
number_is (Vals.Set number) id e = cc
number_is (Vals.Table number) id e = cc

-- what is no co-expression is not activated
pub not_activated : (all : Extent) (first : Value) (v : Val) (m : Frames) (st : Store Frames) → None ≡ coexp_number v
    → activation flat first (value_in all v) m st ≡ errs 118 (Some (value_in all v)) m st
not_activated all first (Vals.Coexp number) m st e = cc
not_activated all first Vals.Null m st e = refl
not_activated all first (Vals.Integer n) m st e = refl
not_activated all first (Vals.Text span) m st e = refl
not_activated all first (Vals.Chars cset) m st e = refl
not_activated all first (Vals.Std file) m st e = refl
not_activated all first (Vals.Proc number) m st e = refl
not_activated all first (Vals.Rec number) m st e = refl
not_activated all first (Vals.List number) m st e = refl
not_activated all first (Vals.Set number) m st e = refl
not_activated all first (Vals.Table number) m st e = refl

-- and not made anew
pub not_refreshed : (all : Extent) (v : Val) (m : Frames) (st : Store Frames) → None ≡ coexp_number v
    → refresh flat (value_in all v) m st ≡ errs 118 (Some (value_in all v)) m st
not_refreshed all (Vals.Coexp number) m st e = cc
not_refreshed all Vals.Null m st e = refl
not_refreshed all (Vals.Integer n) m st e = refl
not_refreshed all (Vals.Text span) m st e = refl
not_refreshed all (Vals.Chars cset) m st e = refl
not_refreshed all (Vals.Std file) m st e = refl
not_refreshed all (Vals.Proc number) m st e = refl
not_refreshed all (Vals.Rec number) m st e = refl
not_refreshed all (Vals.List number) m st e = refl
not_refreshed all (Vals.Set number) m st e = refl
not_refreshed all (Vals.Table number) m st e = refl

-- nor is `&main`
pub main_refused : (all : Extent) (v : Val) (m : Frames) (st : Store Frames) → v ≡ Vals.Coexp 0
    → refresh flat (value_in all v) m st ≡ errs 215 (Some (value_in all v)) m st
main_refused all v m st e =
    ap (λ (x : Val). refresh flat (value_in all x) m st) e ∙ ap (λ (x : Val). errs 215 (Some (value_in all x)) m st) (sym e)

-- a second operand is there
pub second_there : (m l : FlatStack) (upper : Item) → held.pop m ≡ Some (upper, l) → IfSome (held.pop m) (λ popped. IsSome (held.pop popped.1))
    → (both : Item × FlatStack) × (held.pop l ≡ Some both)
second_there m l upper e k = by_pop (held.pop l) (subst (λ (o : Option (Item × FlatStack)). IfSome o (λ popped. IsSome (held.pop popped.1))) e k)
  where
    by_pop : (o : Option (Item × FlatStack)) → IsSome o → (both : Item × FlatStack) × (o ≡ Some both)
    by_pop (Some both) q = (both, refl)
    by_pop None q = cc
