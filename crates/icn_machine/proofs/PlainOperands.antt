-- Operands that slots tell: integers, and locals that hold them.
use Rattle.std.proofs.Common.{◌≡◌, ℕ, ℤ, ◌<◌, List, [], ◌∷◌, length, map, slice_get, Option, Some, None, IfSome, IsSome, refl, sym, ap, ◌∙◌, subst}
use Rattle.std.proofs.lemmas.List.Elements.{All-head, All-tail}
use Rattle.std.proofs.lemmas.Option.{same_Some, slice_get-get_or, slice_get-map}
use Rattle.std.specs.Prelude.{get_or}
use Rattle.std.specs.Option.{option_and_then, option_map}
use Rattle.icn_text.specs.declared.op.Op.{Op}
use Rattle.icn_value.specs.declared.item.Item.{Item}
use Rattle.icn_value.specs.declared.item.Item.TheVariants as Items
use Rattle.icn_value.specs.declared.val.Val.{Val}
use Rattle.icn_value.specs.declared.val.Val.TheVariants as Vals
use Rattle.icn_value.specs.Store.{Names}
use Rattle.icn_value.specs.Values.{Value}
use Rattle.law_rows.proofs.EachOfList.{Each, each_get}
use Rattle.icn_heap.specs.Extents.{Extent, value_in}
use Rattle.law_names.specs.NamedSettings.{ItemNamed, ValueNamed}
use Rattle.icn_vars.specs.Worlds.{IsLiveItem, Reach, item_in}
use Rattle.icn_frames.proofs.HeightsRead.{some_is}
use Rattle.icn_frames.specs.CalledWith.{HoldsValue, as_local as held_local, as_value as held_value, operands_above}
use Rattle.icn_frames.specs.declared.layout.Cell.{Cell}
use Rattle.icn_frames.specs.declared.layout.Cell.TheVariants.{Operand}
use Rattle.icn_frames.specs.Slots.{plain_local, plain_operand}
use Rattle.icn_frames.specs.declared.slots.StackSlot.{StackSlot}
use Rattle.icn_frames.specs.Stacks as held
use Rattle.icn_frames.specs.Stacks.{FlatStack}
use Rattle.law_frames.proofs.CallsRead.{locals_read}
use Rattle.icn_code.specs.Codes.{Tables}
use Rattle.law_steps.proofs.CallsNamed as named
use Rattle.icn_control.specs.LiveStacks.{IsLiveStack, with_locals}
use Rattle.icn_control.specs.StackViews.{reading_of, stack_in}
use Rattle.icn_control.specs.TakenOperands.{take_operands, taken_onto}
use Rattle.icn_control.proofs.LiveCalls.{live_pop, own_locals, pop_owner}
use Rattle.icn_control.proofs.StackSteps.{pushed_back}
use Rattle.icn_control.proofs.TakenOperandSteps.{live_taken}
use Rattle.icn_machine.specs.PlainOperations.{Computes, HasValueOf, HoldsInteger, IsLocalSlot, NamesOwnLocal, TakesSlots, TellIntegers, TellsInteger, as_local, as_value, integer_result, local_item}

-- Two operands that are there

pub record TwoThere (m : FlatStack) : Type 0 where
  pub upper : Item
  pub rest : FlatStack
  pub lower : Item
  pub left : FlatStack
  pub first : held.pop m ≡ Some (upper, rest)
  pub second : held.pop rest ≡ Some (lower, left)

below_there : (m : FlatStack) (top : Item × FlatStack) (o : Option (Item × FlatStack)) → held.pop m ≡ Some top → held.pop top.1 ≡ o
    → IsSome (option_and_then (λ (popped : Item × FlatStack). taken_onto 0 popped.1 (popped.0 ∷ top.0 ∷ [])) o) → TwoThere m
below_there m top (Some next) e f q = record { upper = top.0; rest = top.1; lower = next.0; left = next.1; first = e; second = f }
below_there m top None e f q = cc

pub two_there : (m : FlatStack) → IsSome (take_operands 2 m) → TwoThere m
two_there m there = by_popped (held.pop m) refl there
  where
    by_popped : (o : Option (Item × FlatStack)) → held.pop m ≡ o
        → IsSome (option_and_then (λ (popped : Item × FlatStack). taken_onto 1 popped.1 (popped.0 ∷ [])) o) → TwoThere m
    by_popped (Some top) e q = below_there m top (held.pop top.1) e refl q
    by_popped None e q = cc

-- the operand below the top one is there
pub second_there : (m d : FlatStack) (two : TwoThere m) → d ≡ two.rest → IsSome (held.pop d)
second_there m d two e = subst (λ (x : FlatStack). IsSome (held.pop x)) (sym e) (subst IsSome (sym two.second) refl)

-- the stack that is left, by another name
pub popped_to : (m r d : FlatStack) (x : Item) → held.pop m ≡ Some (x, r) → d ≡ r → held.pop m ≡ Some (x, d)
popped_to m r d x e f =
    let F : FlatStack → Option (Item × FlatStack) = λ y. Some (x, y) in
    e ∙ ap F (sym f)

-- both, taken
pub two_taken : (m r k : FlatStack) (x y : Item) → held.pop m ≡ Some (y, r) → held.pop r ≡ Some (x, k) → take_operands 2 m ≡ Some (x ∷ y ∷ [], k)
two_taken m r k x y e f =
    ap (option_and_then (λ (popped : Item × FlatStack). taken_onto 1 popped.1 (popped.0 ∷ []))) e
    ∙ ap (option_and_then (λ (popped : Item × FlatStack). taken_onto 0 popped.1 (popped.0 ∷ y ∷ []))) f

-- what was taken is put back
pub taken_back : (m k : FlatStack) (x y : Item) → take_operands 2 m ≡ Some (x ∷ y ∷ [], k) → held.push y (held.push x k) ≡ m
taken_back m k x y e =
    let there : TwoThere m = two_there m (subst IsSome (sym e) refl) in
    let same : Some (there.lower ∷ there.upper ∷ [], there.left) ≡ Some (x ∷ y ∷ [], k)
    = sym (two_taken m there.rest there.left there.lower there.upper there.first there.second) ∙ e in
    let pair : (there.lower ∷ there.upper ∷ [], there.left) ≡ (x ∷ y ∷ [], k) = same_Some _ _ same in
    let F : List Item × FlatStack → FlatStack = λ p. held.push (second_of p.0) (held.push (first_of p.0) p.1) in
    sym (ap F pair) ∙ ap (held.push there.upper) (pushed_back there.rest there.left there.lower there.second)
    ∙ pushed_back m there.rest there.upper there.first
  where
    first_of : List Item → Item
    first_of (a ∷ items) = a
    first_of [] = x

    second_of : List Item → Item
    second_of (a ∷ b ∷ items) = b
    second_of (a ∷ []) = y
    second_of [] = y

-- Locals

-- an operand that is taken is a local of the activation, if it is one
own_local : (reach : Reach) (k : FlatStack) (slot : StackSlot) (x : Item) → plain_operand slot ≡ Some x
    → IsLiveItem (with_locals (own_locals k) reach) x → NamesOwnLocal k slot
own_local reach k slot x e live index is =
    let same : x ≡ local_item index = same_Some x (local_item index) (sym e ∙ is) in
    let own : IsLiveItem (with_locals (own_locals k) reach) (local_item index)
    = subst (λ (y : Item). IsLiveItem (with_locals (own_locals k) reach) y) same live in
    own.live.live.live

pub lower_own : (t : Tables) (reach : Reach) (m k : FlatStack) (slots : StackSlot × StackSlot) → TakesSlots m k slots → IsLiveStack t reach m
    → NamesOwnLocal k slots.0
lower_own t reach m k slots takes l =
    let live = (live_taken t reach 2 m k (takes.first ∷ takes.second ∷ []) takes.taken l).items_live in
    own_local reach k slots.0 takes.first takes.lower (All-head (IsLiveItem (with_locals (own_locals k) reach)) takes.first (takes.second ∷ []) live)

pub upper_own : (t : Tables) (reach : Reach) (m k : FlatStack) (slots : StackSlot × StackSlot) → TakesSlots m k slots → IsLiveStack t reach m
    → NamesOwnLocal k slots.1
upper_own t reach m k slots takes l =
    let P : Item → Type 0 = IsLiveItem (with_locals (own_locals k) reach) in
    let live = (live_taken t reach 2 m k (takes.first ∷ takes.second ∷ []) takes.taken l).items_live in
    own_local reach k slots.1 takes.second takes.upper (All-head P takes.second [] (All-tail P takes.first (takes.second ∷ []) live))

-- the value of a local is that which its slot tells
pub local_told : (vs : List Val) (index count : ℕ) (slot : StackSlot) (n : ℤ) → index < count → count ≡ length vs
    → ((v : Val) → slice_get vs index ≡ Some v → (w : Val) → plain_local slot ≡ Some w → v ≡ w) → plain_local slot ≡ Some (Vals.Integer n)
    → slice_get vs index ≡ Some (Vals.Integer n)
local_told vs index count slot n within same told e =
    let there : slice_get vs index ≡ Some (get_or vs index Vals.Null)
    = slice_get-get_or vs index Vals.Null (subst (λ (c : ℕ). index < c) same within) in
    there ∙ ap (λ (v : Val). Some v) (told (get_or vs index Vals.Null) there (Vals.Integer n) e)

-- the value of an operand names only what has a name
pub value_named : (names : Names) (all : Extent) (k : FlatStack) (item : Item) (v : Val) → named.NamedStack names (stack_in all k)
    → ItemNamed names (item_in all item) → HoldsValue (held.locals k) item v → ValueNamed names (value_in all v)
value_named names all k item v h i (held_value e) =
    let one : ItemNamed names (item_in all (Items.Val v)) = subst (λ (x : Item). ItemNamed names (item_in all x)) e i in
    one.named
value_named names all k item v h i (held_local index e there) =
    let locals : Each (ValueNamed names) (map (value_in all) (held.locals k))
    = subst (λ (vs : List Value). Each (ValueNamed names) vs) (locals_read (reading_of all) k) (named.locals names (stack_in all k) h) in
    each_get (ValueNamed names) (map (value_in all) (held.locals k)) index (value_in all v) locals
    (slice_get-map (value_in all) (held.locals k) index ∙ ap (option_map (value_in all)) there)

-- Integers that slots tell

pub value_tells : (vs : List Val) (slot : StackSlot) (n : ℤ) → plain_operand slot ≡ Some (Items.Val (Vals.Integer n)) → TellsInteger vs slot n
value_tells vs slot n is = (Items.Val (Vals.Integer n), (is, as_value refl))

pub local_tells : (vs : List Val) (slot : StackSlot) (index : ℕ) (r : Option ℤ) → plain_operand slot ≡ Some (local_item index)
    → IfSome r (λ n. slice_get vs index ≡ Some (Vals.Integer n)) → IfSome r (TellsInteger vs slot)
local_tells vs slot index (Some n) is there = (local_item index, (is, as_local index refl there))
local_tells vs slot index None is there = tt

-- Locals that have the value of an operand

-- the slot of a local tells its value
pub slot_of_local : (vs : List Val) (index count : ℕ) (slot : StackSlot) → index < count → count ≡ length vs
    → ((v : Val) → slice_get vs index ≡ Some v → (w : Val) → plain_local slot ≡ Some w → v ≡ w) → IsSome (plain_local slot)
    → IsLocalSlot vs index slot
slot_of_local vs index count slot within same told plain =
    let there : slice_get vs index ≡ Some (get_or vs index Vals.Null)
    = slice_get-get_or vs index Vals.Null (subst (λ (c : ℕ). index < c) same within) in
    let y = some_is (plain_local slot) plain in
    record {
      is = y.0;
      there = there ∙ ap (λ (v : Val). Some v) (told (get_or vs index Vals.Null) there y.0 y.1);
      gives = y.1;
    }

-- an operand is a local
pub local_had : (vs : List Val) (slot : StackSlot) (index : ℕ) (r : Option StackSlot) → plain_operand slot ≡ Some (local_item index)
    → IfSome r (IsLocalSlot vs index) → IfSome r (HasValueOf vs slot)
local_had vs slot index (Some local) e t =
    record { item = local_item index; is = t.is; tells = e; gives = t.gives; holds = held_local index refl t.there }
local_had vs slot index None e t = tt

-- an operand is an integer
pub integer_had : (vs : List Val) (slot local : StackSlot) (n : ℤ) → plain_operand slot ≡ Some (Items.Val (Vals.Integer n))
    → plain_local local ≡ Some (Vals.Integer n) → HasValueOf vs slot local
integer_had vs slot local n e gives = record { item = Items.Val (Vals.Integer n); is = Vals.Integer n; tells = e; gives = gives; holds = held_value refl }

-- Arithmetic

pub computes_so : (op : Op) (vs : List Val) (slots : StackSlot × StackSlot) (a b : ℤ) (r : Option ℤ) → TellIntegers vs slots (a, b)
    → r ≡ integer_result op a b → IfSome r (Computes op vs slots)
computes_so op vs slots a b (Some n) t e = record { two = (a, b); of = t; is = sym e }
computes_so op vs slots a b None t e = tt

-- what a slot that tells an integer says of the operand
pub holds_of : (vs : List Val) (slot : StackSlot) (n : ℤ) (x : Item) → TellsInteger vs slot n → plain_operand slot ≡ Some x → HoldsInteger vs x n
holds_of vs slot n x t e = subst (λ (y : Item). HoldsInteger vs y n) (same_Some t.0 x (sym t.1.0 ∙ e)) t.1.1

-- Operands below others

-- a slot tells the operand below so many others
abbrev pub TellsBelow : ℕ → FlatStack → StackSlot → Type 0
TellsBelow count m slot = (x y : Item) (items : List Item) (rest : List Cell) → m.cells ≡ operands_above items (Operand x ∷ rest)
    → length items ≡ count → plain_operand slot ≡ Some y → x ≡ y

popped_cells : (m k : FlatStack) (x : Item) → held.pop m ≡ Some (x, k) → m.cells ≡ Operand x ∷ k.cells
popped_cells m k x e = ap (λ (y : FlatStack). y.cells) (sym (pushed_back m k x e))

own_at : (t : Tables) (reach : Reach) (m k : FlatStack) (slot : StackSlot) (x : Item) → held.pop m ≡ Some (x, k) → IsLiveStack t reach m
    → plain_operand slot ≡ Some x → NamesOwnLocal m slot
own_at t reach m k slot x e l told index is =
    let back = live_pop t reach m k x e l in
    let same : own_locals m ≡ own_locals k = pop_owner m k x e l.root in
    subst (λ (c : ℕ). index < c) (sym same) (own_local reach k slot x told back.item_live index is)

-- the upper of two operands is a local of the activation, if it is one
pub upper_named : (t : Tables) (reach : Reach) (m : FlatStack) (slot : StackSlot) → IsSome (take_operands 2 m) → IsLiveStack t reach m → TellsBelow 0 m slot
    → NamesOwnLocal m slot
upper_named t reach m slot there l tells index is =
    let two = two_there m there in
    let same : two.upper ≡ local_item index = tells two.upper (local_item index) [] two.rest.cells (popped_cells m two.rest two.upper two.first) refl is in
    own_at t reach m two.rest slot two.upper two.first l (is ∙ ap (λ (x : Item). Some x) (sym same)) index is

-- and the lower one
pub lower_named : (t : Tables) (reach : Reach) (m : FlatStack) (slot : StackSlot) → IsSome (take_operands 2 m) → IsLiveStack t reach m → TellsBelow 1 m slot
    → NamesOwnLocal m slot
lower_named t reach m slot there l tells index is =
    let two = two_there m there in
    let cells : m.cells ≡ operands_above (two.upper ∷ []) (Operand two.lower ∷ two.left.cells)
    = popped_cells m two.rest two.upper two.first
    ∙ ap (λ (cs : List Cell). Operand two.upper ∷ cs) (popped_cells two.rest two.left two.lower two.second) in
    let same : two.lower ≡ local_item index = tells two.lower (local_item index) (two.upper ∷ []) two.left.cells cells refl is in
    let back = live_pop t reach m two.rest two.upper two.first l in
    let own : index < own_locals two.rest
    = own_at t reach two.rest two.left slot two.lower two.second back.rest (is ∙ ap (λ (x : Item). Some x) (sym same)) index is in
    subst (λ (c : ℕ). index < c) (sym (pop_owner m two.rest two.upper two.first l.root)) own
