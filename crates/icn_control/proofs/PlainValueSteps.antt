-- Values that slots tell, as the instructions find them.
use Rattle.std.proofs.Common.{◌≡◌, ℕ, ℤ, suc, ◌+◌, ◌<◌, true, false, List, [], ◌∷◌, length, slice_get, Option, Some, None, IfSome, IsSome, Ok, is_some, refl, sym, ap, ◌∙◌, subst, arith}
use Rattle.std.proofs.lemmas.Option.{same_Some, slice_get-map, slice_get-get_or}
use Rattle.std.specs.Option.{option_and_then, option_map}
use Rattle.std.specs.Prelude.{get_or, unwrap_or}
use Rattle.icn_value.specs.declared.item.Item.{Item}
use Rattle.icn_value.specs.declared.item.Item.TheVariants as Items
use Rattle.icn_value.specs.declared.val.Val.{Val}
use Rattle.icn_value.specs.declared.val.Val.TheVariants as Vals
use Rattle.icn_value.specs.Store.{value_at}
use Rattle.icn_value.specs.Values as values
use Rattle.icn_value.specs.Values.{Value}
use Rattle.icn_defs.specs.Rows.{Gives}
use Rattle.icn_heap.specs.Extents.{Extent, IsLive, value_in}
use Rattle.icn_heap.specs.Heaps.{extent_of}
use Rattle.icn_heap.proofs.ListChanges.{get_live}
use Rattle.icn_vars.specs.declared.world.World.{World}
use Rattle.icn_vars.specs.Worlds.{IsLiveItem, Reach, item_in}
use Rattle.icn_frames.specs.CalledWith.{DropsWith, HasOperands, HoldsValue, as_local, as_value, local_variable, operands_above}
use Rattle.icn_frames.specs.Slots.{plain_local, plain_operand, plain_value, value_only}
use Rattle.icn_frames.specs.declared.layout.Cell.{Cell}
use Rattle.icn_frames.specs.declared.layout.Cell.TheVariants.{Base, Call, Local, Mark, Limit as LimitMark, Suspension, Operand}
use Rattle.icn_frames.specs.declared.slots.StackSlot.{StackSlot}
use Rattle.icn_frames.specs.declared.slots.StackSlot.TheVariants.{VarLocal}
use Rattle.icn_frames.specs.Stacks as held
use Rattle.icn_frames.specs.Stacks.{FlatStack}
use Rattle.law_frames.proofs.CallsRead.{locals_read}
use Rattle.icn_code.specs.Codes.{Tables}
use Rattle.icn_code.specs.declared.instr.Instr.TheVariants.{Limit, Psusp}
use Rattle.icn_run.specs.Rows as rows
use Rattle.icn_run.specs.Rows.{value_row}
use Rattle.icn_run.specs.Stacks.{Frames, flat}
use Rattle.icn_run.specs.Step.{Store, here, with_result}
use Rattle.icn_control.specs.LiveStacks.{IsLiveStack, StaysLive, with_locals}
use Rattle.icn_control.specs.PlainValues.{TakesValue, TellsLimit, TellsValue}
use Rattle.icn_control.specs.StackAndWorld.{ComesWith, FindsValue, RunsAlone, natural_of}
use Rattle.icn_control.specs.StackViews.{reading_of, stack_in}
use Rattle.icn_control.specs.declared.machine.RunState.TheVariants as RunStates
use Rattle.icn_control.proofs.LiveCalls.{live_pop, own_locals, pop_owner}
use Rattle.icn_control.proofs.OperandValues.{live_locals}
use Rattle.icn_control.proofs.ReturnSteps.{Finds, local_result, psusp_runs, suspended_free, swaps_none}
use Rattle.icn_control.proofs.StackAndWorldSteps.{limit_more, limit_zero, value_goes}
use Rattle.icn_control.proofs.StackSteps.{PlainTop, TellsTop, plain_top, pushed_back}

-- What slots tell

some_there : {T : Type 0} (o : Option T) → is_some o ≡ true → (x : T) × (o ≡ Some x)
some_there (Some x) e = (x, refl)
some_there None e = cc

only_value : (o : Option Item) → IsSome (option_and_then value_only o) → (v : Val) × (o ≡ Some (Items.Val v))
only_value (Some (Items.Val v)) k = (v, refl)
only_value (Some (Items.Var variable)) k = cc
only_value None k = cc

mapped : (o : Option Val) (p : Option Item) → p ≡ option_map Items.Val o → is_some p ≡ true → (v : Val) × ((o ≡ Some v) × (p ≡ Some (Items.Val v)))
mapped (Some v) p e some = (v, (refl, e))
mapped None p e some = cc

-- a value tells itself
pub own_told : (vs : List Val) (slot : StackSlot) → IsSome (plain_value slot) → TellsValue vs slot slot
own_told vs slot plain =
    let one = only_value (plain_operand slot) plain in
    record { item = Items.Val one.0; is = one.0; tells = one.1; gives = one.1; holds = as_value refl }

-- a local tells what it holds
pub local_told : (vs : List Val) (slot local value : StackSlot) (index count : ℕ) → slot ≡ VarLocal index → index < count → count ≡ length vs
    → ((v : Val) → slice_get vs index ≡ Some v → (w : Val) → plain_local local ≡ Some w → v ≡ w)
    → plain_operand value ≡ option_map Items.Val (plain_local local) → is_some (plain_operand value) ≡ true → TellsValue vs slot value
local_told vs slot local value index count is within same tells stands some =
    let one = mapped (plain_local local) (plain_operand value) stands some in
    let at : slice_get vs index ≡ Some (get_or vs index Vals.Null)
    = slice_get-get_or vs index Vals.Null (subst (λ (c : ℕ). index < c) same within) in
    let kept : slice_get vs index ≡ Some one.0 = at ∙ ap (λ (v : Val). Some v) (tells (get_or vs index Vals.Null) at one.0 one.1.0) in
    record {
      item = local_variable index;
      is = one.0;
      tells = ap plain_operand is;
      gives = one.1.1;
      holds = as_local index refl kept;
    }

-- the top operand is taken, and its value told
pub value_taken : (m k : FlatStack) (slot value : StackSlot) (top : PlainTop m slot) → k ≡ top.rest → TellsValue (held.locals k) slot value
    → TakesValue m k value
value_taken m k slot value top same t =
    let item : t.item ≡ top.item = same_Some t.item top.item (sym t.tells ∙ top.tells) in
    let F : FlatStack → Option (Item × FlatStack) = λ x. Some (top.item, x) in
    record {
      item = top.item;
      is = t.is;
      pops = top.pops ∙ ap F (sym same);
      gives = t.gives;
      holds = subst (λ (x : Item). HoldsValue (held.locals k) x t.is) item t.holds;
    }

-- What is found

-- the value of an operand that is or holds one is found
pub value_found : (all : Extent) (k : FlatStack) (st : Store Frames) (item : Item) (v : Val) → HoldsValue (held.locals k) item v
    → FindsValue all (item_in all item) (here flat (stack_in all k) st) (Ok v)
value_found all k st item v (as_value e) = ap (λ (x : Item). value_row (item_in all x) (here flat (stack_in all k) st)) e
value_found all k st item v (as_local index e there) =
    ap (λ (x : Item). value_row (item_in all x) (here flat (stack_in all k) st)) e
    ∙ ap (λ (w : Value). Gives (rows.Val w) (here flat (stack_in all k) st))
    (ap (λ (vs : List Value). value_at vs index) (locals_read (reading_of all) k)
    ∙ ap (λ (o : Option Value). unwrap_or o values.Null) (slice_get-map (value_in all) (held.locals k) index ∙ ap (option_map (value_in all)) there))

-- what a procedure gives of it is that value
pub result_found : (w : World) (k : FlatStack) (item : Item) (v : Val) → HoldsValue (held.locals k) item v → Finds w k item (Items.Val v)
result_found w k item v (as_value e) st next same =
    ap (λ (x : Item). with_result flat (item_in (extent_of w.heap) x) (stack_in (extent_of w.heap) k) st next) e
result_found w k item v (as_local index e there) st next same =
    let all : Extent = extent_of w.heap in
    ap (λ (x : Item). with_result flat (item_in all x) (stack_in all k) st next) e
    ∙ local_result all (local_variable index) refl (stack_in all k) st next
    ∙ value_goes all (item_in all (local_variable index)) (stack_in all k) st v (λ value. next (rows.Val value))
    (value_found all k st (local_variable index) v (as_local index refl there))

-- What is of the world

pub value_live : (t : Tables) (reach : Reach) (k : FlatStack) (item : Item) (v : Val) → IsLiveStack t reach k
    → IsLiveItem (with_locals (own_locals k) reach) item → HoldsValue (held.locals k) item v → IsLive reach.extent v
value_live t reach k item v l i (as_value e) =
    let one : IsLiveItem (with_locals (own_locals k) reach) (Items.Val v)
    = subst (λ (x : Item). IsLiveItem (with_locals (own_locals k) reach) x) e i in
    one.live
value_live t reach k item v l i (as_local index e there) =
    subst (λ (o : Option Val). IfSome o (IsLive reach.extent)) there (get_live (IsLive reach.extent) (held.locals k) index (live_locals t reach k l))

-- the value that was taken, and what stands without it
pub record TakenLive (t : Tables) (reach : Reach) (k : FlatStack) (v : Val) : Type 0 where
  pub rest : IsLiveStack t reach k
  pub value : IsLive reach.extent v

pub taken_live : (t : Tables) (reach : Reach) (m k : FlatStack) (slot : StackSlot) (takes : TakesValue m k slot) → IsLiveStack t reach m
    → TakenLive t reach k takes.is
taken_live t reach m k slot takes l =
    let back = live_pop t reach m k takes.item takes.pops l in
    record { rest = back.rest; value = value_live t reach k takes.item takes.is back.rest back.item_live takes.holds }

-- The operand below a mark

pub record PlainBelow (m : FlatStack) (slot : StackSlot) : Type 0 where
  pub item : Item
  pub is : held.below m ≡ Some item
  pub tells : plain_operand slot ≡ Some item

pub plain_below : (m : FlatStack) (slot : StackSlot) → IsSome (held.below m) → is_some (plain_operand slot) ≡ true
    → ((x y : Item) → held.below m ≡ Some x → plain_operand slot ≡ Some y → x ≡ y) → PlainBelow m slot
plain_below m slot there plain told = by_below (held.below m) refl there
  where
    by_below : (o : Option Item) → held.below m ≡ o → IsSome o → PlainBelow m slot
    by_below (Some x) e q =
        let y = some_there (plain_operand slot) plain in
        record { item = x; is = e; tells = y.1 ∙ ap (λ (z : Item). Some z) (sym (told x y.0 e y.1)) }
    by_below None e q = cc

-- A limit whose count slots tell

-- the integer that the slot of a value tells is the value of the operand
pub limit_held : (held : List Val) (slot value : StackSlot) (n : ℤ) (count : Option ℕ) → TellsValue held slot value
    → plain_operand value ≡ Some (Items.Val (Vals.Integer n)) → count ≡ natural_of n → IfSome count (TellsLimit held slot)
limit_held held slot value n None t e c = tt
limit_held held slot value n (Some count) t e c =
    let same : t.is ≡ Vals.Integer n = same_Some t.is (Vals.Integer n) (ap (option_and_then value_only) (sym t.gives ∙ e)) in
    record { item = t.item; number = n; tells = t.tells; holds = subst (λ (v : Val). HoldsValue held t.item v) same t.holds; is = sym c }

-- the operand on top is dropped
no_items : (items : List Item) → length items ≡ 0 → items ≡ []
no_items [] e = refl
no_items (x ∷ items) e = let some : suc (length items) ≡ 0 = e in absurd (omega arith)

dropped_pops : (m k : FlatStack) (d : DropsWith 0 m k) → held.pop m ≡ Some (d.callee, k)
dropped_pops m k d =
    let above : List Item → FlatStack = λ xs. record k { cells = operands_above xs (Operand d.callee ∷ k.cells) } in
    ap held.pop (d.was ∙ ap above (no_items d.items d.many))

pub one_above : (m : FlatStack) → IsSome (held.pop m) → HasOperands (0 + 1) m.cells
one_above m there = by_cells m.cells there
  where
    by_cells : (cells : List Cell) → IsSome (held.pop_from m cells) → HasOperands (0 + 1) cells
    by_cells (Operand x ∷ s) q = tt
    by_cells [] q = cc
    by_cells (Base proc locals ∷ s) q = cc
    by_cells (Call proc locals level r place ∷ s) q = cc
    by_cells (Local value ∷ s) q = cc
    by_cells (Mark label changed r ∷ s) q = cc
    by_cells (LimitMark count r ∷ s) q = cc
    by_cells (Suspension why r place ∷ s) q = cc

pub record LimitTaken (m k : FlatStack) (count : ℕ) : Type 0 where
  pub item : Item
  pub number : ℤ
  pub pops : held.pop m ≡ Some (item, k)
  pub holds : HoldsValue (held.locals k) item (Vals.Integer number)
  pub is : natural_of number ≡ Some count

pub limit_taken : (m k : FlatStack) (slot : StackSlot) (count : ℕ) → DropsWith 0 m k → TellsLimit (held.locals m) slot count → TellsTop m slot
    → LimitTaken m k count
limit_taken m k slot count d t told =
    let pops = dropped_pops m k d in
    let same : t.item ≡ d.callee = sym (told d.callee k pops t.item t.tells) in
    let here : HoldsValue (held.locals k) t.item (Vals.Integer t.number)
    = subst (λ (vs : List Val). HoldsValue vs t.item (Vals.Integer t.number)) d.locals_same t.holds in
    record {
      item = d.callee;
      number = t.number;
      pops = pops;
      holds = subst (λ (x : Item). HoldsValue (held.locals k) x (Vals.Integer t.number)) same here;
      is = t.is;
    }

pub limit_fails : (w : World) (m k : FlatStack) (count : ℕ) → LimitTaken m k count → count ≡ 0 → ComesWith Limit w m w k (Ok RunStates.Failing)
limit_fails w m k count t zero_is tables st same =
    limit_zero w m k k t.item (Vals.Integer t.number) t.pops
    (λ s e. value_found (extent_of w.heap) k s t.item (Vals.Integer t.number) t.holds) t.number refl count (sym t.is) zero_is refl tables st same

pub limit_opens : (w : World) (m k n : FlatStack) (count : ℕ) → LimitTaken m k count → (count ≡ 0 → ⊥) → n ≡ held.open_either None (Some count) k
    → ComesWith Limit w m w n (Ok RunStates.Running)
limit_opens w m k n count t more opens tables st same =
    limit_more w m k k n t.item (Vals.Integer t.number) t.pops
    (λ s e. value_found (extent_of w.heap) k s t.item (Vals.Integer t.number) t.holds) t.number refl count (sym t.is) more refl opens tables st same

-- A procedure that is suspended with a value

-- the top operand holds the value that a slot tells
record ToldTop (m : FlatStack) (v : Val) : Type 0 where
  item : Item
  rest : FlatStack
  pops : held.pop m ≡ Some (item, rest)
  holds : HoldsValue (held.locals m) item v

told_top : (m : FlatStack) (slot value : StackSlot) (t : TellsValue (held.locals m) slot value) → IsSome (held.pop m) → TellsTop m slot → ToldTop m t.is
told_top m slot value t there told =
    let top = plain_top m slot there (ap is_some t.tells) told in
    record {
      item = top.item;
      rest = top.rest;
      pops = top.pops;
      holds = subst (λ (x : Item). HoldsValue (held.locals m) x t.is) (same_Some t.item top.item (sym t.tells ∙ top.tells)) t.holds;
    }

pub told_suspends : (m n : FlatStack) (slot value : StackSlot) (t : TellsValue (held.locals m) slot value) → IsSome (held.pop m) → TellsTop m slot
    → is_some m.registers.scan ≡ false → held.given_to (Some (Items.Val t.is)) (held.suspend_proc m) ≡ Some n → RunsAlone Psusp m n
told_suspends m n slot value t there told none e w tables st same =
    let top = told_top m slot value t there told in
    psusp_runs w w m top.rest m m m n top.item (Items.Val t.is) top.pops (sym (pushed_back m top.rest top.item top.pops))
    (result_found w m top.item t.is top.holds) refl (swaps_none w m none) refl e tables st same

pub told_suspends_live : (m n : FlatStack) (slot value : StackSlot) (t : TellsValue (held.locals m) slot value) → IsSome (held.pop m) → TellsTop m slot
    → held.given_to (Some (Items.Val t.is)) (held.suspend_proc m) ≡ Some n → StaysLive m n
told_suspends_live m n slot value t there told e tables reach l =
    let top = told_top m slot value t there told in
    let back = live_pop tables reach m top.rest top.item top.pops l in
    let own : IsLiveItem (with_locals (own_locals m) reach) top.item
    = subst (λ (c : ℕ). IsLiveItem (with_locals c reach) top.item) (sym (pop_owner m top.rest top.item top.pops l.root)) back.item_live in
    suspended_free tables reach m n (Items.Val t.is) e l (λ c. record { live = value_live tables reach m top.item t.is l own top.holds })
