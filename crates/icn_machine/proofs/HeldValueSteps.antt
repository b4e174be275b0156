-- Values of operands where these stand, as steps.
use Rattle.std.proofs.Common.{◌≡◌, ℕ, ℤ, zero, suc, ◌+◌, ◌-◌, List, [], ◌∷◌, ◌++◌, length, Option, Some, None, IfSome, refl, sym, ap, ◌∙◌, subst, add-one, arith}
use Rattle.std.specs.List.{All}
use Rattle.std.specs.Option.{option_map}
use Rattle.std.proofs.lemmas.List.{length-append}
use Rattle.icn_text.specs.declared.op.Op.{Op}
use Rattle.icn_structs.specs.Numbered.{item_numbered}
use Rattle.icn_value.specs.declared.item.Item.{Item}
use Rattle.icn_value.specs.declared.item.Item.TheVariants as Items
use Rattle.icn_value.specs.declared.item.Root.TheVariants as Roots
use Rattle.icn_value.specs.declared.item.VarRef.TheVariants as VarRefs
use Rattle.icn_value.specs.declared.val.Val.{Val}
use Rattle.icn_value.specs.declared.val.Val.TheVariants as Vals
use Rattle.icn_value.specs.Store.{Setting, World as StoreWorld, list_at}
use Rattle.icn_value.specs.Values.{Value}
use Rattle.icn_defs.specs.Arities.{arity}
use Rattle.icn_defs.specs.ReadAndAssign.{the_value}
use Rattle.icn_defs.specs.Rows.{Row, present}
use Rattle.icn_heap.specs.Extents.{Extent, IsLive, value_in}
use Rattle.icn_heap.specs.Heaps.{extent_of, heap_of}
use Rattle.icn_vars.specs.declared.world.World.{World}
use Rattle.icn_vars.specs.Worlds.{IsLiveItem, Reach, item_in, reach_of, setting_of}
use Rattle.icn_frames.specs.CalledWith.{DropsWith, HasOperands, operands_above}
use Rattle.icn_frames.specs.declared.layout.Cell.{Cell}
use Rattle.icn_frames.specs.declared.layout.Cell.TheVariants.{Operand}
use Rattle.icn_frames.specs.Heights.{cell_at}
use Rattle.icn_frames.specs.declared.layout.CellContent.{CellContent}
use Rattle.icn_frames.specs.declared.layout.CellContent.TheVariants as Contents
use Rattle.icn_frames.specs.Slots.{content_of, plain_operand}
use Rattle.icn_frames.specs.Stacks as held
use Rattle.icn_frames.specs.Stacks.{FlatStack}
use Rattle.icn_frames.specs.declared.slots.StackSlot.{StackSlot}
use Rattle.icn_frames.proofs.CalledWithFacts.{below_cell, on_top}
use Rattle.icn_code.specs.Codes.{Tables}
use Rattle.icn_run.specs.Stacks.{flat}
use Rattle.icn_run.specs.Step.{here}
use Rattle.icn_control.specs.LiveStacks.{AreLive, IsLiveStack, with_locals}
use Rattle.icn_control.specs.StackViews.{stack_in}
use Rattle.icn_control.specs.TakenOperands.{take_operands}
use Rattle.icn_control.specs.declared.machine.RunState.{RunState}
use Rattle.icn_control.proofs.LiveCalls.{own_locals}
use Rattle.icn_control.proofs.OperandValues.{here_is}
use Rattle.icn_machine.specs.declared.value_operations.ItemOutcome.{ItemOutcome}
use Rattle.icn_machine.specs.HeldValues.{FindsBelow}
use Rattle.icn_machine.specs.PlainFunctions.{HasValueBelow}
use Rattle.icn_machine.specs.PlainOperations.{OperatesInWorld}
use Rattle.icn_machine.specs.ValueOperations.{ComesOnValues, FindsOperand, GivesAtOnce, IsPlain}
use Rattle.icn_machine.proofs.InWorldSteps.{one_item}
use Rattle.icn_machine.proofs.PlainFunctionSteps.{drops_taken, operands_append, told_live, value_is}
use Rattle.icn_machine.proofs.ValueOperationSteps.{comes_if, performed_so}

-- The operand below so many others

pub record Below (n : ℕ) (cells : List Cell) : Type 0 where
  pub item : Item
  pub items : List Item
  pub rest : List Cell
  pub is : cells ≡ operands_above items (Operand item ∷ rest)
  pub many : length items ≡ n

below_from : (n : ℕ) (cells : List Cell) → HasOperands (suc n) cells → Below n cells
below_from zero cells h =
    let top = on_top zero cells h in
    record { item = top.item; items = []; rest = top.below; is = top.is; many = refl }
below_from (suc n) cells h =
    let top = on_top (suc n) cells h in
    let deeper = below_from n top.below top.others in
    let long : length (deeper.items ++ top.item ∷ []) ≡ length deeper.items + 1 = length-append deeper.items (top.item ∷ []) in
    let all : length (deeper.items ++ top.item ∷ []) ≡ suc n = omega (arith, long, deeper.many) in
    record {
      item = deeper.item;
      items = deeper.items ++ top.item ∷ [];
      rest = deeper.rest;
      is =
          top.is ∙ ap (λ (s : List Cell). Operand top.item ∷ s) deeper.is
          ∙ sym (operands_append deeper.items (top.item ∷ []) (Operand deeper.item ∷ deeper.rest));
      many = all;
    }

-- it is there
pub below_there : (n : ℕ) (cells : List Cell) → HasOperands (n + 1) cells → Below n cells
below_there n cells h = below_from n cells (subst (λ (k : ℕ). HasOperands k cells) (add-one n) h)

live_above : (t : Tables) (reach : Reach) (n : ℕ) (items : List Item) (cells : List Cell) → AreLive t reach n (operands_above items cells)
    → AreLive t reach n cells
live_above t reach n [] cells l = l
live_above t reach n (item ∷ items) cells l = (live_above t reach n items (Operand item ∷ cells) l).1

-- it is of the world
pub below_live : (t : Tables) (reach : Reach) (m : FlatStack) (x : Item) (items : List Item) (rest : List Cell) → IsLiveStack t reach m
    → m.cells ≡ operands_above items (Operand x ∷ rest) → IsLiveItem (with_locals (own_locals m) reach) x
below_live t reach m x items rest l e =
    (live_above t reach (own_locals m) items (Operand x ∷ rest) (subst (λ (s : List Cell). AreLive t reach (own_locals m) s) e l.cells)).0

-- the same of what was read there
pub read_live : (t : Tables) (reach : Reach) (m : FlatStack) (count : ℕ) (item : Item) → IsLiveStack t reach m → HasOperands (count + 1) m.cells
    → ((x : Item) (items : List Item) (rest : List Cell) → m.cells ≡ operands_above items (Operand x ∷ rest) → length items ≡ count → item ≡ x)
    → IsLiveItem (with_locals (own_locals m) reach) item
read_live t reach m count item l there is =
    let b = below_there count m.cells there in
    subst (λ (y : Item). IsLiveItem (with_locals (own_locals m) reach) y) (sym (is b.item b.items b.rest b.is b.many))
    (below_live t reach m b.item b.items b.rest l b.is)

same_content : (a b : Item) → ◌≡◌ {A = CellContent} (Contents.Operand a) (Contents.Operand b) → a ≡ b
same_content a b e = cc

-- what a cell below so many others was seen to hold is that operand
pub seen_below : (m : FlatStack) (count len : ℕ) (content : CellContent) (item : Item) → len ≡ length m.cells
    → ((cell : Cell) → cell_at (len - 1 - count + 1) m.cells ≡ Some cell → content ≡ content_of cell) → content ≡ Contents.Operand item
    → (x : Item) (items : List Item) (rest : List Cell) → m.cells ≡ operands_above items (Operand x ∷ rest) → length items ≡ count → item ≡ x
seen_below m count len content item is seen holds x items rest cells many =
    same_content item x (sym holds ∙ seen (Operand x) (below_cell items x rest m.cells len count cells many is))

-- a value that is told is of the world
pub below_told_live : (t : Tables) (w : World) (m : FlatStack) (count : ℕ) (r : Option Val) → All (IsLive (extent_of w.heap)) w.globals.items
    → IsLiveStack t (reach_of w []) m → HasOperands (count + 1) m.cells → IfSome r (HasValueBelow w.globals.items m count)
    → IfSome r (IsLive (extent_of w.heap))
below_told_live t w m count (Some v) globals l there told =
    let b = below_there count m.cells there in
    told_live t w m (own_locals m) b.item v globals l (below_live t (reach_of w []) m b.item b.items b.rest l b.is)
    (told b.item b.items b.rest b.is b.many)
below_told_live t w m count None globals l there told = tt

-- the list of an element that a slot tells is of the world
pub element_live : (t : Tables) (w : World) (m : FlatStack) (count list : ℕ) (number : ℤ) (slot : StackSlot) → IsLiveStack t (reach_of w []) m
    → HasOperands (count + 1) m.cells
    → ((x y : Item) (items : List Item) (rest : List Cell) → m.cells ≡ operands_above items (Operand x ∷ rest) → length items ≡ count
    → plain_operand slot ≡ Some y → x ≡ y)
    → plain_operand slot ≡ Some (Items.Var (VarRefs.Whole (Roots.Element list number))) → IsLive (extent_of w.heap) (Vals.List list)
element_live t w m count list number slot l there told is =
    let b = below_there count m.cells there in
    let item : Item = Items.Var (VarRefs.Whole (Roots.Element list number)) in
    let live : IsLiveItem (with_locals (own_locals m) (reach_of w [])) item
    = subst (λ (y : Item). IsLiveItem (with_locals (own_locals m) (reach_of w [])) y) (told b.item item b.items b.rest b.is b.many is)
    (below_live t (reach_of w []) m b.item b.items b.rest l b.is) in
    live.live.live.live

-- Values that are found there

-- one that is told
pub told_below : (w : World) (m : FlatStack) (count : ℕ) (r : Option Val) → IfSome r (HasValueBelow w.globals.items m count)
    → IfSome r (FindsBelow w m count)
told_below w m count (Some v) told = λ x items rest cells many st same next. value_is w m st x v next same (told x items rest cells many)
told_below w m count None told = tt

-- one that is read
pub read_below : (w : World) (m : FlatStack) (count : ℕ) (item : Item) (r : Option Val)
    → ((x : Item) (items : List Item) (rest : List Cell) → m.cells ≡ operands_above items (Operand x ∷ rest) → length items ≡ count → item ≡ x)
    → IfSome r (FindsOperand w m item) → IfSome r (FindsBelow w m count)
read_below w m count item (Some v) is found =
    λ x items rest cells many. subst (λ (y : Item). FindsOperand w m y v) (is x items rest cells many) found
read_below w m count item None is found = tt

-- the element of a list
pub element_below : (w : World) (m : FlatStack) (count list : ℕ) (number : ℤ) (slot : StackSlot) (r : Option Val)
    → ((x y : Item) (items : List Item) (rest : List Cell) → m.cells ≡ operands_above items (Operand x ∷ rest) → length items ≡ count
    → plain_operand slot ≡ Some y → x ≡ y)
    → plain_operand slot ≡ Some (Items.Var (VarRefs.Whole (Roots.Element list number)))
    → option_map (value_in (extent_of w.heap)) r ≡ item_numbered (list_at (heap_of w.heap) list) number → IfSome r (FindsBelow w m count)
element_below w m count list number slot (Some v) told is item = λ x items rest cells many st same next.
    let all : Extent = extent_of w.heap in
    let at : Setting = here flat (stack_in all m) st in
    let element : Item = Items.Var (VarRefs.Whole (Roots.Element list number)) in
    ap (λ (y : Item). the_value (item_in all y) next at) (told x element items rest cells many is)
    ∙ ap (λ (h : StoreWorld). present (item_numbered (list_at h.heap list) number) 205 None next at) same
    ∙ ap (λ (o : Option Value). present o 205 None next at) (sym item)
element_below w m count list number slot None told is item = tt

-- On operands that are dropped

pub moved : (w : World) (m k : FlatStack) (item : Item) (v : Val) → held.locals m ≡ held.locals k → FindsOperand w m item v → FindsOperand w k item v
moved w m k item v e found st same =
    let all : Extent = extent_of w.heap in
    let one : here flat (stack_in all m) st ≡ here flat (stack_in all k) st
    = here_is w m st same ∙ ap (setting_of st.outside w) e ∙ sym (here_is w k st same) in
    subst (λ (s : Setting). (next : Value → Row) → the_value (item_in all item) next s ≡ next (value_in all v) s) one (found st same)

-- an operation on the values of two operands, which are dropped
pub on_found : (w : World) (op : Op) (m k n : FlatStack) (a b : Val) (d : DropsWith 1 m k) → arity op ≡ 2 → FindsBelow w m 1 a → FindsBelow w m 0 b
    → held.set_locals (held.locals k) k ≡ k → (given : ItemOutcome) (stage : RunState) → ComesOnValues w op a b given → IsPlain w given
    → GivesAtOnce given k n stage → OperatesInWorld w op m n (Some stage)
on_found w op m k n a b d two first second back given stage comes plain gave =
    let one = one_item d.items d.many in
    let pair : Item × Item = (d.callee, one.0) in
    let cells : m.cells ≡ operands_above d.items (Operand d.callee ∷ k.cells) = ap (λ (x : FlatStack). x.cells) d.was in
    let above : m.cells ≡ operands_above [] (Operand one.0 ∷ Operand d.callee ∷ k.cells)
    = cells ∙ ap (λ (xs : List Item). operands_above xs (Operand d.callee ∷ k.cells)) one.1 in
    let lower : FindsOperand w k d.callee a = moved w m k d.callee a d.locals_same (first d.callee d.items k.cells cells d.many) in
    let upper : FindsOperand w k one.0 b = moved w m k one.0 b d.locals_same (second one.0 [] (Operand d.callee ∷ k.cells) above refl) in
    let taken : take_operands 2 m ≡ Some (d.callee ∷ one.0 ∷ [], k)
    = subst (λ (xs : List Item). take_operands 2 m ≡ Some (d.callee ∷ xs, k)) one.1 (drops_taken 1 m k d) in
    performed_so w op m k n pair two taken back given stage (comes_if w op k pair a b (Some given) lower upper comes) plain gave
