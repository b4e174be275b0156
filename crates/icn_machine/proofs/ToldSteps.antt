-- Values of a type that is wanted, which operands are or hold.
use Rattle.std.proofs.Common.{◌≡◌, ℕ, ℤ, pos, ◌<◌, List, ◌∷◌, length, slice_get, get_or, Option, Some, None, IfSome, sym, ap, ◌∙◌, subst}
use Rattle.std.proofs.lemmas.Option.{slice_get-get_or}
use Rattle.icn_value.specs.declared.item.Item.{Item}
use Rattle.icn_value.specs.declared.item.Item.TheVariants as Items
use Rattle.icn_value.specs.declared.val.Val.{Val}
use Rattle.icn_value.specs.declared.val.Val.TheVariants as Vals
use Rattle.icn_strfn.specs.Checks.{natural_in}
use Rattle.icn_strfn.proofs.CheckedRows.{natural_some}
use Rattle.icn_frames.specs.CalledWith.{as_local, as_value, local_variable, operands_above}
use Rattle.icn_frames.specs.declared.layout.Cell.{Cell}
use Rattle.icn_frames.specs.declared.layout.Cell.TheVariants.{Operand}
use Rattle.icn_frames.specs.declared.slots.StackSlot.{StackSlot}
use Rattle.icn_frames.specs.declared.slots.StackSlot.TheVariants.{VarGlobal, VarLocal}
use Rattle.icn_frames.specs.Slots.{plain_local, plain_operand, value_only}
use Rattle.icn_frames.specs.Stacks as held
use Rattle.icn_frames.specs.Stacks.{FlatStack}
use Rattle.icn_machine.specs.PlainFunctions.{HasValueBelow, as_global, as_held, global_item}
use Rattle.icn_machine.proofs.PlainFunctionSteps.{TellsBelow, only_value}

-- the value of a local is that which its slot tells
pub held_told : (vs : List Val) (index count : ℕ) (slot : StackSlot) (v : Val) → index < count → count ≡ length vs
    → ((x : Val) → slice_get vs index ≡ Some x → (w : Val) → plain_local slot ≡ Some w → x ≡ w) → plain_local slot ≡ Some v
    → slice_get vs index ≡ Some v
held_told vs index count slot v within same told e =
    let there : slice_get vs index ≡ Some (get_or vs index Vals.Null)
    = slice_get-get_or vs index Vals.Null (subst (λ (c : ℕ). index < c) same within) in
    there ∙ ap (λ (x : Val). Some x) (told (get_or vs index Vals.Null) there v e)

-- a value that is there is the one that was read
pub held_as : {T : Type 0} (f : T → Val) (vs : List Val) (index : ℕ) (v : Val) (r : Option T) → Some v ≡ slice_get vs index → IfSome r (λ x. v ≡ f x)
    → IfSome r (λ x. slice_get vs index ≡ Some (f x))
held_as f vs index v (Some x) there e = sym there ∙ ap (λ (w : Val). Some w) e
held_as f vs index v None there e = tt

module _ {T : Type 0} (f : T → Val) (globals : List Val) (m : FlatStack) (count : ℕ) (slot : StackSlot) (told : TellsBelow m count slot) where
  -- a local that an operand names holds it
  pub by_local : (index : ℕ) (r : Option T) → slot ≡ VarLocal index → IfSome r (λ x. slice_get (held.locals m) index ≡ Some (f x))
      → IfSome r (λ x. HasValueBelow globals m count (f x))
  by_local index (Some x) is there =
      λ y items rest cells many. as_held (as_local index (told y (local_variable index) items rest cells many (ap plain_operand is)) there)
  by_local index None is there = tt

  -- a global does
  pub by_global : (index : ℕ) (r : Option T) → slot ≡ VarGlobal index → IfSome r (λ x. slice_get globals index ≡ Some (f x))
      → IfSome r (λ x. HasValueBelow globals m count (f x))
  by_global index (Some x) is there =
      λ y items rest cells many. as_global index (told y (global_item index) items rest cells many (ap plain_operand is)) there
  by_global index None is there = tt

  -- the operand is it
  pub by_slot : (x : T) → plain_operand slot ≡ Some (Items.Val (f x)) → HasValueBelow globals m count (f x)
  by_slot x is = λ y items rest cells many. as_held (as_value (told y (Items.Val (f x)) items rest cells many is))

-- what is kept beside the operand is it
pub by_value : {T : Type 0} (f : T → Val) (globals : List Val) (m : FlatStack) (count : ℕ) (v : Val) (r : Option T)
    → ((x : Item) (items : List Item) (rest : List Cell) → m.cells ≡ operands_above items (Operand x ∷ rest) → length items ≡ count → Some v ≡ value_only x)
    → IfSome r (λ y. v ≡ f y) → IfSome r (λ y. HasValueBelow globals m count (f y))
by_value f globals m count v (Some y) is e =
    λ x items rest cells many. as_held (as_value (only_value x (f y) (ap (λ (w : Val). Some w) (sym e) ∙ is x items rest cells many)))
by_value f globals m count v None is e = tt

-- the integer is at or above 0
pub natural_below : (globals : List Val) (m : FlatStack) (count : ℕ) (n : ℤ) (r : Option ℕ) → r ≡ natural_in n
    → HasValueBelow globals m count (Vals.Integer n) → IfSome r (λ k. HasValueBelow globals m count (Vals.Integer (pos k)))
natural_below globals m count n (Some k) is below =
    subst (λ (i : ℤ). HasValueBelow globals m count (Vals.Integer i)) (natural_some n k (sym is)) below
natural_below globals m count n None is below = tt
