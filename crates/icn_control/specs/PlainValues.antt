-- Values of operands that slots tell.
use Rattle.std.specs.Prelude.{◌≡◌, ℕ, ℤ, List, Some}
use Rattle.icn_value.specs.declared.val.Val.{Val}
use Rattle.icn_value.specs.declared.val.Val.TheVariants as Vals
use Rattle.icn_value.specs.declared.item.Item.{Item}
use Rattle.icn_value.specs.declared.item.Item.TheVariants as Items
use Rattle.icn_frames.specs.declared.slots.StackSlot.{StackSlot}
use Rattle.icn_frames.specs.CalledWith.{HoldsValue}
use Rattle.icn_frames.specs.Slots.{plain_operand}
use Rattle.icn_frames.specs.Stacks.{FlatStack, locals, pop}
use Rattle.icn_control.specs.StackAndWorld.{natural_of}

-- The value of an operand that a slot tells is told by another slot.
pub record TellsValue (held : List Val) (slot value : StackSlot) : Type 0 where
  pub item : Item
  pub is : Val
  pub tells : plain_operand slot ≡ Some item
  pub gives : plain_operand value ≡ Some (Items.Val is)
  pub holds : HoldsValue held item is

-- The integer that is the value of an operand which a slot tells is this count.
pub record TellsLimit (held : List Val) (slot : StackSlot) (count : ℕ) : Type 0 where
  pub item : Item
  pub number : ℤ
  pub tells : plain_operand slot ≡ Some item
  pub holds : HoldsValue held item (Vals.Integer number)
  pub is : natural_of number ≡ Some count

-- The top operand is taken, and a slot tells its value.
pub record TakesValue (m k : FlatStack) (value : StackSlot) : Type 0 where
  pub item : Item
  pub is : Val
  pub pops : pop m ≡ Some (item, k)
  pub gives : plain_operand value ≡ Some (Items.Val is)
  pub holds : HoldsValue (locals k) item is
