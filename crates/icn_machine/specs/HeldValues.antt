-- Values of operands where these stand.
use Rattle.std.specs.Prelude.{◌≡◌, ◌∷◌, ℕ, List, length}
use Rattle.icn_value.specs.declared.item.Item.{Item}
use Rattle.icn_value.specs.declared.val.Val.{Val}
use Rattle.icn_vars.specs.declared.world.World.{World}
use Rattle.icn_frames.specs.declared.layout.Cell.{Cell}
use Rattle.icn_frames.specs.declared.layout.Cell.TheVariants.{Operand}
use Rattle.icn_frames.specs.CalledWith.{operands_above}
use Rattle.icn_frames.specs.Stacks.{FlatStack}
use Rattle.icn_machine.specs.ValueOperations.{FindsOperand}

-- the value of the operand below so many others is found on this stack in this world
abbrev pub FindsBelow : World → FlatStack → ℕ → Val → Type 0
FindsBelow w m count v = (x : Item) (items : List Item) (rest : List Cell)
    → m.cells ≡ operands_above items (Operand x ∷ rest) → length items ≡ count → FindsOperand w m x v
