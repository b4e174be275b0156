-- Operands that become the locals of a procedure which is called with them.
use Rattle.std.specs.Prelude.{◌≡◌, ◌+◌, ℕ, zero, suc, List, [], ◌∷◌, ◌++◌, length, replicate, slice_get, Some, IsSome}
use Rattle.icn_frames.specs.declared.layout.Cell.{Cell}
use Rattle.icn_frames.specs.declared.layout.Cell.TheVariants.{Call, Local, Operand}
use Rattle.icn_frames.specs.declared.layout.NewFrame.{NewFrame}
use Rattle.icn_frames.specs.declared.slots.StackSlot.{StackSlot}
use Rattle.icn_frames.specs.Heights.{cell_at}
use Rattle.icn_frames.specs.Slots.{plain_local, plain_operand}
use Rattle.icn_frames.specs.Stacks.{FlatStack, enter, level, locals, put_above}
use Rattle.icn_value.specs.declared.val.Val.{Val}
use Rattle.icn_value.specs.declared.val.Val.TheVariants.{Null}
use Rattle.icn_value.specs.declared.item.Item.{Item}
use Rattle.icn_value.specs.declared.item.Item.TheVariants as Items
use Rattle.icn_value.specs.declared.item.VarRef.TheVariants as VarRefs
use Rattle.icn_value.specs.declared.item.Root.TheVariants as Roots

-- the operand that is the variable of a local
abbrev pub local_variable : ℕ → Item
local_variable index = Items.Var (VarRefs.Whole (Roots.Local index))

-- the value that an operand is, or that the local holds which it names
pub data HoldsValue (held : List Val) (item : Item) (v : Val) : Type 0 where
  as_value : item ≡ Items.Val v → HoldsValue held item v
  as_local : (index : ℕ) → item ≡ local_variable index → slice_get held index ≡ Some v → HoldsValue held item v

-- the same of each of some operands
abbrev pub HoldValues : List Val → List Item → List Val → Type 0
HoldValues held [] [] = Unit {0}
HoldValues held [] (v ∷ values) = ⊥
HoldValues held (item ∷ items) [] = ⊥
HoldValues held (item ∷ items) (v ∷ values) = HoldsValue held item v × HoldValues held items values

-- operands above some cells, the first one lowest
abbrev pub operands_above : List Item → List Cell → List Cell
operands_above [] cells = cells
operands_above (item ∷ items) cells = operands_above items (Operand item ∷ cells)

-- so many operands are on top
abbrev pub HasOperands : ℕ → List Cell → Type 0
HasOperands zero cells = Unit {0}
HasOperands (suc n) (Operand item ∷ cells) = HasOperands n cells
HasOperands (suc n) cells = ⊥

-- the cell of a frame that is put
abbrev pub called_cell : NewFrame → Cell
called_cell frame = Call frame.proc frame.locals frame.level frame.saved frame.address

-- these locals stand above a height
abbrev pub HoldsLocals : ℕ → List Val → List Cell → Type 0
HoldsLocals height held cells =
    (k : ℕ) (v : Val) → slice_get held k ≡ Some v → cell_at (height + k + 1) cells ≡ Some (Local v)

-- the value of the operand that a slot tells is told by the slot of a local
pub record TellsArgument (held : List Val) (slot local : StackSlot) : Type 0 where
  pub item : Item
  pub is : Val
  pub tells : plain_operand slot ≡ Some item
  pub gives : plain_local local ≡ Some is
  pub holds : HoldsValue held item is

-- The same of an operand that is a value or one of so many locals above a height, and both slots tell all.
pub record IsArgument (base own : ℕ) (cells : List Cell) (slot local : StackSlot) : Type 0 where
  pub operand : IsSome (plain_operand slot)
  pub local_told : IsSome (plain_local local)
  pub tells : (held : List Val) → length held ≡ own → HoldsLocals base held cells → TellsArgument held slot local

-- so many operands became the lowest locals above a frame, with their values, and the frame stands in the place of the operand below them
pub record Framed (held : List Val) (count : ℕ) (frame : Cell) (cells after : List Cell) : Type 0 where
  pub callee : Item
  pub items : List Item
  pub values : List Val
  pub rest : List Cell
  pub was : cells ≡ operands_above items (Operand callee ∷ rest)
  pub many : length items ≡ count
  pub hold : HoldValues held items values
  pub is : after ≡ put_above values (frame ∷ rest)

-- A procedure is entered in the place of the operand below so many others, whose values are the first of its locals, with nulls behind them.
pub record EntersWith (proc count nulls address : ℕ) (m n : FlatStack) : Type 0 where
  pub callee : Item
  pub items : List Item
  pub values : List Val
  pub rest : FlatStack
  pub was : m ≡ record rest { cells = operands_above items (Operand callee ∷ rest.cells) }
  pub many : length items ≡ count
  pub depth : level m ≡ level rest
  pub hold : HoldValues (locals rest) items values
  pub is : n ≡ enter proc (values ++ replicate nulls Null) address rest

-- The operand below so many others is dropped, and these; the locals are as they were.
pub record DropsWith (count : ℕ) (m k : FlatStack) : Type 0 where
  pub callee : Item
  pub items : List Item
  pub was : m ≡ record k { cells = operands_above items (Operand callee ∷ k.cells) }
  pub many : length items ≡ count
  pub locals_same : locals m ≡ locals k
