-- Operations on integers and locals, which are done on the stack alone.
use Rattle.std.specs.Prelude.{◌≡◌, ◌<◌, ℕ, ℤ, suc, Bool, true, nat_lt, List, [], ◌∷◌, slice_get, Option, Some, None, IfSome}
use Rattle.std.specs.Result.{result_ok}
use Rattle.std.specs.Ordering.{int_cmp, is_lt, is_le, is_eq, is_ge, is_gt, is_ne}
use Rattle.std.specs.declared.cmp.Ordering.{Ordering}
use Rattle.icn_text.specs.declared.op.Op.{Op}
use Rattle.icn_text.specs.declared.op.Op.TheVariants as Ops
use Rattle.icn_text.specs.IntegerArithmetic.{sum, difference, product, quotient, remainder}
use Rattle.icn_value.specs.declared.val.Val.{Val}
use Rattle.icn_value.specs.declared.val.Val.TheVariants as Vals
use Rattle.icn_value.specs.declared.item.Item.{Item}
use Rattle.icn_value.specs.declared.item.Item.TheVariants as Items
use Rattle.icn_value.specs.declared.item.VarRef.TheVariants as VarRefs
use Rattle.icn_value.specs.declared.item.Root.TheVariants as Roots
use Rattle.icn_value.specs.Store.{Names}
use Rattle.icn_heap.specs.Extents.{Extent}
use Rattle.icn_heap.specs.Heaps.{extent_of}
use Rattle.icn_vars.specs.declared.world.World.{World}
use Rattle.icn_vars.specs.Worlds.{reach_of, world_of}
use Rattle.law_names.specs.NamedSettings.{WorldNamed}
use Rattle.icn_frames.specs.declared.slots.StackSlot.{StackSlot}
use Rattle.icn_frames.specs.CalledWith.{HoldsValue}
use Rattle.icn_frames.specs.Slots.{plain_local, plain_operand}
use Rattle.icn_frames.specs.Stacks.{FlatStack, local_count, locals}
use Rattle.icn_code.specs.declared.instr.Instr.TheVariants as Instrs
use Rattle.icn_code.specs.Codes.{Tables}
use Rattle.icn_run.specs.Stacks.{Frames}
use Rattle.icn_run.specs.Step.{Store}
use Rattle.law_steps.specs.StateNames.{StackNamed}
use Rattle.icn_control.specs.LiveStacks.{IsLiveStack, StaysLive}
use Rattle.icn_control.specs.StackViews.{instruction_state, stack_in}
use Rattle.icn_control.specs.TakenOperands.{take_operands}
use Rattle.icn_control.specs.declared.machine.RunState.{RunState}
use Rattle.icn_machine.specs.Giving.{StandsAs}

-- the operand that is the variable of a local
abbrev pub local_item : ℕ → Item
local_item index = Items.Var (VarRefs.Whole (Roots.Local index))

-- an operand that is a local is one of the procedure that runs
abbrev pub NamesOwnLocal : FlatStack → StackSlot → Type 0
NamesOwnLocal m slot = (index : ℕ) → plain_operand slot ≡ Some (local_item index) → index < local_count m

-- the integer that an operand is, or that the local holds which it names
pub data HoldsInteger (held : List Val) (item : Item) (n : ℤ) : Type 0 where
  as_value : item ≡ Items.Val (Vals.Integer n) → HoldsInteger held item n
  as_local : (index : ℕ) → item ≡ local_item index → slice_get held index ≡ Some (Vals.Integer n)
      → HoldsInteger held item n

-- the same of the operand that a slot tells
abbrev pub TellsInteger : List Val → StackSlot → ℤ → Type 0
TellsInteger held slot n = (x : Item) × ((plain_operand slot ≡ Some x) × HoldsInteger held x n)

-- the integers of two operands, that of the lower one first
pub record TellIntegers (held : List Val) (slots : StackSlot × StackSlot) (two : ℤ × ℤ) : Type 0 where
  pub lower : TellsInteger held slots.0 two.0
  pub upper : TellsInteger held slots.1 two.1

-- two operands are taken, and these slots tell them, that of the lower one first
pub record TakesSlots (m k : FlatStack) (slots : StackSlot × StackSlot) : Type 0 where
  pub first : Item
  pub second : Item
  pub lower : plain_operand slots.0 ≡ Some first
  pub upper : plain_operand slots.1 ≡ Some second
  pub taken : take_operands 2 m ≡ Some (first ∷ second ∷ [], k)

-- what an operation of arithmetic on two integers has as its result, if it has one
abbrev pub integer_result : Op → ℤ → ℤ → Option ℤ
integer_result Ops.Add m n = result_ok (sum m n)
integer_result Ops.Subtract m n = result_ok (difference m n)
integer_result Ops.Multiply m n = result_ok (product m n)
integer_result Ops.Divide m n = result_ok (quotient m n)
integer_result Ops.Remainder m n = result_ok (remainder m n)
integer_result op m n = None

-- whether a comparison of integers is met, by their order
abbrev pub is_met : Op → Ordering → Option Bool
is_met Ops.Less order = Some (is_lt order)
is_met Ops.LessOrEqual order = Some (is_le order)
is_met Ops.Equal order = Some (is_eq order)
is_met Ops.GreaterOrEqual order = Some (is_ge order)
is_met Ops.Greater order = Some (is_gt order)
is_met Ops.NotEqual order = Some (is_ne order)
is_met op order = None

-- an operation has this result on the integers of two operands
pub record Computes (op : Op) (held : List Val) (slots : StackSlot × StackSlot) (r : ℤ) : Type 0 where
  pub two : ℤ × ℤ
  pub of : TellIntegers held slots two
  pub is : integer_result op two.0 two.1 ≡ Some r

-- a comparison of the integers of two operands is met or not, and this is the right one
pub record Compares (op : Op) (held : List Val) (slots : StackSlot × StackSlot) (met : Bool × ℤ)
    : Type 0 where
  pub left : ℤ
  pub of : TellIntegers held slots (left, met.1)
  pub is : is_met op (int_cmp left met.1) ≡ Some met.0

-- a slot tells the value of a local
pub record IsLocalSlot (held : List Val) (index : ℕ) (local : StackSlot) : Type 0 where
  pub is : Val
  pub there : slice_get held index ≡ Some is
  pub gives : plain_local local ≡ Some is

-- a local of this slot has the value that the operand of a slot is or holds
pub record HasValueOf (held : List Val) (slot local : StackSlot) : Type 0 where
  pub item : Item
  pub is : Val
  pub tells : plain_operand slot ≡ Some item
  pub gives : plain_local local ≡ Some is
  pub holds : HoldsValue held item is

-- the lower operand is this local, and a slot tells the value that the upper one is or holds
pub record Assigns (m : FlatStack) (slots : StackSlot × StackSlot) (two : ℕ × StackSlot) : Type 0 where
  pub is : plain_operand slots.0 ≡ Some (local_item two.0)
  pub within : two.0 < local_count m
  pub tells : HasValueOf (locals m) slots.1 two.1

-- The operation is performed as a turn, on the stack alone, whatever the world is.
abbrev pub OperatesAlone : Op → FlatStack → FlatStack → RunState → Type 0
OperatesAlone op m n stage = (all : Extent) (tables : Tables) (st : Store Frames)
    → nat_lt st.turns st.world.heap.bounds.turns ≡ true
    → StandsAs (instruction_state all tables (Instrs.Op op) m st) (stack_in all n)
    (record st { turns = suc st.turns }) stage

-- The same in this world.
abbrev pub OperatesOver : World → Op → FlatStack → FlatStack → RunState → Type 0
OperatesOver w op m n stage = (tables : Tables) (st : Store Frames) → st.world ≡ world_of w
    → nat_lt st.turns st.world.heap.bounds.turns ≡ true
    → StandsAs (instruction_state (extent_of w.heap) tables (Instrs.Op op) m st)
    (stack_in (extent_of w.heap) n) (record st { turns = suc st.turns }) stage

-- It was performed so, or the stack is as it was. What stands there is of the world and names only what has a name, where it was so.
pub record OperatesInPlace (op : Op) (m n : FlatStack) (result : Option RunState) : Type 0 where
  pub done : IfSome result (OperatesAlone op m n)
  pub not_done : result ≡ None → n ≡ m
  pub live : StaysLive m n
  pub named : (names : Names) (all : Extent) → StackNamed names (stack_in all m)
      → StackNamed names (stack_in all n)

-- It was performed so in this world, or the stack is as it was. What stands there is of the world and names only what has a name,
-- where it was so and the world does.
pub record OperatesInWorld (w : World) (op : Op) (m n : FlatStack) (result : Option RunState) : Type 0 where
  pub done : IfSome result (OperatesOver w op m n)
  pub not_done : result ≡ None → n ≡ m
  pub live : (tables : Tables) → IsLiveStack tables (reach_of w []) m → IsLiveStack tables (reach_of w []) n
  pub named : (names : Names) → WorldNamed names (world_of w) → StackNamed names (stack_in (extent_of w.heap) m)
      → StackNamed names (stack_in (extent_of w.heap) n)
