-- Calls of procedures, which are done on the stack alone.
use Rattle.std.specs.Prelude.{◌≡◌, ℕ, suc, true, false, nat_lt, List, [], slice_get, Some}
use Rattle.icn_value.specs.declared.val.Val.{Val}
use Rattle.icn_value.specs.declared.val.Val.TheVariants as Vals
use Rattle.icn_value.specs.declared.item.Item.{Item}
use Rattle.icn_value.specs.declared.item.Item.TheVariants as Items
use Rattle.icn_value.specs.declared.item.VarRef.TheVariants as VarRefs
use Rattle.icn_value.specs.declared.item.Root.TheVariants as Roots
use Rattle.icn_value.specs.Store.{Names}
use Rattle.icn_heap.specs.Heaps.{extent_of}
use Rattle.icn_vars.specs.declared.world.World.{World}
use Rattle.icn_vars.specs.Worlds.{reach_of, world_of}
use Rattle.icn_frames.specs.declared.slots.StackSlot.{StackSlot}
use Rattle.icn_frames.specs.Slots.{plain_operand}
use Rattle.icn_frames.specs.Stacks.{FlatStack}
use Rattle.icn_code.specs.declared.instr.Instr.TheVariants as Instrs
use Rattle.icn_code.specs.Codes.{Proc, Tables}
use Rattle.icn_run.specs.Stacks.{Frames}
use Rattle.icn_run.specs.Step.{Store, running}
use Rattle.law_steps.specs.StateNames.{StackNamed}
use Rattle.icn_control.specs.LiveStacks.{IsLiveStack}
use Rattle.icn_control.specs.StackViews.{instruction_state, stack_in}

-- an operand is a procedure, or names a global whose value is one
pub data NamesProcedure (globals : List Val) (item : Item) (number : ℕ) : Type 0 where
  as_value : item ≡ Items.Val (Vals.Proc number) → NamesProcedure globals item number
  as_global : (index : ℕ) → item ≡ Items.Var (VarRefs.Whole (Roots.Global index))
      → slice_get globals index ≡ Some (Vals.Proc number)
      → NamesProcedure globals item number

-- the same of the operand that a slot tells
pub record TellsProcedure (globals : List Val) (slot : StackSlot) (number : ℕ) : Type 0 where
  pub item : Item
  pub tells : plain_operand slot ≡ Some item
  pub names : NamesProcedure globals item number

-- A procedure takes so many arguments as they are, and has this many locals besides.
pub record TakesAsMany (tables : Tables) (number count nulls : ℕ) : Type 0 where
  pub entry : Proc
  pub there : slice_get tables.procs number ≡ Some entry
  pub none_collects : entry.collects ≡ false
  pub many : entry.parameters ≡ count
  pub locals : entry.locals ≡ nulls

-- The procedure below so many operands is called with them as a turn, on the stack alone.
abbrev pub CallsAlone : Tables → World → ℕ → FlatStack → FlatStack → Type 0
CallsAlone tables w count m n = (st : Store Frames) → st.world ≡ world_of w
    → nat_lt st.turns st.world.heap.bounds.turns ≡ true
    → instruction_state (extent_of w.heap) tables (Instrs.Invoke count) m st
    ≡ running (stack_in (extent_of w.heap) n) (record st { turns = suc st.turns })

-- It was called so, and what stands there is of the world and names only what has a name, where it was so.
pub record CallsInPlace (tables : Tables) (w : World) (count : ℕ) (m n : FlatStack) : Type 0 where
  pub calls : CallsAlone tables w count m n
  pub live : IsLiveStack tables (reach_of w []) m → IsLiveStack tables (reach_of w []) n
  pub named : (names : Names) → StackNamed names (stack_in (extent_of w.heap) m)
      → StackNamed names (stack_in (extent_of w.heap) n)
