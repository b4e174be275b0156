-- Operations and calls that are done at once on a stack in a world, as turns.
use Rattle.std.specs.Prelude.{◌≡◌, ℕ, suc, Bool, true, false, nat_lt, [], ⊤}
use Rattle.icn_text.specs.declared.op.Op.{Op}
use Rattle.icn_text.specs.declared.op.Op.TheVariants as Ops
use Rattle.icn_value.specs.Store.{Names}
use Rattle.icn_heap.specs.Heaps.{extent_of}
use Rattle.law_names.specs.NamedSettings.{WorldNamed}
use Rattle.icn_vars.specs.declared.world.World.{World}
use Rattle.icn_vars.specs.Worlds.{KeepsItems, reach_of, world_of}
use Rattle.icn_frames.specs.Stacks.{FlatStack}
use Rattle.icn_code.specs.Codes.{Tables}
use Rattle.icn_code.specs.declared.instr.Instr.{Instr}
use Rattle.icn_code.specs.declared.instr.Instr.TheVariants as Instrs
use Rattle.icn_run.specs.Stacks.{Frames, flat}
use Rattle.icn_run.specs.Step.{State, Store, fails}
use Rattle.law_steps.specs.StateNames.{StackNamed}
use Rattle.icn_apply.specs.SizesAfter.{WorldsKeepSizes}
use Rattle.icn_control.specs.LiveStacks.{IsLiveStack}
use Rattle.icn_control.specs.StackAndWorld.{FailsWith, RunsWith}
use Rattle.icn_control.specs.StackViews.{instruction_state, stack_in}
use Rattle.icn_control.specs.TakenOperands.{KeepsCounts}
use Rattle.icn_machine.specs.declared.at_once.AtOnce.{AtOnce}
use Rattle.icn_machine.specs.declared.at_once.AtOnce.TheVariants as AtOnces

-- whether an operation puts texts together, or looks for one at the position
abbrev pub is_of_texts : Op → Bool
is_of_texts Ops.Concatenate = true
is_of_texts Ops.TabMatch = true
is_of_texts op = false

-- the store a turn later
abbrev pub a_turn_later : Store Frames → Store Frames
a_turn_later st = record st { turns = suc st.turns }

-- Where a stack and a world stand once so much was done: the next instruction is due, or the code fails. Of
-- want of memory this says nothing.
abbrev pub TurnsTo : State Frames Frames → Store Frames → World → FlatStack → AtOnce → Type 0
TurnsTo state st w m AtOnces.Running = RunsWith state st w m
TurnsTo state st w m AtOnces.Failing = FailsWith state st w m
TurnsTo state st w m AtOnces.Hopping = ⊥
TurnsTo state st w m AtOnces.Over = ⊥
TurnsTo state st w m AtOnces.AtBound = ⊥
TurnsTo state st w m AtOnces.NoMemory = ⊤
TurnsTo state st w m AtOnces.Not = ⊤

-- it holds where the code goes on or fails
abbrev pub IfGoing : AtOnce → Type 0 → Type 0
IfGoing AtOnces.Running P = P
IfGoing AtOnces.Failing P = P
IfGoing AtOnces.Hopping P = ⊤
IfGoing AtOnces.Over P = ⊤
IfGoing AtOnces.AtBound P = ⊤
IfGoing AtOnces.NoMemory P = ⊤
IfGoing AtOnces.Not P = ⊤

-- The instruction was done on a stack in a world, as a turn, or nothing has changed. What stands there is of
-- the world, all of which stays what it was.
pub record DoesAsTurn (tables : Tables) (instr : Instr) (w : World) (m : FlatStack) (v : World)
    (n : FlatStack) (done : AtOnce) : Type 0 where
  pub step : (st : Store Frames) → st.world ≡ world_of w → nat_lt st.turns st.world.heap.bounds.turns ≡ true
      → TurnsTo (instruction_state (extent_of w.heap) tables instr m st) (a_turn_later st) v n done
  pub live : IfGoing done (IsLiveStack tables (reach_of w []) m → IsLiveStack tables (reach_of v []) n)
  pub kept : IfGoing done (KeepsItems (reach_of w []) (reach_of v []))
  pub counts : IfGoing done (KeepsCounts w v)
  pub not_done : done ≡ AtOnces.Not → (n ≡ m) × (v ≡ w)

-- A call was done so. What stands there names only what has a name, where it was so, and records keep their
-- sizes.
pub record CallsAsTurn (tables : Tables) (count : ℕ) (w : World) (m : FlatStack) (v : World)
    (n : FlatStack) (done : AtOnce) : Type 0 where
  pub does : DoesAsTurn tables (Instrs.Invoke count) w m v n done
  pub named : (names : Names) → WorldNamed names (world_of w)
      → StackNamed names (stack_in (extent_of w.heap) m)
      → IfGoing done (StackNamed names (stack_in (extent_of v.heap) n) × WorldNamed names (world_of v))
  pub sized : IfGoing done (WorldsKeepSizes w v)

-- A step of failing was done on a stack in a world, as a turn. What stands there is of the world, all of which stays what it
-- was.
pub record FailsInTurn (w : World) (m : FlatStack) (v : World) (n : FlatStack)
    (done : AtOnce) : Type 0 where
  pub step : (tables : Tables) (st : Store Frames) → st.world ≡ world_of w
      → nat_lt st.turns st.world.heap.bounds.turns ≡ true
      → TurnsTo (fails flat tables (stack_in (extent_of w.heap) m) st) (a_turn_later st) v n done
  pub live : IfGoing done ((tables : Tables)
      → IsLiveStack tables (reach_of w []) m → IsLiveStack tables (reach_of v []) n)
  pub kept : IfGoing done (KeepsItems (reach_of w []) (reach_of v []))
  pub counts : IfGoing done (KeepsCounts w v)
