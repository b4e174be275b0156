-- Each state of a run has the variables of the tables: no step adds or drops a global, a static or a note of `initial`.
use Rattle.std.specs.Prelude.{◌≡◌, ℕ, List, length}
use Rattle.icn_text.specs.declared.op.Op.{Op}
use Rattle.icn_text.specs.declared.func.Func.{Func}
use Rattle.icn_value.specs.Values.{Item, Value}
use Rattle.icn_value.specs.Store.{Names, Outside, Setting, World}
use Rattle.icn_defs.specs.Applying.{again, function_of, operation_row}
use Rattle.icn_defs.specs.ReadAndAssign.{the_values}
use Rattle.icn_defs.specs.Rows.{Outcome, Fails, Gives, Suspends, Error, Ends, Residual}
use Rattle.icn_defs.specs.Running.{Launch, words_row}
use Rattle.icn_defs.specs.StepRows.{coexpression_row, list_row, record_row, text_row}
use Rattle.icn_code.specs.declared.instr.Instr.{Instr}
use Rattle.icn_code.specs.Codes.{Tables}
use Rattle.icn_run.specs.Calls.{Why}
use Rattle.icn_run.specs.FlatStep.{start}
use Rattle.icn_run.specs.Stacks.{Frames, flat}
use Rattle.icn_run.specs.Step.{State, Store, failing, fails, hop, hopping, instruction, over, resume_by, running, step, stuck}
use Rattle.icn_run.specs.AnyOutside.{over_outside}
use Rattle.icn_run.specs.InstructionNeeds.{HasVariables}

-- Rows

-- the world that a row leaves
abbrev pub world_after : Outcome → World
world_after (Fails seen) = seen.world
world_after (Gives item seen) = seen.world
world_after (Suspends item rest seen) = seen.world
world_after (Error number offending seen) = seen.world
world_after (Ends status seen) = seen.world

-- from one world to a later one there are as many globals and statics
pub record KeepVariables (before after : World) : Type 0 where
  pub globals : length after.globals ≡ length before.globals
  pub statics : length after.statics ≡ length before.statics

-- each row leaves as many
pub record RowsKeepVariables : Type 0 where
  pub operations : (op : Op) (items : List Item) (at : Setting)
      → KeepVariables at.world (world_after (operation_row op items at))
  pub functions : (names : Names) (func : Func) (items : List Item) (at : Setting)
      → KeepVariables at.world (world_after (the_values items (function_of names func) at))
  pub resumed : (rest : Residual) (at : Setting) → KeepVariables at.world (world_after (again rest at))
  pub lists : (values : List Value) (at : Setting) → KeepVariables at.world (world_after (list_row values at))
  pub records : (kind : ℕ) (values : List Value) (at : Setting)
      → KeepVariables at.world (world_after (record_row kind values at))
  pub texts : (value : Value) (at : Setting) → KeepVariables at.world (world_after (text_row value at))
  pub coexpressions : (count : ℕ) (at : Setting)
      → KeepVariables at.world (world_after (coexpression_row count at))
  pub words : (texts : List (List ℕ)) (at : Setting)
      → KeepVariables at.world (world_after (words_row texts at))

-- States

-- a state that goes on has the variables of the tables
abbrev pub StateHasVariables : Tables → State Frames Frames → Type 0
StateHasVariables tables (running m st) = HasVariables tables st
StateHasVariables tables (failing m st) = HasVariables tables st
StateHasVariables tables (hopping m st) = HasVariables tables st
StateHasVariables tables (over ending outside) = Unit {0}
StateHasVariables tables stuck = Unit {0}

-- The state with which a run starts has the variables of the tables, and where a state has them, so has the next, whatever the outside is.
pub record StatesHaveVariables : Type 0 where
  pub starts : (tables : Tables) (launch : Launch) → StateHasVariables tables (start tables launch)
  pub steps : (tables : Tables) (state : State Frames Frames) → StateHasVariables tables state
      → StateHasVariables tables (step flat tables state)
  pub elsewhere : (tables : Tables) (outside : Outside) (state : State Frames Frames)
      → StateHasVariables tables state → StateHasVariables tables (over_outside outside state)
  pub instructions : (tables : Tables) (instr : Instr) (m : Frames) (st : Store Frames)
      → HasVariables tables st → StateHasVariables tables (instruction flat tables instr m st)
  pub failures : (tables : Tables) (m : Frames) (st : Store Frames) → HasVariables tables st
      → StateHasVariables tables (fails flat tables m st)
  pub resuming : (tables : Tables) (why : Why) (m : Frames) (st : Store Frames) → HasVariables tables st
      → StateHasVariables tables (resume_by flat tables why m st)
  pub hops : (tables : Tables) (m : Frames) (st : Store Frames) → HasVariables tables st
      → StateHasVariables tables (hop flat tables m st)
