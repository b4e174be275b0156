-- What a step of the run of a code leaves has each record as long as its kind, where the state before had.
use Rattle.std.specs.Prelude.{◌≡◌, ℕ, List, length, slice_get, Some}
use Rattle.std.specs.Option.{option_map_or}
use Rattle.icn_text.specs.declared.func.Func.{Func}
use Rattle.icn_value.specs.Values.{Item, Value}
use Rattle.icn_defs.specs.Rows.{Outcome}
use Rattle.icn_defs.specs.Running.{callee_number}
use Rattle.icn_defs.specs.StepRows.{Function, apply}
use Rattle.icn_code.specs.declared.instr.Instr.{Instr}
use Rattle.icn_code.specs.Codes.{RecordType, Tables}
use Rattle.law_names.specs.RowSizes.{FitSizes, heap_after}
use Rattle.icn_run.specs.Stacks.{Frames, flat}
use Rattle.icn_run.specs.Step.{State, Store, IsFunc, callee_of, fails, failing, here, hop, hopping, instruction, invoke_value, outcome, over, running, stuck, with_values}
use Rattle.law_steps.specs.KeepingNames.{MayCall}

-- how many fields a kind of the tables has
abbrev pub field_count : Tables → ℕ → ℕ
field_count tables kind =
    option_map_or (λ (entry : RecordType). length entry.fields) (slice_get tables.records kind) 0

-- each record of the heap has as many fields as its kind
abbrev pub StoreFits : Tables → Store Frames → Type 0
StoreFits tables st = FitSizes (field_count tables) st.world.heap

-- each record of a state that goes on has as many fields as its kind
abbrev pub StateFits : Tables → State Frames Frames → Type 0
StateFits tables (running m st) = StoreFits tables st
StateFits tables (failing m st) = StoreFits tables st
StateFits tables (hopping m st) = StoreFits tables st
StateFits tables (over ending outside) = Unit {0}
StateFits tables stuck = Unit {0}

-- each record that a row leaves has as many fields as its kind
abbrev pub OutcomeFits : Tables → Outcome → Type 0
OutcomeFits tables answer = FitSizes (field_count tables) (heap_after answer)

-- where what is called is a function, or names one, what it comes to is so
abbrev pub FunctionFits : Tables → Value → List Item → Frames → Store Frames → Type 0
FunctionFits tables callee items m st =
    (n : ℕ) (func : Func) → callee_number st.names callee ≡ Some n → callee_of tables n ≡ IsFunc func
    → OutcomeFits tables (apply st.names (Function func) items (here flat m st))

-- By parts of the steps. Of functions nothing is said here, as of their names: one that copies a record may be given one that is not there.
pub record StepsKeepSizes : Type 0 where
  pub instructions : (tables : Tables) (instr : Instr) (m : Frames) (st : Store Frames) → (MayCall instr → ⊥)
      → StoreFits tables st → StateFits tables (instruction flat tables instr m st)
  pub failing : (tables : Tables) (m : Frames) (st : Store Frames) → StoreFits tables st
      → StateFits tables (fails flat tables m st)
  pub hops : (tables : Tables) (m : Frames) (st : Store Frames) → StoreFits tables st
      → StateFits tables (hop flat tables m st)
  pub outcomes : (tables : Tables) (answer : Outcome) (m : Frames) (st : Store Frames)
      → OutcomeFits tables answer → StateFits tables (outcome flat answer m st)
  pub values : (tables : Tables) (items : List Item) (m : Frames) (st : Store Frames)
      (next : List Value → State Frames Frames)
      → StoreFits tables st → ((values : List Value) → StateFits tables (next values))
      → StateFits tables (with_values flat items m st next)
  pub called : (tables : Tables) (callee : Value) (items : List Item) (m : Frames) (st : Store Frames)
      → FunctionFits tables callee items m st → StoreFits tables st
      → StateFits tables (invoke_value flat tables callee items m st)
