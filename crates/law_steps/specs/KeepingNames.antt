-- What a step of the run of a code leaves names only what has a name, where the state before did.
use Rattle.std.specs.Prelude.{◌≡◌, ℕ, List, Some}
use Rattle.std.specs.List.{All}
use Rattle.icn_text.specs.declared.func.Func.{Func}
use Rattle.icn_value.specs.Values.{Item, Procedure, Value}
use Rattle.icn_defs.specs.Rows.{Outcome}
use Rattle.icn_defs.specs.Running.{callee_number, name_called}
use Rattle.icn_defs.specs.StepRows.{Function, apply}
use Rattle.icn_code.specs.declared.instr.Instr.{Instr}
use Rattle.icn_code.specs.declared.instr.Instr.TheVariants as Instrs
use Rattle.icn_code.specs.Codes.{Tables}
use Rattle.law_names.specs.RowsNamed.{OutcomeNamed}
use Rattle.law_names.specs.NamedSettings.{ItemNamed, ValueNamed}
use Rattle.icn_run.specs.Stacks.{Frames, flat}
use Rattle.icn_run.specs.Step.{State, Store, IsFunc, all_names, callee_of, fails, here, hop, instruction, invoke_value, outcome, with_values}
use Rattle.law_steps.specs.StateNames.{StackNamed, StateNamed, StoreNamed}

-- an instruction that may call a function
abbrev pub MayCall : Instr → Type 0
MayCall (Instrs.Invoke n) = Unit {0}
MayCall Instrs.Appl = Unit {0}
MayCall instr = ⊥

-- where what is called is a function, or names one, what it comes to is so
abbrev pub FunctionNamed : Tables → Value → List Item → Frames → Store Frames → Type 0
FunctionNamed tables callee items m st =
    (n : ℕ) (func : Func) → callee_number st.names callee ≡ Some n → callee_of tables n ≡ IsFunc func
    → OutcomeNamed (all_names tables) (apply st.names (Function func) items (here flat m st))

-- what a text that is called names has a name
abbrev pub CalleeNamed : Tables → Value → Store Frames → Type 0
CalleeNamed tables callee st = (n : ℕ) → name_called st.names callee ≡ Some n
    → ValueNamed (all_names tables) (Procedure n)

-- Of the names of a code, by parts of its steps. A function that copies a record may be given one that is not there, so that of functions nothing is
-- said here: it is a condition of the calls of them.
pub record StepsKeepNames : Type 0 where
  pub instructions : (tables : Tables) (instr : Instr) (m : Frames) (st : Store Frames) → (MayCall instr → ⊥)
      → StackNamed (all_names tables) m → StoreNamed (all_names tables) st
      → StateNamed (all_names tables) (instruction flat tables instr m st)
  pub failing : (tables : Tables) (m : Frames) (st : Store Frames)
      → StackNamed (all_names tables) m → StoreNamed (all_names tables) st
      → StateNamed (all_names tables) (fails flat tables m st)
  pub hops : (tables : Tables) (m : Frames) (st : Store Frames) → StoreNamed (all_names tables) st
      → StateNamed (all_names tables) (hop flat tables m st)
  pub outcomes : (tables : Tables) (answer : Outcome) (m : Frames) (st : Store Frames)
      → OutcomeNamed (all_names tables) answer
      → StackNamed (all_names tables) m → StoreNamed (all_names tables) st
      → StateNamed (all_names tables) (outcome flat answer m st)
  pub values : (tables : Tables) (items : List Item) (m : Frames) (st : Store Frames)
      (next : List Value → State Frames Frames)
      → All (ItemNamed (all_names tables)) items → StackNamed (all_names tables) m
      → StoreNamed (all_names tables) st
      → ((values : List Value) → All (ValueNamed (all_names tables)) values
      → StateNamed (all_names tables) (next values))
      → StateNamed (all_names tables) (with_values flat items m st next)
  pub called : (tables : Tables) (callee : Value) (items : List Item) (m : Frames) (st : Store Frames)
      → FunctionNamed tables callee items m st → CalleeNamed tables callee st
      → ValueNamed (all_names tables) callee
      → All (ItemNamed (all_names tables)) items → StackNamed (all_names tables) m
      → StoreNamed (all_names tables) st
      → StateNamed (all_names tables) (invoke_value flat tables callee items m st)
