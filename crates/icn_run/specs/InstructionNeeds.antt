-- What instructions ask of the state of a run, beside the operands that they take.
use Rattle.std.specs.Prelude.{◌≡◌, ℕ, length, IsSome, ⊤}
use Rattle.icn_code.specs.declared.instr.Instr.{Instr}
use Rattle.icn_code.specs.declared.instr.Instr.TheVariants.{Ccase}
use Rattle.icn_code.specs.Codes.{Tables}
use Rattle.icn_run.specs.Stacks.{Frames, unmark}
use Rattle.icn_run.specs.Step.{Store, static_count}

-- There are as many globals, statics, and notes of `initial` as the tables have globals, statics and procedures.
pub record FitTables (tables : Tables) (some_globals some_statics notes : ℕ) : Type 0 where
  pub globals : some_globals ≡ length tables.globals
  pub statics : some_statics ≡ static_count tables
  pub begun : notes ≡ length tables.procs

-- A store has the globals and statics of the tables, and notes of each procedure whether it did its `initial`.
abbrev pub HasVariables : {K : Type 0} → Tables → Store K → Type 0
HasVariables tables st =
    FitTables tables (length st.world.globals) (length st.world.statics) (length st.begun)

-- A case compares in a mark that is open in the procedure that runs, as else it would take an operand of the caller.
abbrev pub HasCaseMark : Instr → Frames → Type 0
HasCaseMark Ccase m = IsSome (unmark m)
HasCaseMark instr m = ⊤
