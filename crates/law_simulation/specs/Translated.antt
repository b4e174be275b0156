-- A program and tables in which the code of each procedure is its translation.
use Rattle.std.specs.Prelude.{◌≡◌, ℕ, suc, ◌-◌, List, [], ◌∷◌, length}
use Rattle.icn_code.specs.Codes.{Tables, Proc as Procedure, RecordType}
use Rattle.icn_meaning.specs.Program as M
use Rattle.icn_run.specs.LinkedStep.{repeats_of}
use Rattle.icn_run.specs.Step as S
use Rattle.law_simulation.specs.Translation as X
use Rattle.law_simulation.specs.Linkage.{Linkage}
use Rattle.law_simulation.specs.Translatable.{FitsRoutine}

-- marks have a flag where a `chfail` has their place
abbrev pub linkage : M.Program → Tables → Linkage
linkage program tables = record { program = program; tables = tables; repeats = repeats_of tables }

-- A procedure whose code is its translation, by names of its own, and whose trees fit.
pub record TranslatedRoutine (L : Linkage) (n : ℕ) (routine : M.Routine) (entry : Procedure) : Type 0 where
  pub names : X.SymbolTable
  pub parameters : routine.parameters ≡ entry.parameters
  pub collects : routine.collects ≡ entry.collects
  pub locals : length routine.locals - routine.parameters ≡ entry.locals
  pub is_translated : S.instrs_of L.tables n ≡ X.procedure names routine.initial routine.body
  pub fits : FitsRoutine L names n routine.initial routine.body

-- the procedures from a number on, and the constructors, one beside the other
pub data Routines (L : Linkage) : ℕ → List M.Routine → List Procedure → Type 0 where
  u_none : {n : ℕ} → Routines L n [] []
  u_more : {n : ℕ} {routine : M.Routine} {entry : Procedure} {routines : List M.Routine}
      {entries : List Procedure} → TranslatedRoutine L n routine entry → Routines L (suc n) routines entries
      → Routines L n (routine ∷ routines) (entry ∷ entries)

-- the constructors one beside the other, each with as many fields as its entry
pub data Kinds : List M.Constructor → List RecordType → Type 0 where
  d_none : Kinds [] []
  d_more : {kind : M.Constructor} {entry : RecordType} {kinds : List M.Constructor}
      {entries : List RecordType}
      → length kind.fields ≡ length entry.fields → Kinds kinds entries
      → Kinds (kind ∷ kinds) (entry ∷ entries)

-- the code of each procedure is its translation, and each constructor has its entry
pub record IsTranslated (program : M.Program) (tables : Tables) : Type 0 where
  pub routines : Routines (linkage program tables) 0 program.routines tables.procs
  pub kinds : Kinds program.kinds tables.records
