-- Tables that begin as a program does.
use Rattle.std.specs.Prelude.{◌≡◌, ℕ, length, map, Option, Some, None, codes, slice_get}
use Rattle.std.specs.List.{sum_by}
use Rattle.icn_code.specs.Codes.{Proc as Procedure}
use Rattle.icn_meaning.specs.Program as MP
use Rattle.icn_run.specs.Step as S
use Rattle.law_simulation.specs.Linkage.{Linkage}
use Rattle.law_simulation.specs.Ground.{OfCallee}

-- `main` on both sides
pub data OfMain (L : Linkage) : Option ℕ → Option ℕ → Type 0 where
  no_main : OfMain L None None
  a_main : {n : ℕ} {routine : MP.Routine} {entry : Procedure}
      → slice_get L.program.routines n ≡ Some routine → slice_get L.tables.procs n ≡ Some entry
      → OfCallee L n (MP.IsRoutine routine) (S.IsProc entry) → OfMain L (Some n) (Some n)

-- the tables of a code begin as the program does
pub record Begins (L : Linkage) : Type 0 where
  pub globals : L.program.starts ≡ map (S.global_value L.tables) L.tables.globals
  pub statics : L.program.statics ≡ sum_by S.statics_of L.tables.procs
  pub procs : length L.program.routines ≡ length L.tables.procs
  pub names : MP.names_of L.program ≡ S.names_hiding L.program.hidden L.tables
  pub main : OfMain L (MP.index_of (codes "main") (MP.routine_names L.program.routines)) (S.main_of L.tables)
