-- What an instruction names is there.
use Rattle.std.specs.Prelude.{◌≡◌, ℕ, true, length, slice_get, Some}
use Rattle.icn_vars.specs.Worlds.{Reach}
use Rattle.icn_code.specs.declared.instr.Instr.{Instr}
use Rattle.icn_code.specs.Codes.{Tables, Proc}
use Rattle.icn_code.specs.Rules.{is_instr}
use Rattle.icn_run.specs.Step.{static_count}

-- The instruction keeps the rules of the tables in the procedure of this number.
pub record IsInRange (tables : Tables) (proc : ℕ) (instr : Instr) : Type 0 where
  pub entry : Proc
  pub there : slice_get tables.procs proc ≡ Some entry
  pub rule : is_instr tables entry instr ≡ true

-- The globals and statics of the tables may be named.
pub record MayName (tables : Tables) (reach : Reach) : Type 0 where
  pub globals : reach.globals ≡ length tables.globals
  pub statics : reach.statics ≡ static_count tables
