-- Where the statics of each procedure begin.
use Rattle.std.specs.Prelude.{◌≡◌, ℕ, ◌<◌, List, length, slice_get, Some}
use Rattle.icn_code.specs.Codes.{Tables}
use Rattle.icn_run.specs.Step.{statics_before}

-- These are the numbers of the first statics of the procedures of these tables.
pub record AreFirstStatics (tables : Tables) (firsts : List ℕ) : Type 0 where
  pub each : (proc : ℕ) → proc < length tables.procs
      → slice_get firsts proc ≡ Some (statics_before tables proc)
