-- Verified code is never stuck.
use Rattle.std.specs.Prelude.{◌≡◌, ◌≢◌, ℕ, ◌<◌, Bool, true, List, Some, slice_get, map, length}
use Rattle.icn_value.specs.Store.{Outside}
use Rattle.icn_code.specs.declared.instr.Instr.{Instr}
use Rattle.icn_code.specs.Codes.{Tables, Proc as Procedure}
use Rattle.icn_run.specs.Stacks.{Frames}
use Rattle.icn_run.specs.Step.{Launch, State, stuck, instrs_of, global_value, main_of}
use Rattle.icn_run.specs.AnyOutside.{run_over}
use Rattle.icn_run.specs.LinkedStep.{repeats_anywhere}
use Rattle.law_stacks.specs.SecondLaw.{MissingCell, LinkedStuck, FlatStuck}
use Rattle.law_safe.specs.Within.{Each, ValueWithin}
use Rattle.law_safe.specs.Shaped.{InRange}

-- what tables keep, as far as a run needs it
pub record TablesOk (tables : Tables) : Type 0 where
  pub instrs : (p address : ℕ) (instr : Instr) → slice_get (instrs_of tables p) address ≡ Some instr
      → InRange tables instr
  pub collects : (p : ℕ) (entry : Procedure) → slice_get tables.procs p ≡ Some entry → entry.collects ≡ true
      → 0 < entry.parameters
  pub globals : Each (ValueWithin 1) (map (global_value tables) tables.globals)
  pub main : (n : ℕ) → main_of tables ≡ Some n → n < length tables.procs

-- No run of the code lacks what an instruction needs, neither on linked marks nor on flat stacks, nor on linked marks where only some have cells, if the
-- run comes to none that is missing; whatever procedures no text names.
pub record IsNeverStuck (tables : Tables) : Type 0 where
  pub linked : (hidden : List ℕ) (launch : Launch) → LinkedStuck repeats_anywhere hidden tables launch → ⊥
  pub flat : (hidden : List ℕ) (launch : Launch) → FlatStuck hidden tables launch → ⊥
  pub covered : (repeats : ℕ → ℕ → Bool) (hidden : List ℕ) (launch : Launch)
      → (MissingCell repeats hidden tables launch → ⊥) → LinkedStuck repeats hidden tables launch → ⊥

-- no step from here on lacks anything, whatever the outside is before each
abbrev pub IsNeverStuckOver : Tables → State Frames Frames → Type 0
IsNeverStuckOver tables state = (outsides : List Outside) → run_over tables outsides state ≢ stuck
