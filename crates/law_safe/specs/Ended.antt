-- Each run of verified code comes to an end of which something is observed.
use Rattle.std.specs.Prelude.{ℕ, Bool, List}
use Rattle.icn_code.specs.Codes.{Tables}
use Rattle.icn_run.specs.Chains.{linked_calls as on_marks}
use Rattle.icn_run.specs.Step.{Observation, Launch}
use Rattle.icn_run.specs.FlatStep as Flat
use Rattle.icn_run.specs.LinkedStep as Linked
use Rattle.icn_run.specs.LinkedStep.{repeats_anywhere}
use Rattle.law_stacks.specs.Measure.{EndsFrom}
use Rattle.law_stacks.specs.SecondLaw.{MissingCell}

-- On flat stacks and on linked marks each run is over at some time, by its bound on turns at the latest; on linked marks where only some have cells too, if
-- it comes to none that is missing, and if it does, it is over or lacks something. So it is whatever procedures no text names.
pub record AreOver (tables : Tables) : Type 0 where
  pub flat : (hidden : List ℕ) (launch : Launch)
      → (seen : Observation) × Flat.RunsHiding hidden tables launch seen
  pub linked : (hidden : List ℕ) (launch : Launch)
      → (seen : Observation) × Linked.RunsHiding repeats_anywhere hidden tables launch seen
  pub covered : (repeats : ℕ → ℕ → Bool) (hidden : List ℕ) (launch : Launch)
      → (MissingCell repeats hidden tables launch → ⊥)
      → (seen : Observation) × Linked.RunsHiding repeats hidden tables launch seen
  pub told : (repeats : ℕ → ℕ → Bool) (hidden : List ℕ) (launch : Launch)
      → EndsFrom (on_marks repeats) tables (Linked.start_hiding repeats tables hidden launch)
