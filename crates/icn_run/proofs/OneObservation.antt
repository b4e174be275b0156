-- What is observed of a run of a code, and that it is one thing at most.
use Rattle.std.proofs.Common.{◌≡◌, ℕ, Bool, Some, ap}
use Rattle.icn_code.specs.Codes.{Tables}
use Rattle.icn_defs.specs.Running.{Ending, Launch, Observation}
use Rattle.icn_defs.proofs.OneObservation.{Lasts, observed_once}
use Rattle.icn_value.specs.Store.{Outside}
use Rattle.icn_run.specs.Calls.{Calls}
use Rattle.icn_run.specs.Chains.{linked_calls}
use Rattle.icn_run.specs.FlatStep as Flat
use Rattle.icn_run.specs.LinkedStep as Linked
use Rattle.icn_run.specs.Stacks.{flat}
use Rattle.icn_run.specs.Step.{Program, State, running, failing, hopping, over, stuck, observation, step}

abbrev seen_as : Ending → Outside → Observation
seen_as ending outside = record { ending = ending; outside = outside }

-- where something is observed the run is over so
pub over_seen : {K M : Type 0} (s : State K M) (seen : Observation) → observation s ≡ Some seen → s ≡ over seen.ending seen.outside
over_seen (over ending outside) seen e = let h : seen_as ending outside ≡ seen = cc in ap (λ (o : Observation). over o.ending o.outside) h
over_seen (running m st) seen e = absurd (cc e)
over_seen (failing m st) seen e = absurd (cc e)
over_seen (hopping m st) seen e = absurd (cc e)
over_seen stuck seen e = absurd (cc e)

module _ {K M : Type 0} (C : Calls K M) (P : Program) where
  pub observation_lasts : Lasts (step C P) observation
  observation_lasts (over ending outside) seen e = e
  observation_lasts (running m st) seen e = absurd (cc e)
  observation_lasts (failing m st) seen e = absurd (cc e)
  observation_lasts (hopping m st) seen e = absurd (cc e)
  observation_lasts stuck seen e = e

-- a run on flat stacks has at most one observation
pub flat_once : (tables : Tables) (launch : Launch) (a b : Observation) → Flat.Runs tables launch a → Flat.Runs tables launch b → a ≡ b
flat_once tables launch a b x y = observed_once (Flat.step tables) observation (observation_lasts flat tables) (Flat.start tables launch) a b x y

pub linked_once : (repeats : ℕ → ℕ → Bool) (tables : Tables) (launch : Launch) (a b : Observation) → Linked.Runs repeats tables launch a
    → Linked.Runs repeats tables launch b → a ≡ b
linked_once repeats tables launch a b x y =
    observed_once (Linked.step repeats tables) observation (observation_lasts (linked_calls repeats) tables) (Linked.start repeats tables launch) a b x y
