-- What is observed of two runs that differ in their bound of turns.
use Rattle.std.specs.Prelude.{◌≡◌}
use Rattle.icn_value.specs.Store.{Outside}
use Rattle.icn_defs.specs.Running.{Observation, AtBound, bound_report, with_errors}
use Rattle.law_outside.specs.Outsides.{ExtendsOutside}

-- A run has done so much outside, and ends there at its bound of turns, with its report behind it.
abbrev pub ended_at_bound : Outside → Observation
ended_at_bound done = record { ending = AtBound; outside = with_errors bound_report done }

-- The first run is observed as the second; or it ended at its bound of turns, and what it had done until then is a
-- first part of what the second did: of what it put on both outputs, of what it took of the input, and of the files
-- that it read and wrote.
pub data IsPartOf (part whole : Observation) : Type 0 where
  is_whole : part ≡ whole → IsPartOf part whole
  is_cut : (done : Outside) → part ≡ ended_at_bound done → ExtendsOutside done whole.outside
      → IsPartOf part whole
