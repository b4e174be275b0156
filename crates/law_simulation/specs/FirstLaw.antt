-- What the first law speaks of.
use Rattle.std.specs.Prelude.{◌<◌, ◌≡◌, ℕ, All, List}
use Rattle.icn_tree.specs.Trees.{Declaration}
use Rattle.icn_code.specs.Codes.{Tables}
use Rattle.icn_defs.specs.Running.{Launch, Observation, Ending, Errored, AtBound}
use Rattle.icn_defs.specs.Interruptions.{Breaks, Streams}
use Rattle.icn_meaning.specs.Program.{program}
use Rattle.icn_meaning.specs.Meaning.{Means}
use Rattle.icn_run.specs.LinkedStep as Linked
use Rattle.icn_run.specs.LinkedStep.{repeats_of}
use Rattle.icn_run.specs.FlatStep as Flat
use Rattle.law_simulation.specs.JoinedFiles.{IsJoined}
use Rattle.law_simulation.specs.Faultless.{IsFaultless}

-- These files break no rule, and these tables are their joined code.
pub record IsLinked (files : List (List Declaration)) (tables : Tables) : Type 0 where
  pub faultless : All IsFaultless files
  pub code : IsJoined files tables

-- the program of these files, begun so, means an end of which this is observed
abbrev pub FilesMean : List (List Declaration) → Launch → Observation → Type 0
FilesMean files launch seen = Means (program files) launch seen

-- the run of this code, begun so, comes to an end of which this is observed: on linked marks, and on flat
-- stacks
abbrev pub RunsLinked : Tables → Launch → Observation → Type 0
RunsLinked tables launch seen = Linked.Runs (repeats_of tables) tables launch seen

-- a run of the code on flat stacks is observed so
abbrev pub RunsFlat : Tables → Launch → Observation → Type 0
RunsFlat tables launch seen = Flat.Runs tables launch seen

-- the procedures of these files that are not kept, by their numbers
abbrev pub dropped_procedures : List (List Declaration) → List ℕ
dropped_procedures files = (program files).hidden

-- the runs of this code in which no text names these procedures, on linked marks and on flat stacks
abbrev pub RunsLinkedHiding : List ℕ → Tables → Launch → Observation → Type 0
RunsLinkedHiding hidden tables launch seen = Linked.RunsHiding (repeats_of tables) hidden tables launch seen

-- such a run of the code on flat stacks is observed so
abbrev pub RunsFlatHiding : List ℕ → Tables → Launch → Observation → Type 0
RunsFlatHiding hidden tables launch seen = Flat.RunsHiding hidden tables launch seen

-- Broken off at one moment, what comes to some end leaves these streams so.
pub record BrokenOff (Sees : Launch → Observation → Type 0) (launch : Launch)
    (before after : Streams) : Type 0
  where
    pub seen : Observation
    pub sees : Sees launch seen
    pub breaks : Breaks launch.outside seen.outside before after

-- the same launch with another bound of turns, another limit of string bytes, and another one of cells
abbrev pub with_turns : ℕ → Launch → Launch
with_turns n launch = record launch { bounds = record launch.bounds { turns = n } }

-- the same launch with another limit of string bytes
abbrev pub with_strings : ℕ → Launch → Launch
with_strings n launch = record launch { bounds = record launch.bounds { strings = n } }

-- the same launch with another limit of cells
abbrev pub with_cells : ℕ → Launch → Launch
with_cells n launch = record launch { bounds = record launch.bounds { cells = n } }

-- What is seen takes exactly so much of what is limited: with so much it ends so, and not for want of it; and with
-- less it ends for want of it.
pub record Takes (limited : ℕ → Launch → Launch) (want : Ending) (Sees : Launch → Observation → Type 0)
    (launch : Launch) (amount : ℕ) (seen : Observation) : Type 0 where
  pub ends : Sees (limited amount launch) seen
  pub other : seen.ending ≡ want → ⊥
  pub short : (less : ℕ) → less < amount
      → (end : Observation) × Sees (limited less launch) end × (end.ending ≡ want)

-- exactly so many turns, string bytes, and cells
abbrev pub TakesTurns : (Launch → Observation → Type 0) → Launch → ℕ → Observation → Type 0
TakesTurns Sees launch amount seen = Takes with_turns AtBound Sees launch amount seen

-- a run takes exactly so many string bytes
abbrev pub TakesStrings : (Launch → Observation → Type 0) → Launch → ℕ → Observation → Type 0
TakesStrings Sees launch amount seen = Takes with_strings (Errored 306) Sees launch amount seen

-- a run takes exactly so many cells
abbrev pub TakesCells : (Launch → Observation → Type 0) → Launch → ℕ → Observation → Type 0
TakesCells Sees launch amount seen = Takes with_cells (Errored 307) Sees launch amount seen
