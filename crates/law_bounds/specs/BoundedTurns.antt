-- Settings and outcomes under another bound of turns, and rows that do not look at it.
use Rattle.std.specs.Prelude.{◌≡◌, ℕ}
use Rattle.icn_value.specs.Store.{Heap, World, Setting}
use Rattle.icn_defs.specs.Rows.{Row, Outcome, Fails, Gives, Suspends, Error, Ends}

-- the heap, with this bound of turns among its limits
abbrev pub heap_under : ℕ → Heap → Heap
heap_under bound heap = record heap { bounds = record heap.bounds { turns = bound } }

-- the world under this bound of turns
abbrev pub world_under : ℕ → World → World
world_under bound world = record world { heap = heap_under bound world.heap }

-- the setting under this bound of turns
abbrev pub setting_under : ℕ → Setting → Setting
setting_under bound setting = record setting { world = world_under bound setting.world }

-- what a row comes to, with the setting after it under this bound of turns
abbrev pub outcome_under : ℕ → Outcome → Outcome
outcome_under bound (Fails setting) = Fails (setting_under bound setting)
outcome_under bound (Gives item setting) = Gives item (setting_under bound setting)
outcome_under bound (Suspends item rest setting) = Suspends item rest (setting_under bound setting)
outcome_under bound (Error number offending setting) = Error number offending (setting_under bound setting)
outcome_under bound (Ends status setting) = Ends status (setting_under bound setting)

-- The row does not look at the bound of turns: under this one it comes to the same, and leaves it.
pub record OverlooksBound (bound : ℕ) (row : Row) : Type 0 where
  pub same : (setting : Setting) → row (setting_under bound setting) ≡ outcome_under bound (row setting)
