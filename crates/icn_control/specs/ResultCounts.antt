-- How many results co-expressions gave, against the turns that were made.
use Rattle.std.specs.Prelude.{ℕ, ◌+◌, ◌<◌, ◌≤◌, ◌≢◌, List, slice_index, slice_get}
use Rattle.icn_heap.specs.Heaps.{heap_of}
use Rattle.icn_coexp.specs.Transfers.{Coexp, activator_in}
use Rattle.icn_control.specs.declared.machine.Machine.{Machine}

-- A co-expression other than `&main` was entered by a turn before each of its results, and each result is a turn; the active one was entered by one
-- more.
pub record FitTurns (turns active : ℕ) (counts : List ℕ) : Type 0 where
  pub all : (n : ℕ) → 0 < n → slice_index counts n + slice_index counts n ≤ turns
  pub entered : 0 < active → slice_index counts active + slice_index counts active + 1 ≤ turns

-- none but `&main` was entered last by itself
abbrev pub EnterOthers : List Coexp → Type 0
EnterOthers coexps = (n : ℕ) → 0 < n → activator_in (slice_get coexps n) ≢ n

-- No co-expression gave more results than half the turns, so that each count has room.
pub record AreCounted {K : Type 0} (m : Machine K) : Type 0 where
  pub results : FitTurns m.turns m.stacks.table.active (heap_of m.world.heap).coexps
  pub activators : EnterOthers m.stacks.table.coexps

-- the same where a turn more was counted, for whatever is entered next
pub record HasTurn {K : Type 0} (m : Machine K) : Type 0 where
  pub results : (n : ℕ) → 0 < n
      → slice_index (heap_of m.world.heap).coexps n + slice_index (heap_of m.world.heap).coexps n + 1
      ≤ m.turns
  pub activators : EnterOthers m.stacks.table.coexps
