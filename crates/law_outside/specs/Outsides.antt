-- What a row leaves of the outside, and that the outside only grows.
use Rattle.std.specs.Prelude.{⊤, List}
use Rattle.icn_value.specs.Store.{Event, Outside}
use Rattle.icn_defs.specs.Interruptions.{ExtendsBy}
use Rattle.icn_defs.specs.Rows.{Outcome, Fails, Gives, Suspends, Error, Ends}
use Rattle.icn_run.specs.Stacks.{Frames}
use Rattle.icn_run.specs.Step.{State, running, failing, hopping, over, stuck}

-- whatever a row comes to, this is so of its outside
abbrev pub LeavesOutside : (Outside → Type 0) → Outcome → Type 0
LeavesOutside Is (Fails seen) = Is seen.outside
LeavesOutside Is (Gives item seen) = Is seen.outside
LeavesOutside Is (Suspends item residual seen) = Is seen.outside
LeavesOutside Is (Error number value seen) = Is seen.outside
LeavesOutside Is (Ends status seen) = Is seen.outside

-- The outside that was has become the one that is now: what was done stays in front of what was done since, what is left of the input is what
-- the readings since have left of it, and the files hold what was written since.
pub record ExtendsOutside (was now : Outside) : Type 0 where
  pub done : List Event
  pub by : ExtendsBy was done now

-- this is so of the outside of a state; of one that lacks something, nothing is said
abbrev pub HasOutside : (Outside → Type 0) → State Frames Frames → Type 0
HasOutside Is (running m st) = Is st.outside
HasOutside Is (failing m st) = Is st.outside
HasOutside Is (hopping m st) = Is st.outside
HasOutside Is (over ending outside) = Is outside
HasOutside Is stuck = ⊤

-- the outside of the first of these states has become that of the second
abbrev pub StateExtends : State Frames Frames → State Frames Frames → Type 0
StateExtends (running m st) now = HasOutside (ExtendsOutside st.outside) now
StateExtends (failing m st) now = HasOutside (ExtendsOutside st.outside) now
StateExtends (hopping m st) now = HasOutside (ExtendsOutside st.outside) now
StateExtends (over ending outside) now = HasOutside (ExtendsOutside outside) now
StateExtends stuck now = ⊤
