-- Halts of a machine whose instruction could not be done.
use Rattle.std.proofs.Common.{◌≡◌, ℕ, Option, Some, None, IsSome, Result, Ok, Err, MatchResult, refl, sym, subst}
use Rattle.std.specs.Prelude.{IsErrAnd}
use Rattle.std.specs.Option.{option_map}
use Rattle.icn_value.specs.declared.val.Val.{Val}
use Rattle.icn_value.specs.Store.{Setting}
use Rattle.icn_defs.specs.Rows.{Row, Error}
use Rattle.icn_heap.specs.Extents.{Extent, value_in}
use Rattle.icn_heap.specs.Heaps.{extent_of}
use Rattle.icn_vars.specs.declared.stop.Stop.{Stop}
use Rattle.icn_vars.specs.declared.stop.Stop.TheVariants.{Error as StopError, NoMemory as StopNoMemory}
use Rattle.icn_vars.specs.declared.outcome.Halt.{Halt}
use Rattle.icn_vars.specs.declared.outcome.Halt.TheVariants as Halts
use Rattle.icn_vars.specs.declared.world.World.{World}
use Rattle.icn_vars.specs.Outcomes.{HaltsRow}
use Rattle.icn_vars.specs.Stops.{halt_of}
use Rattle.icn_code.specs.Codes.{Tables}
use Rattle.icn_run.specs.Stacks.{Frames}
use Rattle.icn_run.specs.Step.{State, Store, errs, with_world}
use Rattle.icn_vars.specs.Worlds.{Reach, world_of}
use Rattle.icn_frames.specs.Stacks.{FlatStack}
use Rattle.icn_coexp.specs.Transfers.{CoexpTable}
use Rattle.icn_control.specs.LiveStacks.{IsLiveStack}
use Rattle.icn_control.specs.Soundness.{HasItsStack, UnlessEnded}
use Rattle.icn_control.specs.StackAndWorld.{HaltsWith}
use Rattle.icn_control.specs.TakenOperands.{UnlessNoMemory}
use Rattle.icn_control.specs.Machines.{AreLiveStacks, IsLiveRunning}
use Rattle.icn_control.specs.declared.machine.Machine.{Machine}
use Rattle.icn_control.specs.declared.machine.RunState.{RunState}
use Rattle.icn_control.proofs.StackAndWorldSteps.{match_halt}

-- an option that is not empty has a value
pub value_of_some : {A : Type 0} (o : Option A) → IsSome o → (x : A) × (o ≡ Some x)
value_of_some (Some x) k = (x, refl)
value_of_some None k = cc

-- an answer that is a stop, whose error is what is due
pub match_stopped : {A : Type 0} (result : Result A Halt) (stop : Stop) (P : A → Type 0) (Q : Halt → Type 0) → IsErrAnd result (λ h. h ≡ halt_of stop)
    → Q Halts.NoMemory
    → ((number : ℕ) (offending : Option Val) → stop ≡ StopError number offending → Q (Halts.Error number offending)) → MatchResult result P Q
match_stopped {A} result stop P Q e none h = match_halt result (halt_of stop) P Q e (by_stop stop h)
  where
    by_stop : (s : Stop) → ((number : ℕ) (offending : Option Val) → s ≡ StopError number offending → Q (Halts.Error number offending)) → Q (halt_of s)
    by_stop (StopError number offending) g = g number offending refl
    by_stop StopNoMemory g = none

-- the error of a row that stopped
pub row_error : (all : Extent) (row : Row) (before after : Setting) (stop : Stop) (number : ℕ) (offending : Option Val)
    → HaltsRow all row before after (halt_of stop) → stop ≡ StopError number offending
    → row before ≡ Error number (option_map (value_in all) offending) after
row_error all row before after stop number offending h e = subst (λ (s : Stop). HaltsRow all row before after (halt_of s)) e h

-- the error of a value that was not found
pub value_error : (state : State Frames Frames) (st : Store Frames) (w : World) (m : Frames) (stop : Stop) (number : ℕ) (offending : Option Val)
    → HaltsWith state st w m (halt_of stop) → stop ≡ StopError number offending
    → state ≡ errs number (option_map (value_in (extent_of w.heap)) offending) m (with_world (world_of w) st)
value_error state st w m stop number offending h e = subst (λ (s : Stop). HaltsWith state st w m (halt_of s)) e h

-- what holds whatever is answered holds unless the run ended
pub unless_ended : {A : Type 0} (result : Result A Halt) (P : Type 0) → P → UnlessEnded result P
unless_ended (Ok a) P p = p
unless_ended (Err (Halts.Error number offending)) P p = p
unless_ended (Err (Halts.Ends status)) P p = tt
unless_ended (Err Halts.ReadFault) P p = tt
unless_ended (Err Halts.WriteFault) P p = tt
unless_ended (Err Halts.FileFault) P p = tt
unless_ended (Err Halts.NoMemory) P p = tt

-- what holds at a halt, unless the run ended, holds where another call hands that halt on
pub unless_handed : (A B : Type 0) (halt : Halt) (P : Type 0) → UnlessEnded {A = A} (Err halt) P → UnlessEnded {A = B} (Err halt) P
unless_handed A B (Halts.Error number offending) P p = p
unless_handed A B (Halts.Ends status) P p = tt
unless_handed A B Halts.ReadFault P p = tt
unless_handed A B Halts.WriteFault P p = tt
unless_handed A B Halts.FileFault P p = tt
unless_handed A B Halts.NoMemory P p = tt

-- what holds whatever is answered holds unless memory was wanting
pub unless_found : {A : Type 0} (result : Result A Stop) (P : Type 0) → P → UnlessNoMemory result P
unless_found (Ok a) P p = p
unless_found (Err (StopError number offending)) P p = p
unless_found (Err StopNoMemory) P p = tt

-- what holds of a stop, unless memory was wanting, holds unless the run ended by it
pub unless_stopped : {A : Type 0} (B : Type 0) (result : Result A Halt) (stop : Stop) (P : Type 0) → IsErrAnd result (λ h. h ≡ halt_of stop)
    → UnlessNoMemory {A = B} (Err stop) P → UnlessEnded result P
unless_stopped {A} B (Err halt) stop P e p = subst (λ (h : Halt). UnlessEnded {A = A} (Err h) P) (sym e) (by_stop stop p)
  where
    by_stop : (s : Stop) → UnlessNoMemory {A = B} (Err s) P → UnlessEnded {A = A} (Err (halt_of s)) P
    by_stop (StopError number offending) q = q
    by_stop StopNoMemory q = tt
unless_stopped B (Ok a) stop P e p = absurd e

-- what follows of two things holds unless the run ended, where they do unless it ended by this
pub both_unless_ended : {A : Type 0} (B : Type 0) (result : Result A Halt) (halt : Halt) (P Q R : Type 0) → IsErrAnd result (λ h. h ≡ halt)
    → (P → Q → R) → UnlessEnded {A = B} (Err halt) P → UnlessEnded {A = B} (Err halt) Q → UnlessEnded result R
both_unless_ended {A} B (Err h) halt P Q R e f p q = subst (λ (x : Halt). UnlessEnded {A = A} (Err x) R) (sym e) (by_halt halt p q)
  where
    by_halt : (x : Halt) → UnlessEnded {A = B} (Err x) P → UnlessEnded {A = B} (Err x) Q → UnlessEnded {A = A} (Err x) R
    by_halt (Halts.Error number offending) a b = f a b
    by_halt (Halts.Ends status) a b = tt
    by_halt Halts.ReadFault a b = tt
    by_halt Halts.WriteFault a b = tt
    by_halt Halts.FileFault a b = tt
    by_halt Halts.NoMemory a b = tt
both_unless_ended B (Ok a) halt P Q R e f p q = absurd e

-- where a stack runs it does so after a halt
pub halt_has_stack : {K : Type 0} (m : Machine K) (result : Result RunState Halt) (halt : Halt) → IsErrAnd result (λ h. h ≡ halt)
    → IsSome m.stacks.table.running → HasItsStack m result
halt_has_stack m (Ok stage) halt e k = absurd e
halt_has_stack m (Err (Halts.Error number offending)) halt e k = k
halt_has_stack m (Err (Halts.Ends status)) halt e k = tt
halt_has_stack m (Err Halts.ReadFault) halt e k = tt
halt_has_stack m (Err Halts.WriteFault) halt e k = tt
halt_has_stack m (Err Halts.FileFault) halt e k = tt
halt_has_stack m (Err Halts.NoMemory) halt e k = tt

-- the stack that runs is of the world
pub running_live : (t : Tables) (reach : Reach) (table : CoexpTable) (m : FlatStack) → table.running ≡ Some m → AreLiveStacks t reach table
    → IsLiveStack t reach m
running_live t reach table m e k = subst (λ (o : Option FlatStack). IsLiveRunning t reach o) e k.runs
