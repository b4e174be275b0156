-- What a step of failing comes to.
use Rattle.std.specs.Prelude.{◌≡◌, ◌<◌, length, ⊤}
use Rattle.icn_heap.specs.Extents.{Extent}
use Rattle.icn_heap.specs.Heaps.{extent_of}
use Rattle.icn_vars.specs.declared.world.World.{World}
use Rattle.icn_vars.specs.Worlds.{Reach, world_of}
use Rattle.icn_value.specs.Store.{Names}
use Rattle.icn_vars.specs.Outcomes.{IsLiveResidual, residual_in}
use Rattle.law_names.specs.NamedSettings.{ResidualNamed}
use Rattle.icn_frames.specs.Stacks.{FlatStack}
use Rattle.icn_code.specs.Codes.{Tables}
use Rattle.icn_run.specs.Calls.{Op, Proc}
use Rattle.icn_run.specs.Stacks.{Frames, flat}
use Rattle.icn_run.specs.Step.{State, Store, running, failing, fails, with_world, turn, resume_by, without_mark, mark_dropped}
use Rattle.law_steps.specs.StateNames.{StackNamed}
use Rattle.icn_control.specs.declared.failing.AfterFailure.{AfterFailure}
use Rattle.icn_control.specs.declared.failing.AfterFailure.TheVariants as AfterFailures
use Rattle.icn_control.specs.declared.failing.Fallen.{Fallen}
use Rattle.icn_control.specs.declared.failing.Fallen.TheVariants as Fallens
use Rattle.icn_control.specs.LiveStacks.{with_locals, locals_at}
use Rattle.icn_control.specs.StackViews.{stack_in}

-- what is due, on this stack and with this store
abbrev pub IsDue : Extent → Tables → State Frames Frames → Store Frames → FlatStack → AfterFailure → Type 0
IsDue all tables state st m AfterFailures.Failing = state ≡ failing (stack_in all m) st
IsDue all tables state st m AfterFailures.Running = state ≡ running (stack_in all m) st
IsDue all tables state st m AfterFailures.Beginning = state ≡ turn tables st (running (stack_in all m))
IsDue all tables state st m (AfterFailures.Resuming rest) =
    state ≡ resume_by flat tables (Op (residual_in all rest)) (stack_in all m) st
IsDue all tables state st m AfterFailures.Reentering = state ≡ resume_by flat tables Proc (stack_in all m) st
IsDue all tables state st m AfterFailures.Leaving = state ≡ without_mark flat tables (stack_in all m) st

-- the same in this world
abbrev pub FallsTo : Tables → State Frames Frames → Store Frames → World → FlatStack → AfterFailure → Type 0
FallsTo tables state st w m due = IsDue (extent_of w.heap) tables state (with_world (world_of w) st) m due

-- the innermost mark of a stack is dropped
abbrev pub DropsTo : FlatStack → FlatStack → AfterFailure → Type 0
DropsTo m n due =
    (all : Extent) (tables : Tables) (st : Store Frames)
    → IsDue all tables (mark_dropped flat tables (stack_in all m) st (flat.drop_mark (stack_in all m)))
    st n due

-- what is due, among all that may be
abbrev pub due_of : Fallen → AfterFailure
due_of Fallens.Failing = AfterFailures.Failing
due_of Fallens.Running = AfterFailures.Running
due_of Fallens.Beginning = AfterFailures.Beginning
due_of Fallens.Reentering = AfterFailures.Reentering
due_of Fallens.Leaving = AfterFailures.Leaving

-- a step of failing on this stack leads to that one, and to what is due, in each world, which stays
abbrev pub FallsAlone : FlatStack → FlatStack → AfterFailure → Type 0
FallsAlone m n due = (w : World) (tables : Tables) (st : Store Frames) → st.world ≡ world_of w
    → FallsTo tables (fails flat tables (stack_in (extent_of w.heap) m) st) st w n due

-- what is resumed is of the world
abbrev pub IsLiveDue : Reach → FlatStack → AfterFailure → Type 0
IsLiveDue reach m (AfterFailures.Resuming rest) =
    IsLiveResidual (with_locals (locals_at m.registers m.cells) reach) rest
IsLiveDue reach m AfterFailures.Failing = ⊤
IsLiveDue reach m AfterFailures.Running = ⊤
IsLiveDue reach m AfterFailures.Beginning = ⊤
IsLiveDue reach m AfterFailures.Reentering = ⊤
IsLiveDue reach m AfterFailures.Leaving = ⊤

-- where the code goes on failing, there are fewer cells
abbrev pub FallsBelow : FlatStack → FlatStack → AfterFailure → Type 0
FallsBelow m n AfterFailures.Failing = length n.cells < length m.cells
FallsBelow m n AfterFailures.Running = ⊤
FallsBelow m n AfterFailures.Beginning = ⊤
FallsBelow m n (AfterFailures.Resuming rest) = ⊤
FallsBelow m n AfterFailures.Reentering = ⊤
FallsBelow m n AfterFailures.Leaving = ⊤

-- what is to be resumed names only what has a name
abbrev pub DueNamed : Names → Extent → AfterFailure → Type 0
DueNamed names all (AfterFailures.Resuming rest) = ResidualNamed names (residual_in all rest)
DueNamed names all AfterFailures.Failing = ⊤
DueNamed names all AfterFailures.Running = ⊤
DueNamed names all AfterFailures.Beginning = ⊤
DueNamed names all AfterFailures.Reentering = ⊤
DueNamed names all AfterFailures.Leaving = ⊤

-- where what a stack names has a name, so it is on the stack after, and so is what is to be resumed
abbrev pub FallsNamed : Extent → FlatStack → FlatStack → AfterFailure → Type 0
FallsNamed all m n due = (names : Names) → StackNamed names (stack_in all m)
    → StackNamed names (stack_in all n) × DueNamed names all due
