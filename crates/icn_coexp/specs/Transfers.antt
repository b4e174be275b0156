-- The co-expressions of a run, and what the transfers between them change.
use Rattle.std.specs.Prelude.{◌≡◌, ◌≢◌, ℕ, Bool, true, false, List, [], ◌∷◌, ◌++◌, slice_get, slice_set, Option, Some, None}
use Rattle.icn_value.specs.declared.val.Val.{Val}
use Rattle.icn_value.specs.declared.item.Item.TheVariants as Items
use Rattle.icn_frames.specs.Stacks as flat
use Rattle.icn_frames.specs.Stacks.{FlatStack}
use Rattle.icn_frames.specs.StackInvariant.{SeenStack}
use Rattle.icn_run.specs.Step.{Status, Fresh, Active, Waiting, Exhausted}
use Rattle.icn_coexp.specs.declared.table.AfterTransfer.{AfterTransfer}
use Rattle.icn_coexp.specs.declared.table.AfterTransfer.TheVariants as AfterTransfers

-- A co-expression: it has not begun, is active, waits with its stack, or is exhausted; what entered it last; and the values, the procedure and the
-- address that it was made with.
pub record Coexp : Type 0 where
  pub status : Status FlatStack
  pub activator : ℕ
  pub values : List Val
  pub proc : ℕ
  pub address : ℕ

-- All co-expressions by their numbers, `&main` first; the active one, with the stack that runs. Where a hop is due no stack runs, and the active one
-- is the exhausted one that was reached.
pub record CoexpTable : Type 0 where
  pub coexps : List Coexp
  pub active : ℕ
  pub running : Option FlatStack

-- what callers see: the table, and for how many more cells the stack that runs has room
pub record SeenStacks : Type 0 where
  pub table : CoexpTable
  pub spare : ℕ

-- the same with this stack as the one that runs
abbrev pub with_stack : SeenStacks → SeenStack → SeenStacks
with_stack stacks stack =
    record { table = record stacks.table { running = Some stack.flat }; spare = stack.spare }

-- as a run begins
abbrev pub main_coexp : Coexp
main_coexp = record { status = Active; activator = 0; values = []; proc = 0; address = 0 }

-- the co-expressions as a run begins: `&main` alone, with this stack
abbrev pub first_table : FlatStack → CoexpTable
first_table m = record { coexps = main_coexp ∷ []; active = 0; running = Some m }

-- Looking. Each number is that of a co-expression; elsewhere these give something.

-- the status of a co-expression; one that is not there is exhausted
abbrev pub status_in : Option Coexp → Status FlatStack
status_in (Some coexp) = coexp.status
status_in None = Exhausted

-- the status of one of them
abbrev pub status_of : ℕ → CoexpTable → Status FlatStack
status_of n t = status_in (slice_get t.coexps n)

-- the activator of a co-expression; of one that is not there, `&main`
abbrev pub activator_in : Option Coexp → ℕ
activator_in (Some coexp) = coexp.activator
activator_in None = 0

-- what entered the active one last
abbrev pub source : CoexpTable → ℕ
source t = activator_in (slice_get t.coexps t.active)

-- the values of its locals that a co-expression begins with
abbrev pub values_in : Option Coexp → List Val
values_in (Some coexp) = coexp.values
values_in None = []

-- the values that a co-expression was made with
abbrev pub values_of : ℕ → CoexpTable → List Val
values_of n t = values_in (slice_get t.coexps n)

-- Changing

-- another status of one of them
abbrev pub with_status_in : ℕ → Status FlatStack → List Coexp → Option Coexp → List Coexp
with_status_in n status coexps (Some coexp) = slice_set coexps n (record coexp { status = status })
with_status_in n status coexps None = coexps

-- another status of the co-expression of this number
abbrev pub with_status : ℕ → Status FlatStack → List Coexp → List Coexp
with_status n status coexps = with_status_in n status coexps (slice_get coexps n)

-- another activator of one of them
abbrev pub with_activator_in : ℕ → ℕ → List Coexp → Option Coexp → List Coexp
with_activator_in n activator coexps (Some coexp) =
    slice_set coexps n (record coexp { activator = activator })
with_activator_in n activator coexps None = coexps

-- another activator of the co-expression of this number
abbrev pub with_activator : ℕ → ℕ → List Coexp → List Coexp
with_activator n activator coexps = with_activator_in n activator coexps (slice_get coexps n)

-- one more, made with these values for this procedure, to begin at this address
abbrev pub with_new : List Val → ℕ → ℕ → CoexpTable → CoexpTable
with_new values proc address t = record t {
  coexps = t.coexps
      ++ record { status = Fresh; activator = 0; values = values; proc = proc; address = address }
      ∷ [];
}

-- one more, made as another one was
abbrev pub with_copy : CoexpTable → Option Coexp → CoexpTable
with_copy t (Some coexp) = with_new coexp.values coexp.proc coexp.address t
with_copy t None = t

-- Entering

-- a co-expression becomes the active one, on this stack
abbrev pub on_stack : ℕ → FlatStack → CoexpTable → CoexpTable
on_stack n m t = record { coexps = with_status n Active t.coexps; active = n; running = Some m }

-- an exhausted one is reached
abbrev pub hop_to : ℕ → CoexpTable → CoexpTable
hop_to n t = record t { active = n; running = None }

-- a fresh co-expression begins, on a stack of its own
abbrev pub begin_by : ℕ → CoexpTable → Option Coexp → CoexpTable
begin_by n t (Some coexp) = on_stack n (flat.begin coexp.proc coexp.values coexp.address) t
begin_by n t None = t

-- A co-expression is entered with a value: a fresh one begins, a waiting one gets the value as an operand, an exhausted one passes on.
abbrev pub give_by : ℕ → Val → CoexpTable → Status FlatStack → Option CoexpTable
give_by n value t Fresh = Some (begin_by n t (slice_get t.coexps n))
give_by n value t Active = None
give_by n value t (Waiting m) = Some (on_stack n (flat.push (Items.Val value) m) t)
give_by n value t Exhausted = Some (hop_to n t)

-- the co-expression of this number is entered with a value
abbrev pub enter_with : ℕ → Val → CoexpTable → Option CoexpTable
enter_with n value t = give_by n value t (status_of n t)

-- A co-expression is entered with failure: its stack comes back, and an exhausted one passes on.
abbrev pub fail_by : ℕ → CoexpTable → Status FlatStack → Option CoexpTable
fail_by n t Fresh = None
fail_by n t Active = None
fail_by n t (Waiting m) = Some (on_stack n m t)
fail_by n t Exhausted = Some (hop_to n t)

-- the co-expression of this number is entered with failure
abbrev pub enter_failing : ℕ → CoexpTable → Option CoexpTable
enter_failing n t = fail_by n t (status_of n t)

-- the active one waits with the stack that runs
abbrev pub wait_on : CoexpTable → Option FlatStack → CoexpTable
wait_on t (Some m) = record t { coexps = with_status t.active (Waiting m) t.coexps }
wait_on t None = t

-- the active co-expression waits with its stack, if it has one that runs
abbrev pub with_waiting : CoexpTable → CoexpTable
with_waiting t = wait_on t t.running

-- The transfers

-- another one is entered with a value: the active one waits, and becomes its activator
abbrev pub enter_other : ℕ → Val → CoexpTable → Option CoexpTable
enter_other n value t = let left = with_waiting t in
    enter_with n value (record left { coexps = with_activator n t.active left.coexps })

-- the active one gives a value to its activator, and waits
abbrev pub give : Val → CoexpTable → Option CoexpTable
give value t = enter_with (source t) value (with_waiting t)

-- the active one is exhausted, and its activator is entered with failure
abbrev pub exhaust : CoexpTable → Option CoexpTable
exhaust t = enter_failing (source t) (record t { coexps = with_status t.active Exhausted t.coexps })

-- whether one is exhausted
abbrev pub exhausted_of : Status FlatStack → Bool
exhausted_of Exhausted = true
exhausted_of status = false

-- What an activation answers: an exhausted one and the active one itself change nothing.
abbrev pub Activates : ℕ → Val → CoexpTable → AfterTransfer → CoexpTable → Type 0
Activates n value t (AfterTransfers.Same v) u = (n ≡ t.active) × (v ≡ value) × (u ≡ t)
Activates n value t AfterTransfers.Exhausted u = (status_of n t ≡ Exhausted) × (u ≡ t)
Activates n value t AfterTransfers.Moved u =
    (n ≢ t.active) × (exhausted_of (status_of n t) ≡ false) × (enter_other n value t ≡ Some u)

-- where nothing moved the room stays
abbrev pub KeepsRoom : AfterTransfer → ℕ → ℕ → Type 0
KeepsRoom AfterTransfers.Moved old new = Unit {0}
KeepsRoom went old new = new ≡ old

-- what a transfer comes to, by the stack that runs behind it
abbrev pub went_by : Option FlatStack → AfterTransfer
went_by (Some m) = AfterTransfers.Moved
went_by None = AfterTransfers.Exhausted

-- what a transfer to an activator answers: the one that was reached is exhausted exactly where no stack runs then
abbrev pub went_to : CoexpTable → AfterTransfer
went_to t = went_by t.running

-- Laws

-- All but two co-expressions stay as they were.
abbrev pub KeepsOthers : ℕ → ℕ → List Coexp → List Coexp → Type 0
KeepsOthers left entered old new = (n : ℕ) → n ≢ left → n ≢ entered → slice_get new n ≡ slice_get old n

-- the status of the active one, where a stack runs and where a hop is due
abbrev pub active_status : Option FlatStack → Status FlatStack
active_status (Some m) = Active
active_status None = Exhausted

-- Where a stack runs exactly one is active; where a hop is due none is, and the one that was reached is exhausted.
pub record OneIsActive (t : CoexpTable) : Type 0 where
  pub here : status_of t.active t ≡ active_status t.running
  pub alone : (n : ℕ) → status_of n t ≡ Active → n ≡ t.active
