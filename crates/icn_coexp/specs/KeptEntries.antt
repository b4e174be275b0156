-- What the entries of a table stand for, and what they keep.
use Rattle.std.specs.Prelude.{◌≡◌, ℕ, ◌<◌, List, map, slice_get, slice_set, Option, Some, None}
use Rattle.std.specs.Option.{option_map}
use Rattle.icn_value.specs.declared.val.Val.{Val}
use Rattle.icn_value.specs.declared.item.Item.TheVariants as Items
use Rattle.icn_frames.specs.Stacks as flat
use Rattle.icn_frames.specs.Stacks.{FlatStack}
use Rattle.icn_run.specs.Step as code
use Rattle.icn_coexp.specs.declared.entries.CoexpEntry.{CoexpEntry}
use Rattle.icn_coexp.specs.declared.entries.Status.{Status}
use Rattle.icn_coexp.specs.declared.entries.Status.TheVariants.{Fresh, Active, Waiting, Exhausted}
use Rattle.icn_coexp.specs.declared.entries.RunningStack.{RunningStack}
use Rattle.icn_coexp.specs.declared.entries.RunningStack.TheVariants.{On, Hopping}
use Rattle.icn_coexp.specs.Transfers.{Coexp, CoexpTable}

-- the status of an entry, with the stack that waits as callers see it
abbrev pub status_seen : {K : Type 0} → Status K → code.Status FlatStack
status_seen (Fresh stack) = code.Fresh
status_seen Active = code.Active
status_seen (Waiting stack) = code.Waiting stack.flat
status_seen Exhausted = code.Exhausted

-- an entry as callers see it
abbrev pub coexp_seen : {K : Type 0} → CoexpEntry K → Coexp
coexp_seen entry = record {
  status = status_seen entry.status;
  activator = entry.activator;
  values = entry.values.items;
  proc = entry.proc;
  address = entry.address;
}

-- the stack that runs as callers see it, if one does
abbrev pub running_seen : {K : Type 0} → RunningStack K → Option FlatStack
running_seen (On stack) = Some stack.flat
running_seen Hopping = None

-- for how many more cells there is room
abbrev pub room_of : {K : Type 0} → RunningStack K → ℕ
room_of (On stack) = stack.spare
room_of Hopping = 0

-- the table that the entries are, with the active one and the stack that runs
abbrev pub table_seen : {K : Type 0} → List (CoexpEntry K) → ℕ → RunningStack K → CoexpTable
table_seen entries active running =
    record { coexps = map coexp_seen entries; active = active; running = running_seen running }

-- another status or another activator of one of the entries

-- the entries with another status of this one, if it is there
abbrev pub status_put_in : {K : Type 0} → ℕ → Status K → List (CoexpEntry K) → Option (CoexpEntry K)
    → List (CoexpEntry K)
status_put_in n status entries (Some entry) = slice_set entries n (record entry { status = status })
status_put_in n status entries None = entries

-- the entries, of which this one has another status
abbrev pub status_put : {K : Type 0} → ℕ → Status K → List (CoexpEntry K) → List (CoexpEntry K)
status_put n status entries = status_put_in n status entries (slice_get entries n)

-- the entries with another activator of this one, if it is there
abbrev pub activator_put_in : {K : Type 0} → ℕ → ℕ → List (CoexpEntry K) → Option (CoexpEntry K)
    → List (CoexpEntry K)
activator_put_in n activator entries (Some entry) =
    slice_set entries n (record entry { activator = activator })
activator_put_in n activator entries None = entries

-- the entries, of which this one has another activator
abbrev pub activator_put : {K : Type 0} → ℕ → ℕ → List (CoexpEntry K) → List (CoexpEntry K)
activator_put n activator entries = activator_put_in n activator entries (slice_get entries n)

-- the status of one of the entries
abbrev pub status_at : {K : Type 0} → ℕ → List (CoexpEntry K) → Option (Status K)
status_at n entries = option_map (λ entry. entry.status) (slice_get entries n)

-- the stack with which a fresh or a waiting one goes on that is given a value
abbrev pub CanBeGiven : {K : Type 0} → Option (Status K) → Type 0
CanBeGiven (Some (Fresh stack)) = Unit {0}
CanBeGiven (Some (Waiting stack)) = 0 < stack.spare
CanBeGiven status = ⊥

-- a fresh co-expression goes on with its first stack, a waiting one with the value on its stack
abbrev pub IsGiven : {K : Type 0} → Val → Option (Status K) → FlatStack → Type 0
IsGiven value (Some (Fresh stack)) m = m ≡ stack.flat
IsGiven value (Some (Waiting stack)) m = m ≡ flat.push (Items.Val value) stack.flat
IsGiven value status m = ⊥

-- the stack with which a waiting one goes on that is entered with failure
abbrev pub CanFail : {K : Type 0} → Option (Status K) → Type 0
CanFail (Some (Waiting stack)) = Unit {0}
CanFail status = ⊥

-- a waiting co-expression goes on with its stack as it was
abbrev pub Comes : {K : Type 0} → Option (Status K) → FlatStack → Type 0
Comes (Some (Waiting stack)) m = m ≡ stack.flat
Comes status m = ⊥

-- whether a stack runs, and the entries once the active one waits with it
abbrev pub IsOn : {K : Type 0} → RunningStack K → Type 0
IsOn (On stack) = Unit {0}
IsOn Hopping = ⊥

-- the entries once the active co-expression waits with the stack that ran
abbrev pub WaitsIn : {K : Type 0} → ℕ → RunningStack K → List (CoexpEntry K) → List (CoexpEntry K) → Type 0
WaitsIn active (On stack) old new = new ≡ status_put active (Waiting stack) old
WaitsIn active Hopping old new = ⊥

-- it is not fresh
abbrev pub HasBegun : {K : Type 0} → Status K → Type 0
HasBegun (Fresh stack) = ⊥
HasBegun status = Unit {0}

-- an entry that is there, and not fresh
abbrev pub IsBegun : {K : Type 0} → Option (CoexpEntry K) → Type 0
IsBegun (Some entry) = HasBegun entry.status
IsBegun None = ⊥

-- `&main` has begun and is never exhausted; a fresh one has the stack with which it begins; a waiting one has room for the value that enters it
abbrev pub StatusFits : {K : Type 0} → Option ℕ → ℕ → CoexpEntry K → Status K → Type 0
StatusFits active n entry (Fresh stack) =
    (0 < n) × (stack.flat ≡ flat.begin entry.proc entry.values.items entry.address)
StatusFits active n entry Active = Some n ≡ active
StatusFits active n entry (Waiting stack) = 0 < stack.spare
StatusFits active n entry Exhausted = 0 < n

-- an entry among all, of which at most one is active
pub record Fits {K : Type 0} (entries : List (CoexpEntry K)) (active : Option ℕ) (n : ℕ)
    (entry : CoexpEntry K) : Type 0 where
  pub status : StatusFits active n entry entry.status
  pub activator : IsBegun (slice_get entries entry.activator)

-- each entry fits among all
abbrev pub AllFit : {K : Type 0} → List (CoexpEntry K) → Option ℕ → Type 0
AllFit entries active =
    (n : ℕ) (entry : CoexpEntry _) → slice_get entries n ≡ Some entry → Fits entries active n entry

-- the active one runs, or a hop is due and it is exhausted
abbrev pub RunsAs : {K : Type 0} → RunningStack K → Status K → Type 0
RunsAs (On stack) Active = Unit {0}
RunsAs Hopping Exhausted = Unit {0}
RunsAs running status = ⊥

-- the active one is there, and runs or is exhausted as it must
abbrev pub IsHere : {K : Type 0} → RunningStack K → Option (CoexpEntry K) → Type 0
IsHere running (Some entry) = RunsAs running entry.status
IsHere running None = ⊥

-- all entries are in order, and the active one is as the stack that runs asks
pub record AreInOrder {K : Type 0} (entries : List (CoexpEntry K)) (active : ℕ)
    (running : RunningStack K) : Type 0 where
  pub all : AllFit entries (Some active)
  pub here : IsHere running (slice_get entries active)
