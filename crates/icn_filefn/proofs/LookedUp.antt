-- What a look-up leaves of what is handed, and what it finds where outputs could not be settled.
use Rattle.std.proofs.Common.{◌≡◌, ◌≤◌, refl, sym, subst, List, ℕ, Option, Result, Ok, Err, Vec}
use Rattle.std.specs.Prelude.{IsErrAnd}
use Rattle.icn_host.specs.FileMaps.{FileMap, StoreState}
use Rattle.icn_host.specs.Sinks.{SinkState}
use Rattle.icn_host.specs.Sources.{SourceCounts}
use Rattle.icn_value.specs.declared.mode.FileMode.{FileMode}
use Rattle.icn_vars.specs.declared.outcome.Halt.{Halt}
use Rattle.icn_vars.specs.declared.outcome.Halt.TheVariants.{Error as ErrorHalt, Ends as EndsHalt, ReadFault, WriteFault, FileFault, NoMemory}
use Rattle.icn_streams.specs.Handed.{CallStreams, KeepsStoreCounts, LeavesStreams, StoreFailsOnce, StoreWantsOnce, call_streams, files_want}
use Rattle.icn_streams.specs.Settling.{IsSettled, Settles}
use Rattle.icn_streams.proofs.IdleCalls.{keeps_store_refl, leaves_sink_refl}
use Rattle.icn_filefn.specs.OpenParts.{FindsOfSome, LooksUpBy}
use Rattle.icn_filefn.proofs.FoundContent.{finds_want, finds_write_fault}
use Rattle.icn_filefn.proofs.StoreCalls.{of_both}

-- the type of what is answered
abbrev pub type_of : {A : Type 0} → Result A Halt → Type 0
type_of {A} result = A

-- The counts of a store

pub kept_counts : {a b : StoreState} → b.counts.faults ≡ a.counts.faults → b.counts.wants ≡ a.counts.wants
    → a.counts.absences ≤ b.counts.absences → KeepsStoreCounts a b
kept_counts faults wants absences = record { faults = faults; wants = wants; absences = absences }

-- Nothing is looked for

pub looks_none : {A : Type 0} (a : CallStreams) (found : A) → LooksUpBy a a (Ok found)
looks_none a found = record {
  held = refl;
  counts = keeps_store_refl a.files;
  left = refl;
  faults = refl;
  calls = refl;
  output = leaves_sink_refl a.output;
  errors = leaves_sink_refl a.errors;
}

-- An output could not be settled

looks_halted : (A B : Type 0) (a b : CallStreams) (halt : Halt) → Settles {A = A} a b (Err halt) → LooksUpBy {A = B} a b (Err halt)
looks_halted A B a b (ErrorHalt number offending) stops = absurd stops
looks_halted A B a b (EndsHalt status) stops = absurd stops
looks_halted A B a b ReadFault stops = absurd stops
looks_halted A B a b WriteFault stops = stops
looks_halted A B a b FileFault stops = absurd stops
looks_halted A B a b NoMemory stops = (of_both stops.0, stops.1)

pub looks_unsettled : (A : Type 0) {B : Type 0} (a b : CallStreams) (halt : Halt) (result : Result B Halt) → IsErrAnd result (λ other. other ≡ halt)
    → Settles {A = A} a b (Err halt) → LooksUpBy a b result
looks_unsettled A a b halt (Ok found) same stops = absurd same
looks_unsettled A {B} a b halt (Err other) same stops =
    subst (λ (h : Halt). LooksUpBy {A = B} a b (Err h)) (sym same) (looks_halted A B a b halt stops)

finds_halted : (A B : Type 0) (mode : FileMode) (name : List ℕ) (held : Option FileMap) (a b : CallStreams) (halt : Halt)
    → Settles {A = A} a b (Err halt) → FindsOfSome {A = B} mode name held (Err halt)
finds_halted A B mode name held a b (ErrorHalt number offending) stops = absurd stops
finds_halted A B mode name held a b (EndsHalt status) stops = absurd stops
finds_halted A B mode name held a b ReadFault stops = absurd stops
finds_halted A B mode name held a b WriteFault stops = finds_write_fault mode name held
finds_halted A B mode name held a b FileFault stops = absurd stops
finds_halted A B mode name held a b NoMemory stops = finds_want mode name held

pub finds_unsettled : (A : Type 0) {B : Type 0} (mode : FileMode) (name : List ℕ) (held : Option FileMap) (a b : CallStreams) (halt : Halt)
    (result : Result (Option (Vec ℕ B)) Halt) → IsErrAnd result (λ other. other ≡ halt) → Settles {A = A} a b (Err halt)
    → FindsOfSome mode name held result
finds_unsettled A mode name held a b halt (Ok found) same stops = absurd same
finds_unsettled A {B} mode name held a b halt (Err other) same stops =
    subst (λ (h : Halt). FindsOfSome {A = B} mode name held (Err h)) (sym same) (finds_halted A B mode name held a b halt stops)

pending_so : (A B : Type 0) (a b : CallStreams) (halt : Halt) (o e : ℕ) → Settles {A = A} a b (Err halt) → IsSettled {A = B} (Err halt) o e
pending_so A B a b (ErrorHalt number offending) o e stops = absurd stops
pending_so A B a b (EndsHalt status) o e stops = absurd stops
pending_so A B a b ReadFault o e stops = absurd stops
pending_so A B a b WriteFault o e stops = tt
pending_so A B a b FileFault o e stops = absurd stops
pending_so A B a b NoMemory o e stops = tt

-- and so something may be pending
pub still_pending : (A : Type 0) {B : Type 0} (a b : CallStreams) (halt : Halt) (result : Result B Halt) (o e : ℕ) → IsErrAnd result (λ other. other ≡ halt)
    → Settles {A = A} a b (Err halt) → IsSettled result o e
still_pending A a b halt (Ok value) o e same stops = absurd same
still_pending A {B} a b halt (Err other) o e same stops =
    subst (λ (h : Halt). IsSettled {A = B} (Err h) o e) (sym same) (pending_so A B a b halt o e stops)

-- Outputs were settled, and the store was asked

module _ (store store' : StoreState) (left : Option (List ℕ)) (counts : SourceCounts) (o o' e e' : SinkState)
    (settled : LeavesStreams (call_streams store left counts o e) (call_streams store left counts o' e')) (held : store'.held ≡ store.held) where
  -- it answered
  pub looks_up : {A : Type 0} (found : A) → KeepsStoreCounts store store'
      → LooksUpBy (call_streams store left counts o e) (call_streams store' left counts o' e') (Ok found)
  looks_up found kept =
      record { held = held; counts = kept; left = refl; faults = refl; calls = refl; output = settled.output; errors = settled.errors }

  -- it failed
  pub looks_failing : (A : Type 0) → StoreFailsOnce store store'
      → LooksUpBy {A = A} (call_streams store left counts o e) (call_streams store' left counts o' e') (Err FileFault)
  looks_failing A fails = (
    held,
    record { files = fails; left = refl; faults = refl; calls = refl; output = settled.output; errors = settled.errors },
  )

  -- it wanted memory
  pub looks_wanting : (A : Type 0) → StoreWantsOnce store store'
      → LooksUpBy {A = A} (call_streams store left counts o e) (call_streams store' left counts o' e') (Err NoMemory)
  looks_wanting A wants = (
    record { held = held; left = refl; calls = refl; output = settled.output.held; errors = settled.errors.held },
    files_want wants refl settled.output.counts settled.errors.counts,
  )
