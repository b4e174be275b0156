-- What the writing of opened files leaves of a store.
use Rattle.std.specs.Prelude.{◌≡◌, ◌++◌, [], ◌∷◌, List, Option, Result, Ok, Err, ⊤}
use Rattle.icn_host.specs.FileMaps.{FileMap, StoreState}
use Rattle.icn_host.specs.declared.fault.Fault.{Fault}
use Rattle.icn_host.specs.declared.fault.Fault.TheVariants.{Failed, NoMemory}
use Rattle.icn_value.specs.Store.{Event, AReading, OutputByte, ErrorByte, FileReading, FileWriting, Outside}
use Rattle.icn_defs.specs.Interruptions.{HoldsMap, LeavesStore, files_behind}
use Rattle.icn_streams.specs.Handed.{KeepsStoreCounts, StoreFailsOnce, StoreWantsOnce}

-- in these events files are looked for and written, and nothing else is done
abbrev pub AreOfFiles : List Event → Type 0
AreOfFiles [] = ⊤
AreOfFiles (AReading asked ∷ later) = ⊥
AreOfFiles (OutputByte byte ∷ later) = ⊥
AreOfFiles (ErrorByte byte ∷ later) = ⊥
AreOfFiles (FileReading name ∷ later) = AreOfFiles later
AreOfFiles (FileWriting name bytes ∷ later) = AreOfFiles later

-- The store was broken off in one of the calls by which it comes from the one outside to the other: those in front of it
-- were made, and of those behind it none.
pub record BreaksWriting (was end : Outside) (before after : Option FileMap) : Type 0 where
  pub done : List Event
  pub call : Event
  pub due : List Event
  pub are : end.history ≡ was.history ++ (done ++ call ∷ due)
  pub of_files : AreOfFiles done
  pub leaves : LeavesStore call (files_behind was.files done) before after

-- What was answered where a store that holds these files was to come from the one outside to the other.
abbrev pub ComesToFiles : Outside → Outside → Option FileMap → Option FileMap → Result (Unit {0}) Fault
    → Type 0
ComesToFiles was end before after (Ok done) = HoldsMap before after end.files
ComesToFiles was end before after (Err fault) = BreaksWriting was end before after

-- a fault is answered where the store has failed, once, and want of memory where it has wanted it, once
abbrev pub StoreCause : Result (Unit {0}) Fault → StoreState → StoreState → Type 0
StoreCause (Ok done) before after = KeepsStoreCounts before after
StoreCause (Err Failed) before after = StoreFailsOnce before after
StoreCause (Err NoMemory) before after = StoreWantsOnce before after
