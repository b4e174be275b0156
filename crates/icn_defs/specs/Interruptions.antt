-- What a run leaves in the streams that it was handed: where it ended, and where a fault or want of memory
-- broke it off. All is said of what is observed of the run, since every run ends.
use Rattle.std.specs.Prelude.{◌≡◌, ◌==◌, ◌+◌, ◌≤◌, ℕ, not, List, [], ◌∷◌, ◌++◌, drop, length, take_while, Option, Some}
use Rattle.icn_host.specs.Counts.{one_more, raised_count}
use Rattle.icn_host.specs.FileMaps.{Changes, FileMap, Follows as MapFollows, IsLeftBehind}
use Rattle.icn_host.specs.Sinks.{Gains}
use Rattle.icn_value.specs.Store.{Request, ALine, SomeBytes, Event, AReading, OutputByte, ErrorByte, FileReading, FileWriting, Outside, output_in, errors_in, readings_in, with_file, with_reading}
use Rattle.icn_defs.specs.Running.{Observation}

-- what the files, the input, the output and the error output tell of what they hold, and how often the input was called
pub record Streams : Type 0 where
  pub files : Option FileMap
  pub left : Option (List ℕ)
  pub calls : ℕ
  pub output : Option (List ℕ)
  pub errors : Option (List ℕ)

-- some first bytes of the input were taken, so many at most
pub record LosesPart (input : List ℕ) (most : ℕ) (left : Option (List ℕ)) : Type 0 where
  pub count : ℕ
  pub within : count ≤ most
  pub is : left ≡ Some (drop count input)

-- some first bytes of the input were taken
abbrev pub LosesSome : List ℕ → Option (List ℕ) → Type 0
LosesSome left after = (count : ℕ) × (after ≡ Some (drop count left))

-- How many of the bytes that are left a reading takes: a line with its newline, or so many bytes. Where fewer
-- are left, it takes those.
abbrev pub asked_of : Request → List ℕ → ℕ
asked_of ALine left = length (take_while (λ byte. not (byte == 10)) left) + 1
asked_of (SomeBytes count) left = count

-- what is left of an input once these events are done
abbrev pub left_behind : List ℕ → List Event → List ℕ
left_behind left [] = left
left_behind left (AReading asked ∷ later) = left_behind (drop (asked_of asked left) left) later
left_behind left (OutputByte byte ∷ later) = left_behind left later
left_behind left (ErrorByte byte ∷ later) = left_behind left later
left_behind left (FileReading name ∷ later) = left_behind left later
left_behind left (FileWriting name bytes ∷ later) = left_behind left later

-- what the file of each name holds once these events are done
abbrev pub files_behind : FileMap → List Event → FileMap
files_behind files [] = files
files_behind files (AReading asked ∷ later) = files_behind files later
files_behind files (OutputByte byte ∷ later) = files_behind files later
files_behind files (ErrorByte byte ∷ later) = files_behind files later
files_behind files (FileReading name ∷ later) = files_behind files later
files_behind files (FileWriting name bytes ∷ later) = files_behind (with_file name bytes files) later

-- the outside once a reading is made and has taken what it asks for
abbrev pub after_reading : Request → Outside → Outside
after_reading asked outside =
    record (with_reading asked outside) { left = drop (asked_of asked outside.left) outside.left }

-- From the one outside to the other these events are done: the readings take what they ask for, and nothing
-- else is taken; the files hold what is written, and nothing else is changed.
pub record ExtendsBy (was : Outside) (done : List Event) (now : Outside) : Type 0 where
  pub history : now.history ≡ was.history ++ done
  pub left : now.left ≡ left_behind was.left done
  pub files : now.files ≡ files_behind was.files done

-- a store tells that the file of each name holds this
pub record TellsMap (held : Option FileMap) (files : FileMap) : Type 0 where
  pub told : FileMap
  pub is : held ≡ Some told
  pub same : (name : List ℕ) → files name ≡ told name

-- where a store told what it held, it tells this now
pub record HoldsMap (before after : Option FileMap) (files : FileMap) : Type 0 where
  pub follows : MapFollows before after (λ old new. (name : List ℕ) → new name ≡ files name)

-- The streams stand as they do once these events are done of this outside, whose input was called once for each
-- reading.
pub record StandsBehind (was : Outside) (done : List Event) (before after : Streams) : Type 0 where
  pub files : HoldsMap before.files after.files (files_behind was.files done)
  pub rest : after.left ≡ Some (left_behind was.left done)
  pub calls : after.calls ≡ raised_count before.calls (readings_in done)
  pub output : Gains before.output after.output (output_in done)
  pub errors : Gains before.errors after.errors (errors_in done)

-- The same, and one reading more was begun: some first part of what it asks for may be taken.
pub record StandsInReading (was : Outside) (done : List Event) (asked : Request)
    (before after : Streams) : Type 0 where
  pub files : HoldsMap before.files after.files (files_behind was.files done)
  pub rest : LosesPart (left_behind was.left done) (asked_of asked (left_behind was.left done)) after.left
  pub calls : after.calls ≡ one_more (raised_count before.calls (readings_in done))
  pub output : Gains before.output after.output (output_in done)
  pub errors : Gains before.errors after.errors (errors_in done)

-- What a call of the store of files that failed leaves of them: where one was to be read, all stays; one that was
-- to be written may be absent, hold what it held, or hold a first part of what was to be written, and of every
-- other name all stays.
abbrev pub LeavesStore : Event → FileMap → Option FileMap → Option FileMap → Type 0
LeavesStore (AReading asked) files before after = ⊥
LeavesStore (OutputByte byte) files before after = ⊥
LeavesStore (ErrorByte byte) files before after = ⊥
LeavesStore (FileReading name) files before after = HoldsMap before after files
LeavesStore (FileWriting name bytes) files before after = MapFollows before after (λ old new.
    (content : Option (List ℕ)) × IsLeftBehind (files name) bytes content × Changes files new name content)

-- The same, and one call more of the store of files was begun.
pub record StandsInFiles (was : Outside) (done : List Event) (call : Event)
    (before after : Streams) : Type 0 where
  pub files : LeavesStore call (files_behind was.files done) before.files after.files
  pub rest : after.left ≡ Some (left_behind was.left done)
  pub calls : after.calls ≡ raised_count before.calls (readings_in done)
  pub output : Gains before.output after.output (output_in done)
  pub errors : Gains before.errors after.errors (errors_in done)

-- What leads from the one outside to the other was broken off between two events: what is in front is done, and
-- of what is behind nothing.
pub record BreaksBetween (was end : Outside) (before after : Streams) : Type 0 where
  pub done : List Event
  pub due : List Event
  pub are : end.history ≡ was.history ++ (done ++ due)
  pub stands : StandsBehind was done before after

-- It was broken off in a reading: what is in front of it is done, and of what is behind it nothing.
pub record BreaksReading (was end : Outside) (before after : Streams) : Type 0 where
  pub done : List Event
  pub asked : Request
  pub due : List Event
  pub are : end.history ≡ was.history ++ (done ++ AReading asked ∷ due)
  pub stands : StandsInReading was done asked before after

-- It was broken off in a call of the store of files: what is in front of it is done, and of what is behind it
-- nothing.
pub record BreaksFiles (was end : Outside) (before after : Streams) : Type 0 where
  pub done : List Event
  pub call : Event
  pub due : List Event
  pub are : end.history ≡ was.history ++ (done ++ call ∷ due)
  pub stands : StandsInFiles was done call before after

-- It was broken off at one moment: in a reading, in a call of the store of files, or between two events.
pub data Breaks (was end : Outside) (before after : Streams) : Type 0 where
  breaks_between : BreaksBetween was end before after → Breaks was end before after
  breaks_reading : BreaksReading was end before after → Breaks was end before after
  breaks_files : BreaksFiles was end before after → Breaks was end before after

-- The run ended, which was begun with this input and these files: all that it puts was put, all that it writes
-- was written, and what its readings leave of the input is left, which was called once for each of them.
pub record Ends (input : List ℕ) (held : FileMap) (seen : Observation) (before after : Streams) : Type 0 where
  pub taken : seen.outside.left ≡ left_behind input seen.outside.history
  pub written : seen.outside.files ≡ files_behind held seen.outside.history
  pub files : HoldsMap before.files after.files seen.outside.files
  pub left : after.left ≡ Some seen.outside.left
  pub calls : after.calls ≡ raised_count before.calls (readings_in seen.outside.history)
  pub output : Gains before.output after.output (output_in seen.outside.history)
  pub errors : Gains before.errors after.errors (errors_in seen.outside.history)
