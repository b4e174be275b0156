-- What a reading asks for and finds, and how a row goes on behind it.
use Rattle.std.specs.Prelude.{◌≡◌, ◌==◌, ℕ, Bool, not, List, length, drop, take, take_while, nat_lt, Option, None, Some, Result, Ok, Err, ⊤}
use Rattle.std.specs.Option.{option_map}
use Rattle.icn_value.specs.declared.val.Span.{Span}
use Rattle.icn_value.specs.Store.{Request, ALine, SomeBytes, Outside}
use Rattle.icn_defs.specs.Calls.{GoesOn, ComesTo}
use Rattle.icn_defs.specs.Interruptions.{LosesPart, asked_of, after_reading}
use Rattle.icn_value.specs.Store.{Setting}
use Rattle.icn_value.specs.Values.{Text, Opened, Val}
use Rattle.icn_value.specs.declared.val.File.TheVariants.{Opened as HeldOpened}
use Rattle.icn_value.specs.declared.val.Val.TheVariants.{Std as StdVal}
use Rattle.icn_defs.specs.OpenFiles.{Readable, FromInput, FromOpened}
use Rattle.icn_defs.specs.Lines.{next_line, next_bytes, next_opened_bytes, next_opened_line}
use Rattle.icn_defs.specs.Rows.{Row, Finds, Fails, Error, FileLines, suspends}
use Rattle.icn_host.specs.Sources.{SourceCounts}
use Rattle.icn_heap.specs.Extents.{Extent, IsLive, text_in, value_in}
use Rattle.icn_heap.specs.Heaps.{extent_of}
use Rattle.icn_vars.specs.declared.outcome.Halt.{Halt}
use Rattle.icn_vars.specs.declared.outcome.Halt.TheVariants.{Error as ErrorHalt, Ends as EndsHalt, ReadFault, WriteFault, FileFault, NoMemory}
use Rattle.icn_streams.specs.Answers.{Allows, AllowsBehind, CallState, IsTold, Told, setting_with, state_telling}
use Rattle.icn_streams.specs.Handed.{FaultCounts, failed_once, faults_of, wanted_once}
use Rattle.icn_vars.specs.declared.stop.Stop.{Stop}
use Rattle.icn_vars.specs.Stops.{StopsFinding}
use Rattle.icn_streams.specs.declared.access.ReadFrom.{ReadFrom}
use Rattle.icn_streams.specs.declared.access.ReadFrom.TheVariants.{Input as HeldInput, Opened as OfOpened}
use Rattle.icn_streams.specs.declared.ask.Ask.{Ask}
use Rattle.icn_streams.specs.declared.ask.Ask.TheVariants.{Line, Bytes}

-- what a reading asks for, as definitions see it
abbrev pub asked_in : Ask → Request
asked_in Line = ALine
asked_in (Bytes count) = SomeBytes count

-- whether there is something to be read
abbrev pub is_there : Request → List ℕ → Bool
is_there ALine left = nat_lt 0 (length left)
is_there (SomeBytes count) left = nat_lt 0 (length (take count left))

-- what is read: a line without its newline, or so many bytes, or all where fewer are left
abbrev pub read_of : Request → List ℕ → List ℕ
read_of ALine left = take_while (λ byte. not (byte == 10)) left
read_of (SomeBytes count) left = take count left

-- the part of a row that reads
abbrev pub next_read : Request → Finds (List ℕ)
next_read ALine next = next_line next
next_read (SomeBytes count) next = next_bytes count next

-- what a reading is of, as definitions see it
abbrev pub readable_in : ReadFrom → Readable
readable_in HeldInput = FromInput
readable_in (OfOpened number) = FromOpened number

-- an opened file that is read is one of the heap
abbrev pub IsOpenFrom : Extent → ReadFrom → Type 0
IsOpenFrom all HeldInput = ⊤
IsOpenFrom all (OfOpened number) = IsLive all (StdVal (HeldOpened number))

-- the part of a row that reads an opened file
abbrev pub next_opened : Request → ℕ → Finds (List ℕ)
next_opened ALine number next = next_opened_line number next
next_opened (SomeBytes count) number next = next_opened_bytes number count next

-- What the reading of an opened file was answered: a text, with which the row goes on; nothing, and the row fails;
-- or an error of the row. Of want of memory nothing is said.
abbrev pub ReadsOpened : Request → ℕ → Extent → Setting → Setting → Result (Option Span) Stop → Type 0
ReadsOpened asked number all before after (Ok (Some span)) =
    GoesOn (next_opened asked number) before (text_in all span) after
ReadsOpened asked number all before after (Ok None) = ComesTo (next_opened asked number) before (Fails after)
ReadsOpened asked number all before after (Err stop) =
    StopsFinding all (next_opened asked number) before after stop

-- the next line of an opened file that is open for reading, and then those behind it
abbrev pub lines_from : ℕ → Row
lines_from number =
    next_opened_line number (λ line. suspends (Val (Text line)) (FileLines (Opened number)))

-- what was asked for was taken from the input
pub record Fills (asked : Request) (left : List ℕ) (there : Bool) (bytes : List ℕ)
    (after : Option (List ℕ)) : Type 0 where
  pub found : there ≡ is_there asked left
  pub read : bytes ≡ read_of asked left
  pub rest : after ≡ Some (drop (asked_of asked left) left)

-- What was taken is what is asked for of some bytes, whether or not the input tells which it had.
pub record FillsOfSome (asked : Request) (there : Bool) (bytes : List ℕ) : Type 0 where
  pub left : List ℕ
  pub fills : Fills asked left there bytes (Some (drop (asked_of asked left) left))

-- What the reading of a row was answered, where the outside before is one that the input tells: a text, with which
-- the row goes on; nothing, and the row fails; an error of the row; or a fault or want of memory, where some first
-- part of what is asked for was taken.
abbrev pub Reads : Request → Outside → CallState → CallState → Result (Option Span) Halt → Type 0
Reads asked was before after (Ok (Some span)) =
    GoesOn (next_read asked) (setting_with was before) (text_in (extent_of after.world.heap) span)
    (setting_with (after_reading asked was) after)
    × (after.handed.left ≡ Some (after_reading asked was).left)
Reads asked was before after (Ok None) =
    ComesTo (next_read asked) (setting_with was before) (Fails (setting_with (after_reading asked was) after))
    × (after.handed.left ≡ Some (after_reading asked was).left)
Reads asked was before after (Err (ErrorHalt number offending)) =
    ComesTo (next_read asked) (setting_with was before)
    (Error number (option_map (value_in (extent_of after.world.heap)) offending)
    (setting_with (after_reading asked was) after))
    × (after.handed.left ≡ Some (after_reading asked was).left)
Reads asked was before after (Err (EndsHalt status)) = ⊥
Reads asked was before after (Err ReadFault) = LosesPart was.left (asked_of asked was.left) after.handed.left
Reads asked was before after (Err WriteFault) = ⊥
Reads asked was before after (Err FileFault) = ⊥
Reads asked was before after (Err NoMemory) = LosesPart was.left (asked_of asked was.left) after.handed.left

-- What the reading was answered is so over some input that has these bytes and leaves those, of which what is told
-- is true, whatever the files are.
pub record ReadsOfSome (asked : Request) (before after : CallState)
    (result : Result (Option Span) Halt) : Type 0 where
  pub had : Told
  pub has : Told
  pub same : has.files ≡ had.files
  pub allowed : Allows before.handed had
  pub allows : AllowsBehind before.handed after.handed has
  pub reads : (was : Outside) → IsTold had was
      → Reads asked was (state_telling had before) (state_telling has after) result

-- Nothing has failed in the input, and at most it has wanted memory, once.
pub data InputWants (before after : FaultCounts) : Type 0 where
  others_want : after ≡ before → InputWants before after
  input_wants : after ≡ wanted_once before → InputWants before after

-- The input's count of faults rose, once, where a fault of it is answered, and that of its wants where memory was
-- wanting to it; else both stayed. A reading neither ends the program nor writes.
abbrev pub InputCause : SourceCounts → SourceCounts → Result (Option Span) Halt → Type 0
InputCause before after (Ok found) = faults_of after ≡ faults_of before
InputCause before after (Err (ErrorHalt number offending)) = faults_of after ≡ faults_of before
InputCause before after (Err (EndsHalt status)) = ⊥
InputCause before after (Err ReadFault) = faults_of after ≡ failed_once (faults_of before)
InputCause before after (Err WriteFault) = ⊥
InputCause before after (Err FileFault) = ⊥
InputCause before after (Err NoMemory) = InputWants (faults_of before) (faults_of after)
