-- What a heap stands for, the world round it, and the outside.
use Rattle.std.specs.Prelude.{ℕ, zero, suc, ℤ, Bool, true, List, [], ◌∷◌, ◌++◌, slice_get, slice_set, slice_index, unwrap_or, pos, Option, None, Some}
use Rattle.std.specs.Map.{update}
use Rattle.std.specs.Str.{bytes_eq}
use Rattle.icn_host.specs.FileMaps.{FileMap}
use Rattle.icn_structs.specs.Numbered.{NumberedList}
use Rattle.icn_value.specs.Limited.{Bounds}
use Rattle.icn_value.specs.Values.{Value, Null}
use Rattle.icn_value.specs.declared.mode.FileMode.{FileMode}
use Rattle.icn_value.specs.declared.mode.FileMode.TheVariants.{ToRead}

-- the value of keys that are not there, and the pairs in the order in which their keys came
pub record Table : Type 0 where
  pub default : Value
  pub pairs : List (Value × Value)

-- the number of its constructor among all constructors, and the values of its fields
pub record Record : Type 0 where
  pub kind : ℕ
  pub fields : List Value

-- A file that the program opened: its name, how it was opened, what it holds, how many of its bytes were read,
-- and whether it was closed.
pub record OpenedFile : Type 0 where
  pub name : List ℕ
  pub mode : FileMode
  pub content : List ℕ
  pub place : ℕ
  pub closed : Bool

-- The structures, each in the list of its type at its number; of each co-expression, `&main` first, how
-- many results it gave; the files that were opened, in that order; the sums of the string bytes and of the
-- cells that were charged; and the limits.
pub record Heap : Type 0 where
  pub lists : List (NumberedList Value)
  pub sets : List (List Value)
  pub tables : List Table
  pub records : List Record
  pub coexps : List ℕ
  pub files : List OpenedFile
  pub strings : ℕ
  pub cells : ℕ
  pub bounds : Bounds

-- an error that became failure: its number, and the value that it is about, if any
pub record KeptError : Type 0 where
  pub number : ℕ
  pub value : Option Value

-- Of `error` an error that becomes failure takes 1; where it is 0, none does. The last one that did is kept.
pub record World : Type 0 where
  pub heap : Heap
  pub subject : List ℕ
  pub position : ℕ
  pub random : ℕ
  pub globals : List Value
  pub statics : List Value
  pub error : ℤ
  pub kept : Option KeptError

-- what a reading asks for: a line, or so many bytes
pub data Request : Type 0 where
  ALine : Request
  SomeBytes : ℕ → Request

-- What a program does outside: it reads the input, puts a byte on the output or on the error output, reads the
-- file of a name, or writes one whole, with these bytes.
pub data Event : Type 0 where
  AReading : Request → Event
  OutputByte : ℕ → Event
  ErrorByte : ℕ → Event
  FileReading : List ℕ → Event
  FileWriting : List ℕ → List ℕ → Event

-- the bytes that these events put on the output, in their order
abbrev pub output_in : List Event → List ℕ
output_in [] = []
output_in (AReading asked ∷ later) = output_in later
output_in (OutputByte byte ∷ later) = byte ∷ output_in later
output_in (ErrorByte byte ∷ later) = output_in later
output_in (FileReading name ∷ later) = output_in later
output_in (FileWriting name bytes ∷ later) = output_in later

-- the bytes that they put on the error output
abbrev pub errors_in : List Event → List ℕ
errors_in [] = []
errors_in (AReading asked ∷ later) = errors_in later
errors_in (OutputByte byte ∷ later) = errors_in later
errors_in (ErrorByte byte ∷ later) = byte ∷ errors_in later
errors_in (FileReading name ∷ later) = errors_in later
errors_in (FileWriting name bytes ∷ later) = errors_in later

-- how many readings of the input are among them
abbrev pub readings_in : List Event → ℕ
readings_in [] = zero
readings_in (AReading asked ∷ later) = suc (readings_in later)
readings_in (OutputByte byte ∷ later) = readings_in later
readings_in (ErrorByte byte ∷ later) = readings_in later
readings_in (FileReading name ∷ later) = readings_in later
readings_in (FileWriting name bytes ∷ later) = readings_in later

-- the writings of files among them: each name, with what its file holds then
abbrev pub writings_in : List Event → List (List ℕ × List ℕ)
writings_in [] = []
writings_in (AReading asked ∷ later) = writings_in later
writings_in (OutputByte byte ∷ later) = writings_in later
writings_in (ErrorByte byte ∷ later) = writings_in later
writings_in (FileReading name ∷ later) = writings_in later
writings_in (FileWriting name bytes ∷ later) = (name, bytes) ∷ writings_in later

-- the input left, what the file of each name holds, and all that was done outside so far, in its order
pub record Outside : Type 0 where
  pub left : List ℕ
  pub files : FileMap
  pub history : List Event

-- a program begins with its input and these files, before anything is put, read or written
abbrev pub outside_of : List ℕ → FileMap → Outside
outside_of input files = record { left = input; files = files; history = [] }

-- no file has a name
abbrev pub no_files : FileMap
no_files name = None

-- an outside of no input and no files
abbrev pub bare_outside : Outside
bare_outside = outside_of [] no_files

-- these events more were done
abbrev pub with_events : List Event → Outside → Outside
with_events done outside = record outside { history = outside.history ++ done }

-- a reading is made: the history keeps it, whatever it finds
abbrev pub with_reading : Request → Outside → Outside
with_reading asked outside = with_events (AReading asked ∷ []) outside

-- the file of this name is read: the history keeps it, whether or not there is one
abbrev pub with_file_reading : List ℕ → Outside → Outside
with_file_reading name outside = with_events (FileReading name ∷ []) outside

-- these files, of which the one of this name holds these bytes now
abbrev pub with_file : List ℕ → List ℕ → FileMap → FileMap
with_file name bytes files = update bytes_eq files name (Some bytes)

-- the file of this name is written whole, with these bytes
abbrev pub with_file_writing : List ℕ → List ℕ → Outside → Outside
with_file_writing name bytes outside =
    with_events (FileWriting name bytes ∷ []) (record outside { files = with_file name bytes outside.files })

-- what an operation is applied in: the world, the locals of the activation at hand, and the outside
pub record Setting : Type 0 where
  pub world : World
  pub locals : List Value
  pub outside : Outside

-- The names of the procedures and those of the record constructors, by their numbers; how many arguments each takes,
-- procedures first, below 0 where the last parameter collects; and the numbers that no text names.
pub record Names : Type 0 where
  pub procedures : List (List ℕ)
  pub records : List (List ℕ)
  pub arguments : List ℤ
  pub hidden : List ℕ

-- Structures by their numbers. Each number of a value is that of a structure; elsewhere these give
-- something empty.

-- a list as it is made: its leftmost item has the number 1
abbrev pub new_list : List Value → NumberedList Value
new_list items = record { items = items; number = pos 1 }

-- the list of this number; where there is none, an empty one
abbrev pub list_at : Heap → ℕ → NumberedList Value
list_at heap id = unwrap_or (slice_get heap.lists id) (new_list [])

-- the members of the set of this number; where there is none, no members
abbrev pub set_at : Heap → ℕ → List Value
set_at heap id = unwrap_or (slice_get heap.sets id) []

-- the table of this number; where there is none, an empty one
abbrev pub table_at : Heap → ℕ → Table
table_at heap id = unwrap_or (slice_get heap.tables id) (record { default = Null; pairs = [] })

-- the record of this number; where there is none, one without fields
abbrev pub record_at : Heap → ℕ → Record
record_at heap id = unwrap_or (slice_get heap.records id) (record { kind = 0; fields = [] })

-- how many results the co-expression of this number has given
abbrev pub count_at : Heap → ℕ → ℕ
count_at heap id = slice_index heap.coexps id

-- a closed file without a name or content
abbrev pub no_file : OpenedFile
no_file = record { name = []; mode = ToRead; content = []; place = 0; closed = true }

-- the opened file of this number; where there is none, a closed one without a name or content
abbrev pub file_at : Heap → ℕ → OpenedFile
file_at heap number = unwrap_or (slice_get heap.files number) no_file

-- the value at a place; where there is none, null
abbrev pub value_at : List Value → ℕ → Value
value_at values place = unwrap_or (slice_get values place) Null

-- Changes

-- another list under this number
abbrev pub with_list : ℕ → NumberedList Value → Heap → Heap
with_list id list heap = record heap { lists = slice_set heap.lists id list }

-- other members in the set of this number
abbrev pub with_set : ℕ → List Value → Heap → Heap
with_set id members heap = record heap { sets = slice_set heap.sets id members }

-- another table under this number
abbrev pub with_table : ℕ → Table → Heap → Heap
with_table id table heap = record heap { tables = slice_set heap.tables id table }

-- another record under this number
abbrev pub with_record : ℕ → Record → Heap → Heap
with_record id structure heap = record heap { records = slice_set heap.records id structure }

-- another opened file under this number
abbrev pub with_opened : ℕ → OpenedFile → Heap → Heap
with_opened number file heap = record heap { files = slice_set heap.files number file }

-- the setting with its heap changed
abbrev pub having_heap : (Heap → Heap) → Setting → Setting
having_heap change setting =
    record setting { world = record setting.world { heap = change setting.world.heap } }

-- the setting with other values of the globals
abbrev pub having_globals : List Value → Setting → Setting
having_globals values setting = record setting { world = record setting.world { globals = values } }

-- the setting with other values of the static variables
abbrev pub having_statics : List Value → Setting → Setting
having_statics values setting = record setting { world = record setting.world { statics = values } }

-- the setting with another subject, at whose start the position is then
abbrev pub having_subject : List ℕ → Setting → Setting
having_subject text setting = record setting { world = record setting.world { subject = text; position = 1 } }

-- the setting with another value of `&pos`
abbrev pub having_position : ℕ → Setting → Setting
having_position place setting = record setting { world = record setting.world { position = place } }

-- the setting with another state of the generator of random numbers
abbrev pub having_random : ℕ → Setting → Setting
having_random state setting = record setting { world = record setting.world { random = state } }

-- the setting with another value of `&error`
abbrev pub having_error : ℤ → Setting → Setting
having_error count setting = record setting { world = record setting.world { error = count } }

-- the setting with another error that is kept, or none
abbrev pub having_kept : Option KeptError → Setting → Setting
having_kept kept setting = record setting { world = record setting.world { kept = kept } }

-- the setting with other bytes left of the input
abbrev pub having_left : List ℕ → Setting → Setting
having_left bytes setting = record setting { outside = record setting.outside { left = bytes } }
