-- Files that are open: which may be read, and which written to, and what is written of them as they are closed.
use Rattle.std.specs.Prelude.{◌&&◌, ℕ, Bool, true, false, not, List, [], ◌∷◌, drop, Option, None, Some, if◌then◌else◌}
use Rattle.icn_value.specs.declared.mode.FileMode.{FileMode}
use Rattle.icn_value.specs.declared.mode.FileMode.TheVariants.{ToRead, ToWrite, ToAdd}
use Rattle.icn_value.specs.Values.{Value, File, Input, Output, Errout, Opened}
use Rattle.icn_value.specs.Store.{Heap, OpenedFile, Outside, Setting, file_at, having_heap, with_file_writing}
use Rattle.icn_value.specs.Changes.{shut}
use Rattle.icn_defs.specs.Rows.{◌>>=◌, Finds, present, here}

-- whether a file of this mode is read
abbrev pub is_read_by : FileMode → Bool
is_read_by ToRead = true
is_read_by ToWrite = false
is_read_by ToAdd = false

-- whether a file that was opened may be read
abbrev pub is_open_to_read : OpenedFile → Bool
is_open_to_read file = is_read_by file.mode && not file.closed

-- whether one may be written to
abbrev pub is_open_to_write : OpenedFile → Bool
is_open_to_write file = not (is_read_by file.mode) && not file.closed

-- Reading

-- what a reading is of: the input, or an opened file, by its number
pub data Readable : Type 0 where
  FromInput : Readable
  FromOpened : ℕ → Readable

-- what a reading of a file is of, if it is open for reading
abbrev pub readable_of : Heap → File → Option Readable
readable_of heap Input = Some FromInput
readable_of heap Output = None
readable_of heap Errout = None
readable_of heap (Opened number) =
    if is_open_to_read (file_at heap number) then Some (FromOpened number) else None

-- a file that is open for reading: 212
abbrev pub readable : File → Value → Finds Readable
readable file named next = do
  setting ← here
  from ← present (readable_of setting.world.heap file) 212 (Some named)
  next from

-- what is left of an opened file
abbrev pub left_in : OpenedFile → List ℕ
left_in file = drop file.place file.content

-- Writing

-- whether a file is open for writing
abbrev pub is_writable : Heap → File → Bool
is_writable heap Input = false
is_writable heap Output = true
is_writable heap Errout = true
is_writable heap (Opened number) = is_open_to_write (file_at heap number)

-- The end of writing

-- a file that is open to be written is written under its name, with all that it holds
abbrev pub written_out : OpenedFile → Outside → Outside
written_out file outside =
    if is_open_to_write file then with_file_writing file.name file.content outside else outside

-- so is each of these files, in their order
abbrev pub all_written_out : List OpenedFile → Outside → Outside
all_written_out [] outside = outside
all_written_out (file ∷ files) outside = all_written_out files (written_out file outside)

-- A file is closed, and first written if it is open to be written. Standard files and closed ones are left as
-- they are.
abbrev pub closed_in : File → Setting → Setting
closed_in Input setting = setting
closed_in Output setting = setting
closed_in Errout setting = setting
closed_in (Opened number) setting = having_heap (shut number) (record setting {
  outside = written_out (file_at setting.world.heap number) setting.outside;
})
