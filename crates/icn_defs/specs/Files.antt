-- The functions that open and close files.
use Rattle.std.specs.Prelude.{ℕ, nat_le, List, [], ◌∷◌, length, Option, Some, codes, unwrap_or}
use Rattle.std.specs.Map.{lookup}
use Rattle.std.specs.Str.{bytes_eq, is_utf8}
use Rattle.icn_profile.specs.Numbers.{most_bytes_of_opened}
use Rattle.icn_value.specs.declared.mode.FileMode.{FileMode}
use Rattle.icn_value.specs.declared.mode.FileMode.TheVariants.{ToRead, ToWrite, ToAdd}
use Rattle.icn_value.specs.Values.{Value, Text, Std, Opened}
use Rattle.icn_value.specs.Store.{OpenedFile, with_file_reading}
use Rattle.icn_value.specs.Changes.{having_file, new_file}
use Rattle.icn_defs.specs.Arguments.{arg, arg_or, file, string}
use Rattle.icn_defs.specs.OpenFiles.{closed_in}
use Rattle.icn_defs.specs.Rows.{◌>>=◌, ◌>>◌, Row, Finds, gives_value, fails_unless, present, thing_or_failure, here, changes, changes_heap, costs_cells, costs_texts}

-- Opening

-- the modes by the texts that name them
abbrev pub file_modes : List (List ℕ × FileMode)
file_modes = (codes "r", ToRead) ∷ (codes "w", ToWrite) ∷ (codes "a", ToAdd) ∷ []

-- the mode of a text that names one
abbrev pub mode_of : List ℕ → Option FileMode
mode_of text = lookup (bytes_eq text) file_modes

-- What the store of files has under a name, if anything. It is looked for there: the history keeps that.
abbrev pub finds_file : List ℕ → Finds (Option (List ℕ))
finds_file name next = do
  changes (λ setting. record setting { outside = with_file_reading name setting.outside })
  setting ← here
  next (setting.outside.files name)

-- What an opened file holds at first, by its mode: what stands under the name, where it is read; nothing, where
-- it is written anew; what stands there, if anything, where it is added to. It fails where there is nothing to
-- be read, and where more than 268435456 bytes stand there.
abbrev pub content_by : FileMode → List ℕ → Finds (List ℕ)
content_by ToRead name next = do
  found ← finds_file name
  content ← thing_or_failure found
  fails_unless (nat_le (length content) most_bytes_of_opened)
  next content
content_by ToWrite name next = next []
content_by ToAdd name next = do
  found ← finds_file name
  let content = unwrap_or found []
  fails_unless (nat_le (length content) most_bytes_of_opened)
  next content

-- a file is opened, which costs a cell
abbrev pub new_file_of : OpenedFile → Finds Value
new_file_of file next = do
  costs_cells 1
  setting ← here
  let files = setting.world.heap.files
  changes_heap (having_file file)
  next (Std (Opened (length files)))

-- `open(s1, s2)`: the file of a name, opened in a mode, which is to be read where none is said. It fails where
-- the name is no text of UTF-8, and where `content_by` does.
abbrev pub open_row : List Value → Row
open_row args = do
  name ← string (arg args 0)
  text ← string (arg_or (Text (codes "r")) args 1)
  mode ← present (mode_of text) 209 (Some (arg args 1))
  costs_texts (arg args 0 ∷ arg args 1 ∷ [])
  fails_unless (is_utf8 name)
  content ← content_by mode name
  opened ← new_file_of (new_file name mode content)
  gives_value opened

-- Closing

-- `close(f)`: a file that is open to be written is written; it gives the file
abbrev pub close_row : List Value → Row
close_row args = do
  closed ← file (arg args 0)
  changes (closed_in closed)
  gives_value (Std closed)
