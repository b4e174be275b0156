-- Parts of the row that opens a file, and what they leave of what is handed.
use Rattle.std.specs.Prelude.{◌≡◌, ℕ, List, Option, None, Some, IfSome, Result, Ok, Err, Vec, ⊤}
use Rattle.std.specs.Io.KnownBytes.{Keeps}
use Rattle.icn_host.specs.FileMaps.{FileMap}
use Rattle.icn_value.specs.declared.mode.FileMode.{FileMode}
use Rattle.icn_value.specs.declared.mode.FileMode.TheVariants.{ToRead, ToWrite, ToAdd}
use Rattle.icn_value.specs.Values.{Value, File, Std}
use Rattle.icn_value.specs.Store.{Outside, Setting, with_file_reading}
use Rattle.icn_value.specs.Changes.{new_file}
use Rattle.icn_defs.specs.Arguments.{value_or, string}
use Rattle.icn_defs.specs.Calls.{ComesTo, GoesOn}
use Rattle.icn_defs.specs.Files.{content_by, mode_of, new_file_of}
use Rattle.std.specs.Str.{is_utf8}
use Rattle.icn_defs.specs.OpenFiles.{closed_in}
use Rattle.icn_defs.specs.Rows.{◌>>=◌, Fails, Finds, Row, changes, gives_value, fails_unless, present}
use Rattle.icn_vars.specs.declared.outcome.Halt.{Halt}
use Rattle.icn_vars.specs.declared.outcome.Halt.TheVariants.{Error, Ends, ReadFault, WriteFault, FileFault, NoMemory}
use Rattle.icn_streams.specs.Handed.{CallStreams, FilesFail, KeepsStoreCounts, LeavesSink, WantsMemory, WritingFails, faults_of}
use Rattle.icn_streams.specs.Settling.{HoldsBoth}

-- the mode that an argument names: 103, 209; null names the first one
abbrev pub mode_named : Value → Value → Finds FileMode
mode_named default value next = do
  text ← string (value_or default value)
  mode ← present (mode_of text) 209 (Some value)
  next mode

-- whether a file that is to be opened so is looked for, and the outside then
abbrev pub after_finding : FileMode → List ℕ → Outside → Outside
after_finding ToRead name outside = with_file_reading name outside
after_finding ToWrite name outside = outside
after_finding ToAdd name outside = with_file_reading name outside

-- the same in a setting
abbrev pub setting_after_finding : FileMode → List ℕ → Setting → Setting
setting_after_finding mode name setting =
    record setting { outside = after_finding mode name setting.outside }

-- What was answered of what a file holds as it is opened: with that the row goes on; it fails; or a fault or want of
-- memory broke it off.
abbrev pub FindsContent : {A : Type 0} → FileMode → List ℕ → Setting → Result (Option (Vec ℕ A)) Halt → Type 0
FindsContent mode name setting (Ok (Some content)) =
    GoesOn (content_by mode name) setting content.items (setting_after_finding mode name setting)
FindsContent mode name setting (Ok None) =
    ComesTo (content_by mode name) setting (Fails (setting_after_finding mode name setting))
FindsContent mode name setting (Err (Error number offending)) = ⊥
FindsContent mode name setting (Err (Ends status)) = ⊥
FindsContent mode name setting (Err ReadFault) = ⊥
FindsContent mode name setting (Err WriteFault) = ⊤
FindsContent mode name setting (Err FileFault) = ⊤
FindsContent mode name setting (Err NoMemory) = ⊤

-- What was answered is so over some files, of which what is told is true.
pub record FindsOfSome {A : Type 0} (mode : FileMode) (name : List ℕ) (held : Option FileMap)
    (result : Result (Option (Vec ℕ A)) Halt) : Type 0 where
  pub files : FileMap
  pub allowed : IfSome held (λ told. (name : List ℕ) → told name ≡ files name)
  pub finds : (setting : Setting) → ((name : List ℕ) → setting.outside.files name ≡ files name)
      → FindsContent mode name setting result

-- nothing was read, written, put or failed, but that a file may not have been there
pub record LooksUp (before after : CallStreams) : Type 0 where
  pub held : after.files.held ≡ before.files.held
  pub counts : KeepsStoreCounts before.files after.files
  pub left : after.left ≡ before.left
  pub faults : faults_of after.counts ≡ faults_of before.counts
  pub calls : after.counts.calls ≡ before.counts.calls
  pub output : LeavesSink before.output after.output
  pub errors : LeavesSink before.errors after.errors

-- the files hold what they held, the input was left alone, and both outputs hold what they held
pub record HoldsAll (before after : CallStreams) : Type 0 where
  pub held : after.files.held ≡ before.files.held
  pub left : after.left ≡ before.left
  pub calls : after.counts.calls ≡ before.counts.calls
  pub output : Keeps before.output.held after.output.held
  pub errors : Keeps before.errors.held after.errors.held

-- What a look-up leaves of what is handed, by what was answered: outputs are settled before it.
abbrev pub LooksUpBy : {A : Type 0} → CallStreams → CallStreams → Result A Halt → Type 0
LooksUpBy before after (Ok found) = LooksUp before after
LooksUpBy before after (Err (Error number offending)) = ⊥
LooksUpBy before after (Err (Ends status)) = ⊥
LooksUpBy before after (Err ReadFault) = ⊥
LooksUpBy before after (Err WriteFault) = HoldsBoth before after × WritingFails before after
LooksUpBy before after (Err FileFault) = (after.files.held ≡ before.files.held) × FilesFail before after
LooksUpBy before after (Err NoMemory) = HoldsAll before after × WantsMemory before after

-- a file is closed, and given
abbrev pub closes_then : File → Row
closes_then file = changes (closed_in file) (gives_value (Std file))

-- a file of this name that holds this is opened, and given
abbrev pub opens_with : List ℕ → FileMode → List ℕ → Row
opens_with name mode content =
    new_file_of (new_file name mode content) (λ opened. gives_value opened)

-- what is left of the row once the name and the mode are known and charged
abbrev pub opens_named : List ℕ → FileMode → Row
opens_named name mode = content_by mode name (opens_with name mode)

-- the same where the name is a text of UTF-8; else it fails
abbrev pub opens_text : List ℕ → FileMode → Row
opens_text name mode = fails_unless (is_utf8 name) (opens_named name mode)
