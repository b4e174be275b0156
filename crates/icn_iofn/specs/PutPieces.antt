-- How the pieces of a line go to the outputs and to opened files: what is to be put on one file waits until another one is selected.
use Rattle.std.specs.Prelude.{◌≡◌, ◌⊎◌, ℕ, Bool, List, [], ◌++◌, ⊤, map, unwrap_or, if◌then◌else◌}
use Rattle.std.specs.Io.KnownBytes.{Keeps}
use Rattle.icn_host.specs.Sinks.{SinkState, Gains, GainsPart}
use Rattle.icn_host.specs.declared.fault.Fault.{Fault}
use Rattle.icn_host.specs.declared.fault.Fault.TheVariants.{Failed, NoMemory}
use Rattle.icn_value.specs.declared.val.Val.{Val}
use Rattle.icn_value.specs.Values.{Value, File, Input, Output, Errout, Opened}
use Rattle.icn_value.specs.Store.{Event, Outside, Setting, errors_in, output_in, readings_in, writings_in}
use Rattle.icn_defs.specs.InputOutput.{WriteArgument, Puts, Selects, piece_of, put_on}
use Rattle.icn_defs.specs.Interruptions.{ExtendsBy}
use Rattle.icn_vars.specs.Worlds.{setting_of}
use Rattle.icn_vars.specs.declared.world.World.{World}
use Rattle.icn_streams.specs.Handed.{KeepsFaultCounts, FailsOnce, LeavesSink, WantsOnce}

-- an argument as a piece, where it is one, and all of them
abbrev pub piece_in : Value → WriteArgument
piece_in value = unwrap_or (piece_of value) (Puts [])

-- all arguments as pieces of a line
abbrev pub pieces_in : List Value → List WriteArgument
pieces_in values = map piece_in values

-- what a text puts on the output, and on the error output, where it is put on a file
abbrev pub output_part : File → List ℕ → List ℕ
output_part Input text = []
output_part Output text = text
output_part Errout text = []
output_part (Opened number) text = []

-- what it puts on the error output
abbrev pub errors_part : File → List ℕ → List ℕ
errors_part Input text = []
errors_part Output text = []
errors_part Errout text = text
errors_part (Opened number) text = []

-- both outputs
pub record Outputs : Type 0 where
  pub output : SinkState
  pub errors : SinkState

-- both outputs
abbrev pub outputs : SinkState → SinkState → Outputs
outputs output errors = record { output = output; errors = errors }

-- neither has failed or wanted memory
pub record KeepsBoth (before after : Outputs) : Type 0 where
  pub output : KeepsFaultCounts before.output after.output
  pub errors : KeepsFaultCounts before.errors after.errors

-- why a put was broken off: one of the outputs failed, once; or one of them wanted memory, once; or there was none for
-- what is to be put
pub data BrokenBy (before after : Outputs) : Fault → Type 0 where
  output_failed : FailsOnce before.output after.output → KeepsFaultCounts before.errors after.errors
      → BrokenBy before after Failed
  errors_failed : KeepsFaultCounts before.output after.output → FailsOnce before.errors after.errors
      → BrokenBy before after Failed
  output_wanted : WantsOnce before.output after.output → KeepsFaultCounts before.errors after.errors
      → BrokenBy before after NoMemory
  errors_wanted : KeepsFaultCounts before.output after.output → WantsOnce before.errors after.errors
      → BrokenBy before after NoMemory
  uncounted : KeepsBoth before after → BrokenBy before after NoMemory

-- some first part of a text was put on a file
pub record PutsPartOn (file : File) (text : List ℕ) (before after : Outputs) (fault : Fault) : Type 0 where
  pub output : GainsPart before.output.held after.output.held (output_part file text)
  pub errors : GainsPart before.errors.held after.errors.held (errors_part file text)
  pub cause : BrokenBy before after fault

-- a text was put on a sink, and the other one was left alone, but that it was settled
pub record PutsBehind (text : List ℕ) (before after other now : SinkState) : Type 0 where
  pub gains : Gains before.held after.held text
  pub counts : KeepsFaultCounts before after
  pub left : LeavesSink other now

-- some first part of it was put, and one of both failed or wanted memory
pub data PutsPartBehind (text : List ℕ) (before after other now : SinkState) : Fault → Type 0 where
  put_failed : GainsPart before.held after.held text → FailsOnce before after → LeavesSink other now
      → PutsPartBehind text before after other now Failed
  put_wanted : GainsPart before.held after.held text → WantsOnce before after → LeavesSink other now
      → PutsPartBehind text before after other now NoMemory
  other_failed : after ≡ before → Keeps other.held now.held → FailsOnce other now
      → PutsPartBehind text before after other now Failed
  other_wanted : after ≡ before → Keeps other.held now.held → WantsOnce other now
      → PutsPartBehind text before after other now NoMemory

-- nothing of the other output is pending than of the one that this file is
abbrev pub IsSettledBeside : File → ℕ → ℕ → Type 0
IsSettledBeside Input output errors = ⊤
IsSettledBeside Output output errors = errors ≡ 0
IsSettledBeside Errout output errors = output ≡ 0
IsSettledBeside (Opened number) output errors = ⊤

-- nothing of one of two sinks is pending
abbrev pub IsOneSettled : ℕ → ℕ → Type 0
IsOneSettled sink other = (sink ≡ 0) ⊎ (other ≡ 0)

-- the world with its opened files, and the outputs so far
pub record PutState : Type 0 where
  pub world : World
  pub locals : List Val
  pub outputs : Outputs

abbrev pub put_state : World → List Val → Outputs → PutState
put_state world locals outputs = record { world = world; locals = locals; outputs = outputs }

-- the setting of it, with this outside
abbrev pub put_setting : Outside → PutState → Setting
put_setting outside state = setting_of outside state.world state.locals

-- where the next text goes, what waits to be put there, and how far it has come
pub record WaitingText : Type 0 where
  pub file : File
  pub text : List ℕ
  pub state : PutState

-- a text that waits for a file, with the world and the outputs so far
abbrev pub waiting_text : File → List ℕ → PutState → WaitingText
waiting_text file text state = record { file = file; text = text; state = state }

-- the setting once what waits is put
abbrev pub text_put : Outside → WaitingText → Setting
text_put outside waiting = put_on waiting.file waiting.text (put_setting outside waiting.state)

-- The outputs have gained what leads from one outside to another: bytes that are put, in this order.
pub record GainsOutputs (before after : Outputs) (was now : Outside) : Type 0 where
  pub done : List Event
  pub extends : ExtendsBy was done now
  pub unread : readings_in done ≡ 0
  pub unwritten : writings_in done ≡ []
  pub output : Gains before.output.held after.output.held (output_in done)
  pub errors : Gains before.errors.held after.errors.held (errors_in done)

-- They have gained the first of these bytes, and nothing of those behind them.
pub record GainedPart (before after : Outputs) (was now : Outside) : Type 0 where
  pub done : List Event
  pub due : List Event
  pub are : now.history ≡ was.history ++ (done ++ due)
  pub unread : readings_in done ≡ 0
  pub unwritten : writings_in done ≡ []
  pub output : Gains before.output.held after.output.held (output_in done)
  pub errors : Gains before.errors.held after.errors.held (errors_in done)

-- From this outside on it is as if this were done to the setting: the outputs have gained the bytes that lead to the
-- outside that it leaves, and the world is the one that it leaves.
pub record HasPut (before after : PutState) (was : Outside) (done : Setting → Setting) : Type 0 where
  pub reached : Outside
  pub gained : GainsOutputs before.outputs after.outputs was reached
  pub same : put_setting reached after ≡ done (put_setting was before)

-- From an outside on, with what waits at the file put, something was done: it is as if what waits now were put on what
-- the outputs and the opened files have gained.
pub record HasEffect (before after : WaitingText) (done : Setting → Setting) : Type 0 where
  pub reached : Outside → Outside
  pub gained : (was : Outside)
      → GainsOutputs before.state.outputs after.state.outputs was (reached was)
  pub same : (was : Outside) → text_put (reached was) after ≡ done (text_put was before)
  pub counts : KeepsBoth before.state.outputs after.state.outputs

-- As this was to be done it was broken off.
pub record StopsEffect (before : WaitingText) (after : Outputs) (done : Setting → Setting)
    (fault : Fault) : Type 0 where
  pub gained : (was : Outside)
      → GainedPart before.state.outputs after was (done (text_put was before)).outside
  pub cause : BrokenBy before.state.outputs after fault

-- the file that is selected behind a piece
abbrev pub file_after : File → WriteArgument → File
file_after file (Puts text) = file
file_after file (Selects other) = other

-- what a piece puts on its file: its text; or a newline, where lines end and it is not the first
abbrev pub text_of_piece : List ℕ → Bool → WriteArgument → List ℕ
text_of_piece newline is_first (Puts text) = text
text_of_piece newline is_first (Selects other) = if is_first then [] else newline
