-- How a run starts, what is put as it ends early, and what is observed of it, whether it is the evaluation of a program or the run of its code.
use Rattle.std.specs.Prelude.{◌≡◌, ℕ, ℤ, pos, zero, suc, List, [], ◌∷◌, length, map, replicate, Option, None, Some, codes}
use Rattle.std.specs.List.{sum_by}
use Rattle.icn_value.specs.Limited.{Bounds}
use Rattle.icn_value.specs.Values.{Value, Null, Integer, Text, Procedure}
use Rattle.icn_host.specs.FileMaps.{FileMap}
use Rattle.icn_value.specs.Store.{ErrorByte, Heap, Names, World, Outside, outside_of, with_events}
use Rattle.icn_defs.specs.Conversions.{integer_of}
use Rattle.icn_defs.specs.NamedValues.{named_by}
use Rattle.icn_defs.specs.OpenFiles.{all_written_out}
use Rattle.icn_defs.specs.Rows.{◌>>◌, Row, costs_bytes}
use Rattle.icn_defs.specs.StepRows.{list_row}

-- a scanning pair, as an open scan saves the one around it
pub record Pair : Type 0 where
  pub subject : List ℕ
  pub position : ℕ

-- How a run ends: `main` returned or failed; it was ended with a status; by a run-time error; or one turn more would be past the bound.
pub data Ending : Type 0 where
  Done : Ending
  Exit : ℕ → Ending
  Errored : ℕ → Ending
  AtBound : Ending

-- how a run ended, the input left, what each file holds, and all that was done outside, with the report of an
-- error or of the bound, and the files that were written at the end
pub record Observation : Type 0 where
  pub ending : Ending
  pub outside : Outside

-- What a run is begun with: the argument words, the limits, and the outside as it is before.
pub record Launch : Type 0 where
  pub words : List (List ℕ)
  pub bounds : Bounds
  pub outside : Outside

-- a program is begun with its input and the files, before anything is put, read or written
abbrev pub launch_of : List (List ℕ) → Bounds → List ℕ → FileMap → Launch
launch_of words bounds input files =
    record { words = words; bounds = bounds; outside = outside_of input files }

-- the state after so many steps
abbrev pub after_steps : {S : Type 0} → (S → S) → ℕ → S → S
after_steps step zero state = state
after_steps step (suc n) state = after_steps step n (step state)

-- The run that takes these steps from this start on comes to an end, of which this is observed.
pub record Observes {S : Type 0} (step : S → S) (observed : S → Option Observation) (start : S)
    (seen : Observation) : Type 0 where
  pub count : ℕ
  pub is : observed (after_steps step count start) ≡ Some seen

-- what is put on the error output where the bound of turns ends a run
abbrev pub bound_report : List ℕ
bound_report = codes "turn bound reached\n"

-- the outside with a text put on its error output
abbrev pub with_errors : List ℕ → Outside → Outside
with_errors text outside = with_events (map ErrorByte text) outside

-- Where a run ends, but at the bound, the files that are still open to be written are written, in the order in
-- which they were opened. The report of an error stands before that.
abbrev pub files_written : Heap → Outside → Outside
files_written heap outside = all_written_out heap.files outside

-- The heap before anything is made. Co-expression 0 is `&main`; its count of results begins with 0.
abbrev pub first_heap : Bounds → Heap
first_heap bounds = record {
  lists = [];
  sets = [];
  tables = [];
  records = [];
  coexps = zero ∷ [];
  files = [];
  strings = zero;
  cells = zero;
  bounds = bounds;
}

-- the world before anything is done, with these globals and so many statics
abbrev pub first_world : Bounds → List Value → ℕ → World
first_world bounds globals statics = record {
  heap = first_heap bounds;
  subject = [];
  position = 1;
  random = zero;
  globals = globals;
  statics = replicate statics Null;
  error = pos zero;
  kept = None;
}

-- words as values: a text each
abbrev pub text_values : List (List ℕ) → List Value
text_values [] = []
text_values (word ∷ words) = Text word ∷ text_values words

-- the list of the argument words: their bytes are charged first, and then its cells
abbrev pub words_row : List (List ℕ) → Row
words_row words = do
  costs_bytes (sum_by length words)
  list_row (text_values words)

-- The number by which a value is called, where it is called by number: an integer, or a text that converts to one.
abbrev pub number_of : Value → Option ℤ
number_of (Integer n) = Some n
number_of (Text bytes) = integer_of (Text bytes)
number_of value = None

-- a name counts where no number is there
abbrev pub unless_number : Option ℤ → Option ℕ → Option ℕ
unless_number (Some n) named = None
unless_number None named = named

-- What a value names, where it is not called by number.
abbrev pub name_called : Names → Value → Option ℕ
name_called names value = unless_number (number_of value) (named_by names value)

-- the procedure, the constructor or the function that is called where a value is
abbrev pub callee_number : Names → Value → Option ℕ
callee_number names (Procedure number) = Some number
callee_number names value = name_called names value
