-- A case: a program, how it is begun, and all that is seen of its run, on three sides: its meaning, and the
-- run of its code on flat stacks and on linked marks.
use Prim.Native.String.{String}
use Rattle.std.specs.Prelude.{◌≡◌, ℕ, zero, suc, pred, List, [], ◌∷◌, codes, Option, Some, None}
use Rattle.std.specs.Option.{option_map}
use Rattle.icn_tree.specs.Trees.{Declaration}
use Rattle.icn_value.specs.Limited.{Bounds, default_limits}
use Rattle.icn_value.specs.Store.{errors_in, output_in, no_files}
use Rattle.icn_code.specs.Codes.{Tables}
use Rattle.icn_defs.specs.Running.{Ending, Done, Errored, AtBound, Observation, launch_of}
use Rattle.icn_meaning.specs.Program.{Program, program}
use Rattle.icn_meaning.specs.Contexts as M
use Rattle.icn_meaning.specs.Meaning as Meaning
use Rattle.icn_run.specs.Step as Step
use Rattle.icn_run.specs.FlatStep as Flat
use Rattle.icn_run.specs.LinkedStep as Linked
use Rattle.icn_run.specs.LinkedStep.{repeats_of}
use Rattle.cases_programs.specs.Coded.{tables_of}

-- how a run ends, what it put on both outputs, the turns that it made, and the string bytes and cells that
-- were charged
pub record Expectation : Type 0 where
  pub ending : Ending
  pub output : List ℕ
  pub errors : List ℕ
  pub turns : ℕ
  pub strings : ℕ
  pub cells : ℕ

-- The files, the argument words, the limits and the input; so many steps are enough for each side.
pub record ProgramCase : Type 0 where
  pub files : List (List Declaration)
  pub words : List (List ℕ)
  pub bounds : Bounds
  pub input : List ℕ
  pub steps : ℕ
  pub wanted : Expectation

-- Words for cases

-- how a run ends, with its output and its error output, and its turns, string bytes and cells
abbrev pub ends : Ending → String → String → ℕ → ℕ → ℕ → Expectation
ends ending output errors turns strings cells = record {
  ending = ending;
  output = codes output;
  errors = codes errors;
  turns = turns;
  strings = strings;
  cells = cells;
}

-- a run that comes to the end of `main`
abbrev pub ends_done : String → ℕ → ℕ → ℕ → Expectation
ends_done output turns strings cells = ends Done output "" turns strings cells

-- a run that ends by a run-time error of this number
abbrev pub ends_errored : ℕ → String → String → ℕ → ℕ → ℕ → Expectation
ends_errored number output errors turns strings cells =
    ends (Errored number) output errors turns strings cells

-- a run that ends at the bound of turns
abbrev pub at_bound : String → ℕ → ℕ → ℕ → Expectation
at_bound output turns strings cells = ends AtBound output "turn bound reached\n" turns strings cells

-- files, argument words, bounds, input, the steps that are enough, and what is wanted
abbrev pub run_of : List (List Declaration) → List (List ℕ) → Bounds → List ℕ → ℕ → Expectation → ProgramCase
run_of files words bounds input steps wanted =
    record { files = files; words = words; bounds = bounds; input = input; steps = steps; wanted = wanted }

-- one file, without words and input, under the limits that a command gives
abbrev pub case : List Declaration → ℕ → Expectation → ProgramCase
case file steps wanted = run_of (file ∷ []) [] default_limits [] steps wanted

-- one file under these bounds
abbrev pub under : Bounds → List Declaration → ℕ → Expectation → ProgramCase
under bounds file steps wanted = run_of (file ∷ []) [] bounds [] steps wanted

-- one file with this input
abbrev pub with_input : String → List Declaration → ℕ → Expectation → ProgramCase
with_input input file steps wanted = run_of (file ∷ []) [] default_limits (codes input) steps wanted

-- the default limits, but for the turns
abbrev pub most_turns : ℕ → Bounds
most_turns turns = record default_limits { turns = turns }

-- the default limits, but for the string bytes
abbrev pub most_strings : ℕ → Bounds
most_strings strings = record default_limits { strings = strings }

-- the default limits, but for the cells
abbrev pub most_cells : ℕ → Bounds
most_cells cells = record default_limits { cells = cells }

-- the default limits, but for the levels of calls
abbrev pub most_levels : ℕ → Bounds
most_levels levels = record default_limits { levels = levels }

-- What is seen of the meaning

-- what is seen of an evaluation that is over
abbrev pub seen_of : M.Evaluation → Option Expectation
seen_of (M.over ending st) = Some (record {
  ending = ending;
  output = output_in st.outside.history;
  errors = errors_in st.outside.history;
  turns = st.turns;
  strings = st.world.heap.strings;
  cells = st.world.heap.cells;
})
seen_of state = None

-- what the meaning of a program comes to in the steps of the case
abbrev pub meant_by : ProgramCase → Program → Option Expectation
meant_by c p = seen_of
    (Meaning.steps p c.steps (Meaning.start p (launch_of c.words c.bounds c.input no_files)))

-- What is seen of the code. Its charges are told by limits: with just the turns, the string bytes and the
-- cells that the run takes it ends so, and with one less of each it stands at the bound or lacks space.

-- how a run ends, and both outputs
pub record End : Type 0 where
  pub ending : Ending
  pub output : List ℕ
  pub errors : List ℕ

-- how a run ends with just what it takes, and with a turn, a string byte and a cell less
pub record UnderLimits : Type 0 where
  pub just : Option End
  pub a_turn_less : Option Ending
  pub a_byte_less : Option Ending
  pub a_cell_less : Option Ending

-- the ending of a run, with both outputs
abbrev pub end_of : Observation → End
end_of seen = record {
  ending = seen.ending;
  output = output_in seen.outside.history;
  errors = errors_in seen.outside.history;
}

-- the ending of a run alone
abbrev pub ending_of : Observation → Ending
ending_of seen = seen.ending

-- what runs under these limits come to
abbrev pub under_limits : (Bounds → Option Observation) → Bounds → UnderLimits
under_limits run bounds = record {
  just = option_map end_of (run bounds);
  a_turn_less = option_map ending_of (run (record bounds { turns = pred bounds.turns }));
  a_byte_less = option_map ending_of (run (record bounds { strings = pred bounds.strings }));
  a_cell_less = option_map ending_of (run (record bounds { cells = pred bounds.cells }));
}

-- the bounds that are just what the run takes
abbrev pub just : ProgramCase → Bounds
just c = record {
  turns = c.wanted.turns;
  strings = c.wanted.strings;
  cells = c.wanted.cells;
  levels = c.bounds.levels;
}

-- the run of the code on flat stacks, in which no text names a procedure that is not kept
abbrev pub on_flat : ProgramCase → Tables → Bounds → Option Observation
on_flat c tables bounds =
    Step.observation
    (Flat.steps tables c.steps
    (Flat.start_hiding tables (program c.files).hidden (launch_of c.words bounds c.input no_files)))

-- such a run on linked marks
abbrev pub on_linked : ProgramCase → Tables → Bounds → Option Observation
on_linked c tables bounds =
    let repeats = repeats_of tables in
    Step.observation
    (Linked.steps repeats tables c.steps
    (Linked.start_hiding repeats tables (program c.files).hidden
    (launch_of c.words bounds c.input no_files)))

-- where none of it was needed the run ends as ever
abbrev pub short : ℕ → Ending → Ending → Option Ending
short zero other ending = Some ending
short (suc n) other ending = Some other

-- what is wanted with just what the run takes, and with one less of each
abbrev pub wanted_limited : Expectation → UnderLimits
wanted_limited w = record {
  just = Some (record { ending = w.ending; output = w.output; errors = w.errors });
  a_turn_less = short w.turns AtBound w.ending;
  a_byte_less = short w.strings (Errored 306) w.ending;
  a_cell_less = short w.cells (Errored 307) w.ending;
}

-- All that is seen: of the meaning, and of the code on flat stacks and on linked marks.
pub record SeenOfCase : Type 0 where
  pub meant : Option Expectation
  pub on_stacks : UnderLimits
  pub on_marks : UnderLimits

-- all that is seen of a case, by the code of its program
abbrev pub seen_with : ProgramCase → Tables → SeenOfCase
seen_with c tables = record {
  meant = meant_by c (program c.files);
  on_stacks = under_limits (on_flat c tables) (just c);
  on_marks = under_limits (on_linked c tables) (just c);
}

-- the same is wanted on all three sides
abbrev pub wanted_seen : Expectation → SeenOfCase
wanted_seen w =
    record { meant = Some w; on_stacks = wanted_limited w; on_marks = wanted_limited w }

-- all that is seen is as is wanted
abbrev pub Holds : ProgramCase → Type 0
Holds c = seen_with c (tables_of c.files) ≡ wanted_seen c.wanted
