-- What runs leave of the input and of the files, and what they do outside, in its order.
use Rattle.std.specs.Prelude.{◌≡◌, ℕ, List, [], ◌∷◌, ◌++◌, codes, map, Option, Some}
use Rattle.std.specs.Option.{option_map}
use Rattle.icn_tree.specs.Trees.{Empty, Declaration}
use Rattle.icn_value.specs.Limited.{default_limits}
use Rattle.icn_value.specs.Store.{ALine, SomeBytes, Event, AReading, OutputByte, ErrorByte, FileReading, FileWriting, Outside, no_files, with_file}
use Rattle.icn_code.specs.Codes.{Tables}
use Rattle.icn_defs.specs.Running.{Launch, Observation, launch_of}
use Rattle.icn_meaning.specs.Program.{Program, program}
use Rattle.icn_meaning.specs.Meaning as Meaning
use Rattle.icn_run.specs.Step as Step
use Rattle.icn_run.specs.FlatStep as Flat
use Rattle.icn_run.specs.LinkedStep as Linked
use Rattle.icn_run.specs.LinkedStep.{repeats_of}
use Rattle.cases_programs.specs.Coded.{tables_of}
use Rattle.cases_programs.specs.Words.{int, text, name, key, assign, call, write, while, main}

-- a program with its input, and the outside at its end
pub record ReadCase : Type 0 where
  pub file : List Declaration
  pub input : List ℕ
  pub outside : Outside

-- more steps than any of these programs takes
abbrev pub steps_enough : ℕ
steps_enough = 300

-- the outside at the end of a run
abbrev pub outside_seen : Observation → Outside
outside_seen seen = seen.outside

-- the outside at the end on each side
pub record EndOutsides : Type 0 where
  pub meant : Option Outside
  pub on_stacks : Option Outside
  pub on_marks : Option Outside

-- the outside at the end of the meaning, and of both runs of the code
abbrev pub left_by : Launch → Program → Tables → EndOutsides
left_by launch program tables =
    let repeats = repeats_of tables in
    record {
      meant = option_map outside_seen
          (Meaning.observation (Meaning.steps program steps_enough (Meaning.start program launch)));
      on_stacks = option_map outside_seen
          (Step.observation (Flat.steps tables steps_enough (Flat.start tables launch)));
      on_marks = option_map outside_seen
          (Step.observation (Linked.steps repeats tables steps_enough (Linked.start repeats tables launch)));
    }

-- the meaning and both runs of the code leave this outside
abbrev pub Reads : ReadCase → Type 0
Reads r =
    let files = r.file ∷ [] in
    left_by (launch_of [] default_limits r.input no_files) (program files) (tables_of files)
    ≡ record { meant = Some r.outside; on_stacks = Some r.outside; on_marks = Some r.outside }

-- the reading of a line
abbrev pub a_line : List Event
a_line = AReading ALine ∷ []

-- the reading of so many bytes
abbrev pub some_bytes : ℕ → List Event
some_bytes count = AReading (SomeBytes count) ∷ []

-- a text is put on the output, and on the error output
abbrev pub on_output : List ℕ → List Event
on_output text = map OutputByte text

abbrev pub on_errors : List ℕ → List Event
on_errors text = map ErrorByte text

-- programs that read and write, with the input that they leave, the files, and all that they do outside
abbrev pub readings : List ReadCase
readings =
    -- procedure main(); while write(read()); end
    record {
      file = main (while (write (call (name "read") (Empty ∷ []) ∷ [])) ∷ []) ∷ [];
      input = codes "a\n\nb";
      outside = record {
        left = [];
        files = no_files;
        history =
            a_line ++ on_output (codes "a\n") ++ a_line ++ on_output (codes "\n") ++ a_line
            ++ on_output (codes "b\n") ++ a_line;
      };
    } ∷
    -- procedure main(); write(reads(&input, 3)); writes(&errout, "x"); write(read()); end
    record {
      file =
          main
          (write (call (name "reads") (key "input" ∷ int 3 ∷ []) ∷ []) ∷
          call (name "writes") (key "errout" ∷ text "x" ∷ []) ∷
          write (call (name "read") (Empty ∷ []) ∷ []) ∷
          []) ∷
          [];
      input = codes "abcde\nf";
      outside = record {
        left = codes "f";
        files = no_files;
        history =
            some_bytes 3 ++ on_output (codes "abc\n") ++ on_errors (codes "x") ++ a_line
            ++ on_output (codes "de\n");
      };
    } ∷
    -- procedure main(); f := open("t", "w"); write(f, "a"); write("b"); end
    record {
      file =
          main
          (assign (name "f") (call (name "open") (text "t" ∷ text "w" ∷ [])) ∷
          write (name "f" ∷ text "a" ∷ []) ∷
          write (text "b" ∷ []) ∷
          []) ∷
          [];
      input = [];
      outside = record {
        left = [];
        files = with_file (codes "t") (codes "a\n") no_files;
        history = on_output (codes "b\n") ++ FileWriting (codes "t") (codes "a\n") ∷ [];
      };
    } ∷
    -- procedure main(); f := open("t", "w"); write(f, "a"); close(f); open("u", "a"); stop("x"); end
    record {
      file =
          main
          (assign (name "f") (call (name "open") (text "t" ∷ text "w" ∷ [])) ∷
          write (name "f" ∷ text "a" ∷ []) ∷
          call (name "close") (name "f" ∷ []) ∷
          call (name "open") (text "u" ∷ text "a" ∷ []) ∷
          call (name "stop") (text "x" ∷ []) ∷
          []) ∷
          [];
      input = [];
      outside = record {
        left = [];
        files = with_file (codes "u") [] (with_file (codes "t") (codes "a\n") no_files);
        history =
            FileWriting (codes "t") (codes "a\n") ∷ FileReading (codes "u") ∷ on_errors (codes "x\n")
            ++ FileWriting (codes "u") [] ∷ [];
      };
    } ∷
    []
