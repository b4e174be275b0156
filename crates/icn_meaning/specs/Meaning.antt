-- The meaning of a program: the steps of its evaluation from the start on, and what is observed where it ends.
use Rattle.std.specs.Prelude.{ℕ, zero, false, List, [], ◌∷◌, length, replicate, Option, Some, None, codes, slice_get}
use Rattle.icn_tree.specs.Trees.{Empty}
pub use Rattle.icn_defs.specs.Running.{Observation}
use Rattle.icn_defs.specs.Running.{Launch, first_world, words_row, after_steps, Observes}
use Rattle.icn_meaning.specs.Program.{Program, Routine, routine_names, index_of, names_of}
use Rattle.icn_meaning.specs.Contexts.{Nothing, NoChoice, Active, Store, Evaluation, eval, succeed, fail, hop, over, lost}
use Rattle.icn_meaning.specs.Turns.{errs, setting_in, with_made}
use Rattle.icn_meaning.specs.Coexpressions.{pass_failure}
use Rattle.icn_meaning.specs.Calls.{call}
use Rattle.icn_meaning.specs.Evaluate.{on_eval}
use Rattle.icn_meaning.specs.Succeed.{on_succeed}
use Rattle.icn_meaning.specs.Fail.{on_fail}

-- One step. An end is left as it is.
abbrev pub step : Program → Evaluation → Evaluation
step program (eval e s k r st) = on_eval program e s k r st
step program (succeed x k r st) = on_succeed program x k r st
step program (fail r st) = on_fail r st
step program (hop c st) = pass_failure c st
step program (over ending st) = over ending st
step program lost = lost

-- so many steps of the evaluation
abbrev pub steps : Program → ℕ → Evaluation → Evaluation
steps program n state = after_steps (step program) n state

-- before anything is done: co-expression 0 is active, which is `&main`
abbrev pub first_store : Program → Launch → Store
first_store program launch = record {
  world = first_world launch.bounds program.starts program.statics;
  outside = launch.outside;
  activations = [];
  begun = replicate (length program.routines) false;
  flags = [];
  limits = [];
  saved = [];
  coexpressions = record { status = Active; activator = zero; body = Empty; procedure = zero; values = [] }
      ∷ [];
  active = zero;
  turns = zero;
  names = names_of program;
}

-- `main` is called with that list; there is no activation yet
abbrev pub main_called : ℕ → Routine → List (List ℕ) → Store → Evaluation
main_called n routine words st = with_made (words_row words (setting_in zero st)) zero NoChoice st
    (λ list st. call n routine (list ∷ []) 1 zero Nothing NoChoice st)

-- `main` is called; a program without it is error 117
abbrev pub main_in : Option Routine → ℕ → List (List ℕ) → Store → Evaluation
main_in (Some routine) n words st = main_called n routine words st
main_in None n words st = errs 117 None NoChoice st

-- the procedure of this number is called as `main`
abbrev pub main_at : Program → Option ℕ → List (List ℕ) → Store → Evaluation
main_at program (Some n) words st = main_in (slice_get program.routines n) n words st
main_at program None words st = errs 117 None NoChoice st

-- where the evaluation starts: a program without a procedure `main` is error 117
abbrev pub start : Program → Launch → Evaluation
start program launch = main_at program (index_of (codes "main") (routine_names program.routines)) launch.words
    (first_store program launch)

-- what is seen of an evaluation that is over
abbrev pub observation : Evaluation → Option Observation
observation (over ending st) = Some (record { ending = ending; outside = st.outside })
observation state = None

-- the meaning of a program that is begun so: the steps of its evaluation come to an end of which this is observed
abbrev pub Means : Program → Launch → Observation → Type 0
Means program launch seen = Observes (step program) observation (start program launch) seen
