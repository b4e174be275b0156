-- How the code tells what the words come to.
use Rattle.std.specs.Prelude.{ℕ, List, map, string_bytes, Result, Ok, Err}
use Rattle.std.specs.Option.{option_map}
use Rattle.icn_text.specs.WordTexts.{texts}
use Rattle.icont_words.specs.declared.words.Run.{Run as RunHeld}
use Rattle.icont_words.specs.declared.words.Task.{Task as TaskHeld}
use Rattle.icont_words.specs.declared.words.Task.TheVariants as Held
use Rattle.icont_words.specs.declared.words.WordsFault.{WordsFault}
use Rattle.icont_words.specs.declared.words.WordsFault.TheVariants as Faults
use Rattle.icont_words.specs.Words.{Run, Task, Translate, Link, Generate, Asks, Faulty, ComeTo}

-- a run that is asked for, as definitions see it
abbrev pub run_seen : RunHeld → Run
run_seen run = record { arguments = map string_bytes run.arguments.now; turns = run.turns }

-- a task, as definitions see it
abbrev pub task_seen : TaskHeld → Task
task_seen (Held.Translate names) = Translate (texts names.items)
task_seen (Held.Link names image run) =
    Link (texts names.items) (option_map (λ name. name.now) image) (option_map run_seen run)
task_seen (Held.Generate number turns) = Generate number turns

-- the words come to this task, or they are faulty in this way, or memory was wanting
abbrev pub IsReading : List (List ℕ) → Result TaskHeld WordsFault → Type 0
IsReading words (Ok task) = ComeTo words (Asks (task_seen task))
IsReading words (Err (Faults.Faulty kind)) = ComeTo words (Faulty kind)
IsReading words (Err Faults.NoMemory) = Unit {0}
