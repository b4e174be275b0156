-- What a part of the call comes to, where the files tell what they hold.
use Rattle.std.specs.Prelude.{◌≡◌, ℕ, List, [], Some, IfSome, ⊤}
use Rattle.icn_host.specs.FileMaps.{FileMap}
use Rattle.icn_code.specs.Codes.{Tables}
use Rattle.icn_streams.specs.Handed.{CallStreams}
use Rattle.icn_running.specs.Reported.{ending_seen}
use Rattle.icn_answer.specs.declared.answer.Answer.{Answer}
use Rattle.icn_answer.specs.declared.answer.Answer.TheVariants.{Wrote, Ran, Refused, Command, Missing, BadUcode, BadImage, FileFault, ReadFault, WriteFault, NoMemory}
use Rattle.icont_words.specs.Words.{Run}
use Rattle.icont_units.specs.Units.{Member}
use Rattle.icont_top.specs.Answered.{IsAnswered}
use Rattle.icont_top.specs.Job.{IsPlanned, Plan, image_file, run_launch, with_image}
use Rattle.icont_top.specs.Outcomes.{HasWritten, HoldsWritten, LeavesFiles, AnswersCommand}
use Rattle.icont_top.specs.Running.{WasOver}

-- Of a run that is answered, whatever the input tells: it is the run of the program that words and files ask for.
abbrev pub RunsAsAsked : List (List ℕ) → FileMap → Answer → CallStreams → CallStreams → Type 0
RunsAsAsked words files (Ran ending) before after = (plan : Plan) × ((members : List Member)
    × ((tables : Tables) × ((run : Run) × (IsPlanned words files plan members tables
    × ((plan.run ≡ Some run)
    × WasOver tables (run_launch run [] (with_image (image_file plan.image members tables) files))
    plan.number (ending_seen ending) before after)))))
RunsAsAsked words files Wrote before after = ⊤
RunsAsAsked words files (Refused file line rule) before after = ⊤
RunsAsAsked words files (Command kind) before after = ⊤
RunsAsAsked words files (Missing name) before after = ⊤
RunsAsAsked words files (BadUcode name rule) before after = ⊤
RunsAsAsked words files (BadImage rule) before after = ⊤
RunsAsAsked words files FileFault before after = ⊤
RunsAsAsked words files ReadFault before after = ⊤
RunsAsAsked words files WriteFault before after = ⊤
RunsAsAsked words files NoMemory before after = ⊤

-- what the words and these files ask for was done and is answered, or a fault is, and what was written is there
pub record IsDone (words : List (List ℕ)) (files : FileMap) (answer : Answer)
    (before after : CallStreams) : Type 0 where
  pub outcome : IfSome before.left (λ left. AnswersCommand words files left answer before after)
  pub headline : HasWritten answer → HoldsWritten words files answer after.files.held
  pub leaves : LeavesFiles words files answer before.files after.files
  pub answered : IsAnswered words files answer
  pub ran : RunsAsAsked words files answer before after
