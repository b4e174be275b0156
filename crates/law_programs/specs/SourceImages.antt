-- The image of source files, and what a call that runs it does.
use Rattle.std.specs.Prelude.{◌≡◌, ℕ, List, Some}
use Rattle.icn_host.specs.FileMaps.{FileMap}
use Rattle.icn_tree.specs.Trees.{Declaration}
use Rattle.icn_code.specs.Codes.{Tables}
use Rattle.icn_defs.specs.Running.{Launch, Observation}
use Rattle.icn_streams.specs.Handed.{CallStreams}
use Rattle.law_simulation.specs.FirstLaw.{FilesMean}
use Rattle.icn_running.specs.declared.fault.RunFault.{RunFault}
use Rattle.icn_running.specs.Runs.{LeavesBy}
use Rattle.icn_answer.specs.declared.answer.Answer.{Answer}
use Rattle.icn_answer.specs.declared.answer.Answer.TheVariants.{Wrote}
use Rattle.icn_answer.specs.Answers.{IsFault}
use Rattle.icn_run_answer.specs.CountCauses.{EndsBehind}
use Rattle.icn_run_answer.specs.FaultAnswers.{of_run}
use Rattle.icont_units.specs.Units.{Member}
use Rattle.icont_top.specs.Job.{IsPlanned, Plan, WrittenFile, image_file, image_name}
use Rattle.icont_top.specs.Outcomes.{HasWritten}
use Rattle.icont_top.specs.Programs.{files_of}
use Rattle.iconx_top.specs.Job.{observation}
use Rattle.iconx_top.specs.Outcomes.{Completes, EndsIdle}

-- The words ask `icont` for the image of a program that is of source files alone: the image has this name, and the files declare this.
pub record AsksForSources (words : List (List ℕ)) (files : FileMap) (name : List ℕ)
    (sources : List (List Declaration)) : Type 0 where
  pub plan : Plan
  pub members : List Member
  pub tables : Tables
  pub planned : IsPlanned words files plan members tables
  pub named : image_name plan.image members ≡ name
  pub alone : files_of members ≡ Some sources

-- the image that the words ask for, as a file that is written
abbrev pub image_asked : {words : List (List ℕ)} {files : FileMap} {name : List ℕ}
    {sources : List (List Declaration)}
    → AsksForSources words files name sources → WrittenFile
image_asked asks = image_file asks.plan.image asks.members asks.tables

-- The image stands under its name in these files, by what `icont` answered: it was written, and nothing was run; or what was run has left it there.
pub data ImageStands (answer : Answer) (written : FileMap) (image : WrittenFile) : Type 0 where
  not_run : answer ≡ Wrote → ImageStands answer written image
  left_there : HasWritten answer → written image.name ≡ Some image.bytes
      → ImageStands answer written image

-- What the source files mean, begun so, was broken off at one moment by this fault, whose own line comes behind.
pub record BreaksSources (sources : List (List Declaration)) (launch : Launch) (answer : Answer)
    (before after : CallStreams) : Type 0 where
  pub stopped : RunFault
  pub between : CallStreams
  pub seen : Observation
  pub answered : answer ≡ of_run stopped
  pub means : FilesMean sources launch seen
  pub leaves : LeavesBy stopped launch.outside seen before between
  pub line : EndsBehind answer between after

-- What the source files mean, begun so, was done, and its ending is answered. Or a fault is answered: nothing was done; or
-- what they mean was broken off.
pub data DoesAsSources (sources : List (List Declaration)) (launch : Launch) (words : List (List ℕ))
    (files : FileMap) (answer : Answer) (before after : CallStreams) : Type 0 where
  did : (seen : Observation) → FilesMean sources launch seen
      → Completes (observation seen) answer before after
      → DoesAsSources sources launch words files answer before after
  did_nothing : IsFault answer → EndsIdle words files launch.outside.left answer before after
      → DoesAsSources sources launch words files answer before after
  broke_off : IsFault answer → BreaksSources sources launch answer before after
      → DoesAsSources sources launch words files answer before after
