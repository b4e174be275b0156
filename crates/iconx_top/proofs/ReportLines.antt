-- How the line of an answer stands on the error output.
use Rattle.std.proofs.Common.{◌≡◌, ℕ, List}
use Rattle.icn_host.specs.Sinks.{SinkState}
use Rattle.icn_defs.specs.declared.ending.Ending.{Ending}
use Rattle.icn_answer.specs.declared.answer.Answer.{Answer}
use Rattle.icn_answer.specs.declared.answer.Answer.TheVariants.{Ran, Missing, BadImage, FileFault, NoMemory}
use Rattle.icn_answer.specs.Answers.{IsCommand}
use Rattle.icn_answer.specs.Refusing.{PutsItsLine, put, own, write_fault, want}
use Rattle.icn_run_answer.specs.Reporting.{Reports}
use Rattle.iconx_top.specs.Loading.{IsOfLoading}
use Rattle.iconx_top.specs.Usage.{usage}
use Rattle.iconx_top.specs.Words.{WordsReading, image_name}

-- no program ran for the answer of a loading
pub load_unrun : (answer : Answer) → IsOfLoading answer → (ending : Ending) → answer ≡ Ran ending → ⊥
load_unrun answer is ending e = rw e at is

-- no loading answers that the words are faulty, nor does the put of its answer's line
load_no_command : (answer : Answer) → IsOfLoading answer → IsCommand answer → ⊥
load_no_command (Missing name) is command = command
load_no_command (BadImage rule) is command = command
load_no_command FileFault is command = command
load_no_command NoMemory is command = command
load_no_command _ is command = is

pub refused_no_command : {usage name : List ℕ} {before after : SinkState} (answer given : Answer) → IsOfLoading answer
    → PutsItsLine usage name answer before after given → IsCommand given → ⊥
refused_no_command answer _ is (put n whole) command = load_no_command answer is command
refused_no_command answer _ is (own f puts) command = load_no_command answer is command
refused_no_command answer _ is (write_fault n stops) command = command
refused_no_command answer _ is (want n between leads puts) command = command

-- the image's name as the words say it
pub asked_reports : {before after : SinkState} {answer : Answer} (reading given : WordsReading) → reading ≡ given
    → Reports usage (image_name reading) before after answer
    → Reports usage (image_name given) before after answer
asked_reports reading given e reports = rw (← e) reports
