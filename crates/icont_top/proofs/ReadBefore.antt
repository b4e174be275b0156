-- What a call comes to whose files were read before: of these it is told only what they held, and how often they failed or wanted memory.
use Rattle.std.proofs.Common.{◌≡◌, ◌∙◌, ℕ, List, Option, Some, refl, subst}
use Rattle.icn_host.specs.FileMaps.{FileMap, StoreState}
use Rattle.icn_host.specs.Sinks.{SinkState}
use Rattle.icn_host.specs.Sources.{SourceCounts}
use Rattle.icn_value.specs.Store.{outside_of}
use Rattle.icn_defs.specs.Interruptions.{TellsMap}
use Rattle.icn_streams.specs.Handed.{CallStreams, call_streams}
use Rattle.icn_answer.specs.declared.answer.Answer.{Answer}
use Rattle.icn_answer.specs.declared.answer.Answer.TheVariants.{Wrote, Ran, Refused, Command, Missing, BadUcode, BadImage, FileFault, ReadFault, WriteFault, NoMemory}
use Rattle.icn_answer.proofs.ToldContent.{if_some_elim, if_some_intro}
use Rattle.icn_answer.proofs.TornAnswers.{OnlyRead, torn_since}
use Rattle.icn_run_answer.specs.ToldObjects.{with_errors}
use Rattle.icn_run_answer.proofs.OutsideLeft.{read_kept}
use Rattle.icont_top.specs.Answering.{IsDone, RunsAsAsked}
use Rattle.icont_top.specs.Job.{Job, image_file, with_image}
use Rattle.icont_top.specs.Outcomes.{AnswersCommand, Completes, EndsBroken, EndsBrokenBehind, EndsByFault, EndsIdle, EndsTorn, LeavesFiles, WritesAll, WritesPart, all_written, broke, broke_behind, by_run, done, fault, idle, left_alone, part_written, torn}
use Rattle.icont_top.proofs.CallOutcomes.{broken_since, first_since, holds_since}

module _ (words : List (List ℕ)) (files : FileMap) (was now : StoreState) (read : OnlyRead was now) (there : was.held ≡ Some files) (answer : Answer)
    (told : Option (List ℕ)) (input : SourceCounts) (out errors : SinkState) (after : CallStreams) where
  abbrev Was : CallStreams
  Was = call_streams was told input out errors

  abbrev Now : CallStreams
  Now = call_streams now told input out errors

  tells : TellsMap now.held files
  tells = record { told = files; is = read.held ∙ there; same = λ q. refl }

  completes_since : (job : Job) → Completes job answer Now after → Completes job answer Was after
  completes_since job ends = record {
    answered = ends.answered;
    files = subst (λ (held : Option FileMap). WritesAll held after.files.held job.written) read.held ends.files;
    left = ends.left;
    calls = ends.calls;
    output = ends.output;
    errors = ends.errors;
  }

  idle_since : (left : List ℕ) → EndsIdle words files left answer Now after → EndsIdle words files left answer Was after
  idle_since left ends = record {
    between = ends.between;
    files_stay = ends.files_stay ∙ read.held;
    input_stays = ends.input_stays;
    counts_stay = ends.counts_stay;
    output_stays = ends.output_stays;
    cause = ends.cause;
    line = ends.line;
  }

  part_since : (left : List ℕ) → EndsTorn words files left answer Now after → EndsTorn words files left answer Was after
  part_since left ends = record {
    written = ends.written;
    cause = torn_since was now after.files answer read ends.cause;
    asked = ends.asked;
    part = subst (λ (held : Option FileMap). WritesPart held after.files.held ends.written) read.held ends.part;
    input_stays = ends.input_stays;
    counts_stay = ends.counts_stay;
    output_stays = ends.output_stays;
    line = ends.line;
  }

  off_since : (left : List ℕ) → EndsBroken words files left answer Now after → EndsBroken words files left answer Was after
  off_since left ends = record {
    plan = ends.plan;
    members = ends.members;
    tables = ends.tables;
    run = ends.run;
    stopped = ends.stopped;
    between = ends.between;
    asked = ends.asked;
    runs = ends.runs;
    answered = ends.answered;
    first = first_since was now told input out errors tells (read_kept read) ends.stopped ends.between ends.first;
    broken = record {
      seen = ends.broken.seen;
      behaves = ends.broken.behaves;
      leaves = broken_since was now told input out errors tells (read_kept read) ends.stopped
          (outside_of left (with_image (image_file ends.plan.image ends.members ends.tables) files)) ends.broken.seen ends.between ends.broken.leaves;
    };
    line = ends.line;
  }

  behind_since : (left : List ℕ) → EndsBrokenBehind words files left answer Now after → EndsBrokenBehind words files left answer Was after
  behind_since left ends = record {
    plan = ends.plan;
    members = ends.members;
    tables = ends.tables;
    run = ends.run;
    number = ends.number;
    stopped = ends.stopped;
    between = ends.between;
    asked = ends.asked;
    runs = ends.runs;
    numbered = ends.numbered;
    stops = ends.stops;
    answered = ends.answered;
    first = first_since was now told input out errors tells (read_kept read) ends.stopped (with_errors ends.between after) ends.first;
    broken = record {
      seen = ends.broken.seen;
      behaves = ends.broken.behaves;
      leaves = record {
        done = ends.broken.leaves.done;
        files = holds_since tells ends.broken.leaves.files;
        input = ends.broken.leaves.input;
        calls = ends.broken.leaves.calls;
        count = ends.broken.leaves.count;
        output = ends.broken.leaves.output;
        errors = ends.broken.leaves.errors;
      };
    };
    line = ends.line;
  }

  fault_since : (left : List ℕ) → EndsByFault words files left answer Now after → EndsByFault words files left answer Was after
  fault_since left (idle ends) = idle (idle_since left ends)
  fault_since left (torn ends) = torn (part_since left ends)
  fault_since left (broke ends) = broke (off_since left ends)
  fault_since left (broke_behind ends) = broke_behind (behind_since left ends)

  outcome_since : (left : List ℕ) → AnswersCommand words files left answer Now after → AnswersCommand words files left answer Was after
  outcome_since left (done job is ends) = done job is (completes_since job ends)
  outcome_since left (fault is ends) = fault is (fault_since left ends)

leaves_since : {words : List (List ℕ)} {files : FileMap} (was now after : StoreState) (answer : Answer) → OnlyRead was now
    → LeavesFiles words files answer now after → LeavesFiles words files answer was after
leaves_since was now after answer read (left_alone is same) = left_alone is (same ∙ read.held)
leaves_since was now after answer read (all_written written are wrote sets) =
    all_written written are wrote (subst (λ (held : Option FileMap). WritesAll held after.held written) read.held sets)
leaves_since was now after answer read (part_written written are tears part) =
    part_written written are (torn_since was now after answer read tears)
    (subst (λ (held : Option FileMap). WritesPart held after.held written) read.held part)
leaves_since was now after answer read (by_run plan members tables run is asked runs) = by_run plan members tables run is asked runs

-- how a run was over is said of both outputs and the calls of the input alone
asked_since : (words : List (List ℕ)) (files : FileMap) (was now : StoreState) (told : Option (List ℕ)) (input : SourceCounts) (out errors : SinkState)
    (after : CallStreams) (answer : Answer) → RunsAsAsked words files answer (call_streams now told input out errors) after
    → RunsAsAsked words files answer (call_streams was told input out errors) after
asked_since words files was now told input out errors after (Ran ending) (plan, (members, (tables, (run, (asked, (runs, over)))))) =
    (plan, (members, (tables, (run, (asked, (runs, record { report = over.report; calls = over.calls; output = over.output }))))))
asked_since words files was now told input out errors after Wrote asked = tt
asked_since words files was now told input out errors after (Refused file line rule) asked = tt
asked_since words files was now told input out errors after (Command kind) asked = tt
asked_since words files was now told input out errors after (Missing name) asked = tt
asked_since words files was now told input out errors after (BadUcode name rule) asked = tt
asked_since words files was now told input out errors after (BadImage rule) asked = tt
asked_since words files was now told input out errors after FileFault asked = tt
asked_since words files was now told input out errors after ReadFault asked = tt
asked_since words files was now told input out errors after WriteFault asked = tt
asked_since words files was now told input out errors after NoMemory asked = tt

-- the files as they were before they were read
pub held_as : {words : List (List ℕ)} {files : FileMap} {answer : Answer} {told : Option (List ℕ)} {input : SourceCounts} {out errors : SinkState}
    {after : CallStreams} (was now : StoreState) → OnlyRead was now → was.held ≡ Some files
    → IsDone words files answer (call_streams now told input out errors) after → IsDone words files answer (call_streams was told input out errors) after
held_as {words} {files} {answer} {told} {input} {out} {errors} {after} was now read there is = record {
  outcome = if_some_intro told _ (λ left e.
      outcome_since words files was now read there answer told input out errors after left (if_some_elim _ told left e is.outcome));
  headline = is.headline;
  leaves = leaves_since was now after.files answer read is.leaves;
  answered = is.answered;
  ran = asked_since words files was now told input out errors after answer is.ran;
}
