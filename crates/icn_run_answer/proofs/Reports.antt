-- How the line of an answer stands on the error output.
use Rattle.std.proofs.Common.{◌≡◌, ◌⊎◌, inl, inr, ℕ, List, Err, refl, sym, subst}
use Rattle.icn_host.specs.Sinks.{Gains, SinkState}
use Rattle.icn_host.specs.declared.fault.Fault.TheVariants.{Failed, NoMemory as Wants}
use Rattle.icn_host.proofs.ToldPuts.{leads_of, puts_nothing}
use Rattle.icn_host.specs.Puts.{Puts, all}
use Rattle.icn_streams.specs.Handed.{CallStreams, WantsMemory, uncounted, files_want, input_wants, output_wants, errors_want}
use Rattle.icn_machine.specs.Stepping.{OutputFails, output_fails, errors_fail}
use Rattle.icn_defs.specs.declared.ending.Ending.{Ending}
use Rattle.icn_running.specs.declared.fault.RunFault.{RunFault}
use Rattle.icn_running.specs.declared.fault.RunFault.TheVariants as Runs
use Rattle.icn_running.specs.Runs.{EndsAtFirst as RunEnds}
use Rattle.icn_answer.specs.declared.answer.Answer.{Answer}
use Rattle.icn_answer.specs.declared.answer.Answer.TheVariants.{Wrote, Ran, Refused, Command, Missing, BadUcode, BadImage, FileFault, ReadFault, WriteFault, NoMemory}
use Rattle.icn_answer.specs.Answers.{IsFault}
use Rattle.icn_answer.proofs.NoFaults.{ran_no_fault, wrote_no_fault}
use Rattle.icn_run_answer.specs.FaultAnswers.{of_run}
use Rattle.icn_answer.specs.Lines.{fault_line, line_of}
use Rattle.icn_answer.specs.Refusing.{PutsOwn, PutsItsLine, put, own, write_fault, want}
use Rattle.icn_run_answer.specs.Reporting.{CountsFault, LineStands, PutsSome, ReportStands, Reports, put as put_whole, own as put_own, broke}

-- Answers that are faults

pub is_run_fault : (fault : RunFault) → IsFault (of_run fault)
is_run_fault Runs.ReadFault = refl
is_run_fault Runs.WriteFault = refl
is_run_fault Runs.FileFault = refl
is_run_fault Runs.NoMemory = refl

-- What was put

-- a fault's own line, as far as it was put
pub puts_own : (before after : SinkState) (answer : Answer) → PutsOwn answer before after → Puts before after (fault_line answer)
puts_own before after FileFault puts = puts
puts_own before after ReadFault puts = puts
puts_own before after NoMemory puts = puts
puts_own before after WriteFault same = rw same (all (puts_nothing before))
puts_own before after Wrote same = rw same (all (puts_nothing before))
puts_own before after (Ran ending) same = rw same (all (puts_nothing before))
puts_own before after (Refused file line rule) same = rw same (all (puts_nothing before))
puts_own before after (Command kind) same = rw same (all (puts_nothing before))
puts_own before after (Missing other) same = rw same (all (puts_nothing before))
puts_own before after (BadUcode other rule) same = rw same (all (puts_nothing before))
puts_own before after (BadImage rule) same = rw same (all (puts_nothing before))

-- the line of an answer that no program ran for stands where it was put
pub line_stands : (usage name : List ℕ) (before after : SinkState) (answer : Answer) → (IsFault answer → ⊥)
    → ((ending : Ending) → answer ≡ Ran ending → ⊥) → Gains before.held after.held (line_of usage name answer) → LineStands usage name answer before after
line_stands usage name before after Wrote n ran gains = gains
line_stands usage name before after (Ran ending) n ran gains = absurd (ran ending refl)
line_stands usage name before after (Refused file line rule) n ran gains = gains
line_stands usage name before after (Command kind) n ran gains = gains
line_stands usage name before after (Missing other) n ran gains = gains
line_stands usage name before after (BadUcode other rule) n ran gains = gains
line_stands usage name before after (BadImage rule) n ran gains = gains
line_stands usage name before after FileFault n ran gains = absurd (n refl)
line_stands usage name before after ReadFault n ran gains = absurd (n refl)
line_stands usage name before after WriteFault n ran gains = absurd (n refl)
line_stands usage name before after NoMemory n ran gains = absurd (n refl)

-- nothing but the line of an answer that no program ran for was put
pub reports_of : {usage name : List ℕ} {answer given : Answer} {before after : SinkState}
    → ((ending : Ending) → answer ≡ Ran ending → ⊥) → PutsItsLine usage name answer before after given → Reports usage name before after given
reports_of {answer = answer} ran (put n whole) = put_whole n (line_stands _ _ _ _ answer n ran whole.gains)
reports_of {answer = answer} {before = before} ran (own f puts) = put_own f Wrote wrote_no_fault before (inl refl) (puts_own _ _ answer puts)
reports_of {answer = answer} {after = after} ran (write_fault n stops) = put_own refl answer n after (leads_of _ _ _ Failed stops) (all (puts_nothing after))
reports_of {answer = answer} ran (want n between leads puts) = put_own refl answer n between (leads_of _ _ _ Wants leads) puts

-- a run that ended
pub ran_reports : {usage name : List ℕ} {before after : SinkState} (ending : Ending) → ReportStands ending before after
    → Reports usage name before after (Ran ending)
ran_reports ending stands = put_whole (ran_no_fault ending) stands

-- a fault's own line alone
pub own_reports : {usage name : List ℕ} {before after : SinkState} (fault : Answer) → IsFault fault → PutsOwn fault before after
    → Reports usage name before after fault
own_reports {before = before} fault is puts = put_own is Wrote wrote_no_fault before (inl refl) (puts_own _ _ fault puts)

-- what a run put that was broken off
pub some_put : {before after : SinkState} → (own : List ℕ) × Gains before.held after.held own → PutsSome before after
some_put some = record { own = some.0; gains = some.1 }

-- the counts of the error output, where a run ended at its first fault
output_counts : (before after : CallStreams) → OutputFails before after → CountsFault Runs.WriteFault before.errors after.errors
output_counts before after (output_fails store input out err) = inl err
output_counts before after (errors_fail store input out err) = inr err

memory_counts : (before after : CallStreams) → WantsMemory before after → CountsFault Runs.NoMemory before.errors after.errors
memory_counts before after (uncounted same) = inl same.errors
memory_counts before after (files_want store input out err) = inl err
memory_counts before after (input_wants store input out err) = inl err
memory_counts before after (output_wants store input out err) = inl err
memory_counts before after (errors_want store input out err) = inr err

fault_counts : (before after : CallStreams) (fault : RunFault) → RunEnds {A = Ending} (Err fault) before after → CountsFault fault before.errors after.errors
fault_counts before after Runs.ReadFault fails = fails.errors
fault_counts before after Runs.WriteFault fails = output_counts before after fails
fault_counts before after Runs.FileFault fails = fails.errors
fault_counts before after Runs.NoMemory wants = memory_counts before after wants

-- a run that was broken off, with the fault's own line behind
pub fault_reports : {usage name : List ℕ} (before between : CallStreams) (after : SinkState) (fault : RunFault) → RunEnds {A =
    Ending} (Err fault) before between
    → PutsSome before.errors between.errors → PutsOwn (of_run fault) between.errors after
    → Reports usage name before.errors after (of_run fault)
fault_reports before between after fault ends some puts =
    broke fault refl between.errors (fault_counts before between fault ends) some (puts_own _ _ (of_run fault) puts)

pub line_of_reports : {usage name : List ℕ} {before after : SinkState} {answer : Answer} → Reports usage name before after answer
    → IsFault answer ⊎ LineStands usage name answer before after
line_of_reports (put_whole n stands) = inr stands
line_of_reports (put_own f other n between leads puts) = inl f
line_of_reports (broke fault e between counts some puts) = inl (subst IsFault (sym e) (is_run_fault fault))
