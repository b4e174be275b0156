-- Which counts rose, by the answer.
use Rattle.std.proofs.Common.{◌≡◌, ◌⊎◌, ◌↔◌, ◌∙◌, inl, inr, ℕ, ◌≤◌, List, Option, Result, Ok, Err, IsErrOf, refl, sym, ap, subst, arith}
use Rattle.std.proofs.KnownBytes.{Keeps-refl}
use Rattle.icn_host.specs.Counts.{CountsIf, CountsOnce, HasCause, Rose, one_more}
use Rattle.icn_host.specs.FileMaps.{StoreState}
use Rattle.icn_host.specs.Sinks.{SinkState}
use Rattle.icn_host.specs.Sources.{SourceCounts}
use Rattle.icn_host.specs.declared.fault.Fault.{Fault}
use Rattle.icn_host.specs.declared.fault.Fault.TheVariants as Faults
use Rattle.icn_host.specs.Puts.{RunsShort}
use Rattle.icn_streams.specs.Handed.{CallStreams, FaultCounts, call_streams, KeepsAllCounts, KeepsFaultCounts, KeepsStoreCounts, WantsMemory, failed_once, faults_of, uncounted, files_want, input_wants, output_wants, errors_want}
use Rattle.icn_streams.proofs.IdleCalls.{keeps_counts_refl}
use Rattle.icn_machine.specs.Stepping.{OutputFails, output_fails, errors_fail}
use Rattle.icn_machine.proofs.CountedFaults.{counts_then, memory_then, output_then, sink_then, store_fails, store_then}
use Rattle.icn_defs.specs.declared.ending.Ending.{Ending}
use Rattle.icn_running.specs.declared.fault.RunFault.{RunFault}
use Rattle.icn_running.specs.declared.fault.RunFault.TheVariants as Runs
use Rattle.icn_running.specs.Runs.{EndsAtFirst as RunEnds}
use Rattle.icn_answer.specs.declared.answer.Answer.{Answer}
use Rattle.icn_answer.specs.declared.answer.Answer.TheVariants.{Wrote, Ran, Refused, Command, Missing, BadUcode, BadImage, FileFault, ReadFault, WriteFault, NoMemory}
use Rattle.icn_answer.specs.Answers.{IsAbsence, IsFault}
use Rattle.icn_answer.specs.Refusing.{PutsOwn, PutsItsLine, put, own, write_fault, want}
use Rattle.icn_answer.proofs.NoFaults.{no_fault}
use Rattle.icn_answer.proofs.TornAnswers.{torn_no_absence, torn_no_read, torn_no_write, torn_wants}
use Rattle.icn_answer.proofs.FaultCounts.{counts_as}
use Rattle.icn_run_answer.specs.CountCauses.{EndsAtFirst, EndsBehind, IsFirstFaultOf, RunEndsAtFirst, SettlesBehind}
use Rattle.icn_run_answer.specs.FaultAnswers.{IsOfRun, of_run}

-- an answer that is no fault puts no line of its own
none_own : (answer : Answer) (sink : SinkState) → (IsFault answer → ⊥) → PutsOwn answer sink sink
none_own FileFault sink n = absurd (n refl)
none_own ReadFault sink n = absurd (n refl)
none_own NoMemory sink n = absurd (n refl)
none_own WriteFault sink n = refl
none_own Wrote sink n = refl
none_own (Ran ending) sink n = refl
none_own (Refused file line rule) sink n = refl
none_own (Command kind) sink n = refl
none_own (Missing other) sink n = refl
none_own (BadUcode other rule) sink n = refl
none_own (BadImage rule) sink n = refl

-- What comes behind

still_settled : (answer : Answer) (sink : SinkState) → SettlesBehind answer sink sink
still_settled Wrote sink = refl
still_settled (Ran ending) sink = refl
still_settled (Refused file line rule) sink = refl
still_settled (Command kind) sink = refl
still_settled (Missing other) sink = refl
still_settled (BadUcode other rule) sink = refl
still_settled (BadImage rule) sink = refl
still_settled FileFault sink = refl
still_settled ReadFault sink = refl
still_settled WriteFault sink = refl
still_settled NoMemory sink = record { held = Keeps-refl sink.held; counts = inl (record { faults = refl; wants = refl }) }

-- the own line alone
pub own_behind : {files : StoreState} {left : Option (List ℕ)} {input : SourceCounts} {out before after : SinkState} (answer : Answer)
    → PutsOwn answer before after
    → EndsBehind answer (call_streams files left input out before) (call_streams files left input out after)
own_behind {out = out} answer puts = record { files = refl; left = refl; counts = refl; output = still_settled answer out; own_line = puts }

-- Counts of the files

-- which counts of the files rose, by an answer
record StoreCountsBy (answer : Answer) (before after : StoreState) : Type 0 where
  failed : CountsOnce before.counts.faults after.counts.faults (answer ≡ FileFault)
  wanted : CountsIf before.counts.wants after.counts.wants (answer ≡ NoMemory)
  absences : before.counts.absences ≤ after.counts.absences

-- of an answer that is no fault of them
kept_store : (answer : Answer) (before after : StoreState) → (answer ≡ FileFault → ⊥) → (answer ≡ NoMemory → ⊥) → StoreCountsBy answer before after
    → KeepsStoreCounts before after
kept_store answer before after f w by = record { faults = by.failed.stayed f; wants = by.wanted.stayed w; absences = by.absences }

-- of an answer that is no fault at all
faultless_store : (answer : Answer) (before after : StoreState) → (IsFault answer → ⊥) → StoreCountsBy answer before after
    → KeepsStoreCounts before after
faultless_store answer before after n by = kept_store answer before after (λ e. n (rw e refl)) (λ e. n (rw e refl)) by

-- Where no count rose

-- the error output alone was put on, and its counts stayed
errors_kept : {files files' : StoreState} → KeepsStoreCounts files files' → (left left' : Option (List ℕ)) (input : SourceCounts)
    (out before after : SinkState) → KeepsFaultCounts before after
    → KeepsAllCounts (call_streams files left input out before) (call_streams files' left' input out after)
errors_kept store left left' input out before after kept =
    record { files = store; faults = refl; output = keeps_counts_refl out; errors = kept }

-- an answer that is no fault, with all counts as they were
none_first : (before after : CallStreams) (answer : Answer) → (IsFault answer → ⊥) → KeepsAllCounts before after → IsFirstFaultOf answer before after
none_first before after Wrote n kept = kept
none_first before after (Ran ending) n kept = kept
none_first before after (Refused file line rule) n kept = kept
none_first before after (Command kind) n kept = kept
none_first before after (Missing other) n kept = kept
none_first before after (BadUcode other rule) n kept = kept
none_first before after (BadImage rule) n kept = kept
none_first before after FileFault n kept = absurd (n refl)
none_first before after ReadFault n kept = absurd (n refl)
none_first before after WriteFault n kept = absurd (n refl)
none_first before after NoMemory n kept = absurd (n refl)

-- Where the files alone were called, and an answer is no failure of the input and of no output

module _ (files files' : StoreState) (left left' : Option (List ℕ)) (input : SourceCounts) (out sink : SinkState) where
  abbrev Was : CallStreams
  Was = call_streams files left input out sink

  abbrev Now : CallStreams
  Now = call_streams files' left' input out sink

  all_kept : KeepsStoreCounts files files' → KeepsAllCounts Was Now
  all_kept store = errors_kept store left left' input out sink sink (keeps_counts_refl sink)

  -- they wanted memory, or nothing did that counts it
  memory_first : StoreCountsBy NoMemory files files' → (files'.counts.wants ≡ files.counts.wants) ⊎ (files'.counts.wants ≡ one_more files.counts.wants)
      → WantsMemory Was Now
  memory_first by (inl same) = uncounted (all_kept (record { faults = by.failed.stayed (λ e. cc); wants = same; absences = by.absences }))
  memory_first by (inr once) = files_want (record { faults = by.failed.stayed (λ e. cc); wants = once; absences = by.absences }) refl
      (keeps_counts_refl out) (keeps_counts_refl sink)

  store_first : (answer : Answer) → (answer ≡ WriteFault → ⊥) → (answer ≡ ReadFault → ⊥) → StoreCountsBy answer files files'
      → IsFirstFaultOf answer Was Now
  store_first Wrote w r by = all_kept (faultless_store Wrote files files' (λ is. no_fault Wrote refl is) by)
  store_first (Ran ending) w r by = all_kept (faultless_store (Ran ending) files files' (λ is. no_fault (Ran ending) refl is) by)
  store_first (Refused file line rule) w r by =
      all_kept (faultless_store (Refused file line rule) files files' (λ is. no_fault (Refused file line rule) refl is) by)
  store_first (Command kind) w r by = all_kept (faultless_store (Command kind) files files' (λ is. no_fault (Command kind) refl is) by)
  store_first (Missing other) w r by = all_kept (faultless_store (Missing other) files files' (λ is. no_fault (Missing other) refl is) by)
  store_first (BadUcode other rule) w r by =
      all_kept (faultless_store (BadUcode other rule) files files' (λ is. no_fault (BadUcode other rule) refl is) by)
  store_first (BadImage rule) w r by = all_kept (faultless_store (BadImage rule) files files' (λ is. no_fault (BadImage rule) refl is) by)
  store_first FileFault w r by = record {
    files = record { faults = by.failed.rose refl; wants = by.wanted.stayed (λ e. cc); absences = by.absences };
    faults = refl;
    output = keeps_counts_refl out;
    errors = keeps_counts_refl sink;
  }
  store_first ReadFault w r by = absurd (r refl)
  store_first WriteFault w r by = absurd (w refl)
  store_first NoMemory w r by = memory_first by by.wanted.once

-- Lines of answers that no program ran for

-- want of memory in the put of a line
want_first : {files files' : StoreState} {before between : SinkState} {line : List ℕ} → KeepsStoreCounts files files' → (left left' : Option (List ℕ))
    (input : SourceCounts) (out : SinkState) → (between ≡ before) ⊎ RunsShort before between line
    → WantsMemory (call_streams files left input out before) (call_streams files' left' input out between)
want_first {before = before} store left left' input out (inl same) =
    uncounted (errors_kept store left left' input out before _
    (record { faults = ap (λ (sink : SinkState). sink.faults) same; wants = ap (λ (sink : SinkState). sink.wants) same }))
want_first store left left' input out (inr short) =
    errors_want store refl (keeps_counts_refl out) (record { faults = short.faults; wants = short.wants })

-- an answer that no program ran for
refused_counts : {usage name : List ℕ} {files files' : StoreState} {before after : SinkState} (left left' : Option (List ℕ)) (input : SourceCounts)
    (out : SinkState) (answer given : Answer) → (answer ≡ WriteFault → ⊥) → (answer ≡ ReadFault → ⊥) → StoreCountsBy answer files files'
    → PutsItsLine usage name answer before after given
    → RunEndsAtFirst given (call_streams files left input out before) (call_streams files' left' input out after)
refused_counts {files = files} {files'} {before} {after} left left' input out answer _ w r by (put n whole) = record {
  between = call_streams files' left' input out after;
  first = none_first _ _ answer n (errors_kept (faultless_store answer files files' n by) left left' input out before after
      (record { faults = whole.faults; wants = whole.wants }));
  behind = own_behind answer (none_own answer after n);
}
refused_counts {files = files} {files'} {before} left left' input out answer _ w r by (own f puts) = record {
  between = call_streams files' left' input out before;
  first = store_first files files' left left' input out before answer w r by;
  behind = own_behind answer puts;
}
refused_counts {files = files} {files'} {after = after} left left' input out answer _ w r by (write_fault n stops) = record {
  between = call_streams files' left' input out after;
  first = errors_fail (faultless_store answer files files' n by) refl (keeps_counts_refl out) (record { faults = stops.faults; wants = stops.wants });
  behind = own_behind WriteFault refl;
}
refused_counts {files = files} {files'} left left' input out answer _ w r by (want n between leads puts) = record {
  between = call_streams files' left' input out between;
  first = want_first (faultless_store answer files files' n by) left left' input out leads;
  behind = own_behind NoMemory puts;
}

pub refused_ends : {usage name : List ℕ} {absent given_absent : Type 0} {files files' : StoreState} {left left' : Option (List ℕ)} {input : SourceCounts}
    {out before after : SinkState} (answer given : Answer) → (answer ≡ WriteFault → ⊥) → (answer ≡ ReadFault → ⊥)
    → CountsOnce files.counts.faults files'.counts.faults (answer ≡ FileFault) → CountsIf files.counts.wants files'.counts.wants (answer ≡ NoMemory)
    → HasCause files.counts.absences files'.counts.absences absent → (given_absent → absent) → PutsItsLine usage name answer before after given
    → EndsAtFirst given given_absent (call_streams files left input out before) (call_streams files' left' input out after)
refused_ends {left = left} {left'} {input} {out} answer given w r file wanted cause absences refuses = record {
  absence = record { later = cause.later; rose = λ a. cause.rose (absences a) };
  first = refused_counts left left' input out answer given w r (record { failed = file; wanted = wanted; absences = cause.later }) refuses;
}

-- a file that was not there, in what is given in place of an answer
pub absence_of : {usage name : List ℕ} {before after : SinkState} (answer given : Answer) → PutsItsLine usage name answer before after given → IsAbsence given
    → IsAbsence answer
absence_of answer _ (put n whole) is = is
absence_of answer _ (own f puts) is = is
absence_of answer _ (write_fault n stops) is = absurd is
absence_of answer _ (want n between leads puts) is = absurd is

-- Answers of runs

pub run_no_absence : (answer : Answer) → IsOfRun answer → IsAbsence answer → ⊥
run_no_absence (Ran ending) is a = a
run_no_absence FileFault is a = a
run_no_absence ReadFault is a = a
run_no_absence WriteFault is a = a
run_no_absence NoMemory is a = a
run_no_absence _ is a = is

-- Calls of several parts

-- what failed first has failed nothing in front of it
first_then : (a b c : CallStreams) (answer : Answer) → KeepsAllCounts a b → IsFirstFaultOf answer b c → IsFirstFaultOf answer a c
first_then a b c Wrote h k = counts_then a b c h k
first_then a b c (Ran ending) h k = counts_then a b c h k
first_then a b c (Refused file line rule) h k = counts_then a b c h k
first_then a b c (Command kind) h k = counts_then a b c h k
first_then a b c (Missing other) h k = counts_then a b c h k
first_then a b c (BadUcode other rule) h k = counts_then a b c h k
first_then a b c (BadImage rule) h k = counts_then a b c h k
first_then a b c FileFault h k = record {
  files = store_fails h.files k.files;
  faults = k.faults ∙ h.faults;
  output = sink_then h.output k.output;
  errors = sink_then h.errors k.errors;
}
first_then a b c ReadFault h k = record {
  files = store_then h.files k.files;
  faults = k.faults ∙ ap failed_once h.faults;
  output = sink_then h.output k.output;
  errors = sink_then h.errors k.errors;
}
first_then a b c WriteFault h k = output_then a b c h k
first_then a b c NoMemory h k = memory_then a b c h k

-- files were called before, and failed nothing
pub first_behind_files : {files files' : StoreState} (left : Option (List ℕ)) (input : SourceCounts) (out errors : SinkState) (after : CallStreams)
    (answer : Answer) → KeepsStoreCounts files files' → IsFirstFaultOf answer (call_streams files' left input out errors) after
    → IsFirstFaultOf answer (call_streams files left input out errors) after
first_behind_files {files} {files'} left input out errors after answer kept first =
    first_then (call_streams files left input out errors) (call_streams files' left input out errors) after answer
    (all_kept files files' left left input out errors kept) first

-- files that were read or written before, and nothing else
pub after_files : {absent : Type 0} {files files' : StoreState} {left : Option (List ℕ)} {input : SourceCounts} {out errors : SinkState}
    {after : CallStreams} (answer : Answer) → KeepsStoreCounts files files'
    → EndsAtFirst answer absent (call_streams files' left input out errors) after
    → EndsAtFirst answer absent (call_streams files left input out errors) after
after_files {left = left} {input} {out} {errors} answer kept ends = record {
  absence = record { later = omega (arith, kept.absences, ends.absence.later); rose = λ is. omega (arith, kept.absences, ends.absence.rose is) };
  first = record {
    between = ends.first.between;
    first = first_behind_files left input out errors ends.first.between answer kept ends.first.first;
    behind = ends.first.behind;
  };
}

-- no fault is answered, and nothing was put
pub none_counts : {files files' : StoreState} {left : Option (List ℕ)} {input : SourceCounts} {out errors : SinkState} (answer : Answer)
    → (IsFault answer → ⊥) → KeepsStoreCounts files files'
    → RunEndsAtFirst answer (call_streams files left input out errors) (call_streams files' left input out errors)
none_counts {files = files} {files'} {left} {input} {out} {errors} answer n kept = record {
  between = call_streams files' left input out errors;
  first = none_first _ _ answer n (all_kept files files' left left input out errors kept);
  behind = own_behind answer (none_own answer errors n);
}

-- Files that are written

-- they were written whole, and no fault is answered
pub written_ends : {files files' : StoreState} {left : Option (List ℕ)} {input : SourceCounts} {out errors : SinkState} (answer : Answer)
    → (IsFault answer → ⊥) → (IsAbsence answer → ⊥) → KeepsStoreCounts files files'
    → EndsAtFirst answer (IsAbsence answer) (call_streams files left input out errors) (call_streams files' left input out errors)
written_ends answer none there kept = record {
  absence = record { later = kept.absences; rose = λ is. absurd (there is) };
  first = none_counts answer none kept;
}

-- one could not be written whole
pub torn_ends : {A : Type 0} {files files' : StoreState} {left left' : Option (List ℕ)} {input : SourceCounts} {out before after : SinkState}
    (fault : Fault) (answer : Answer) → (answer ≡ FileFault) ↔ (fault ≡ Faults.Failed)
    → (answer ≡ NoMemory) ↔ (fault ≡ Faults.NoMemory) → (answer ≡ FileFault) ⊎ (answer ≡ NoMemory)
    → CountsOnce files.counts.faults files'.counts.faults (IsErrOf {T = A} (Err fault) Faults.Failed)
    → CountsOnce files.counts.wants files'.counts.wants (IsErrOf {T = A} (Err fault) Faults.NoMemory)
    → files'.counts.absences ≡ files.counts.absences → PutsOwn answer before after
    → EndsAtFirst answer (IsAbsence answer) (call_streams files left input out before) (call_streams files' left' input out after)
torn_ends {files = files} {files'} {left} {left'} {input} {out} {before} fault answer failed wanted is cause memory a puts = record {
  absence = record { later = omega (arith, a); rose = λ absent. absurd (torn_no_absence answer is absent) };
  first = record {
    between = call_streams files' left' input out before;
    first = store_first files files' left left' input out before answer (torn_no_write answer is) (torn_no_read answer is) (record {
      failed = record {
        later = cause.later;
        rose = λ e. cause.rose (ap (λ f. Err f) (failed.0 e));
        stayed = λ n. cause.stayed (λ e. n (failed.1 (same_fault e)));
      };
      wanted = counts_as wanted.1 (torn_wants fault memory);
      absences = omega (arith, a);
    });
    behind = own_behind answer puts;
  };
} where
  same_fault : {A : Type 0} {one other : Fault} → ◌≡◌ {A = Result A Fault} (Err one) (Err other) → one ≡ other
  same_fault e = cc

-- a run that ended
pub ran_counts : {before after : CallStreams} (ending : Ending) → RunEnds {A = Ending} (Ok ending) before after → RunEndsAtFirst (Ran ending) before after
ran_counts {after = after} ending kept = record { between = after; first = kept; behind = own_behind (Ran ending) refl }

-- which counts rose where a run was broken off
pub broken_first : (before after : CallStreams) (fault : RunFault) → RunEnds {A = Ending} (Err fault) before after → IsFirstFaultOf (of_run fault) before after
broken_first before after Runs.ReadFault fails = fails
broken_first before after Runs.WriteFault fails = fails
broken_first before after Runs.FileFault fails = fails
broken_first before after Runs.NoMemory wants = wants

-- a run that was broken off, with what comes behind
pub broken_counts : {before between after : CallStreams} (fault : RunFault) → RunEnds {A = Ending} (Err fault) before between
    → EndsBehind (of_run fault) between after → RunEndsAtFirst (of_run fault) before after
broken_counts {before} {between} fault ends behind = record { between = between; first = broken_first before between fault ends; behind = behind }

-- a run that was broken off behind calls of the files that failed nothing
pub fault_behind_files : {files files' : StoreState} (left : Option (List ℕ)) (input : SourceCounts) (out errors : SinkState) (after : CallStreams)
    (fault : RunFault) → KeepsStoreCounts files files' → RunEnds {A = Ending} (Err fault) (call_streams files' left input out errors) after
    → RunEnds {A = Ending} (Err fault) (call_streams files left input out errors) after
fault_behind_files {files} {files'} left input out errors after fault kept ends = by_fault fault ends
  where
    before : CallStreams
    before = call_streams files left input out errors

    between : CallStreams
    between = call_streams files' left input out errors

    by_fault : (fault : RunFault) → RunEnds {A = Ending} (Err fault) (call_streams files' left input out errors) after
        → RunEnds {A = Ending} (Err fault) (call_streams files left input out errors) after
    by_fault Runs.ReadFault k = record {
      files = store_then kept k.files;
      faults = k.faults;
      output = k.output;
      errors = k.errors;
    }
    by_fault Runs.WriteFault k = output_then before between after (all_kept files files' left left input out errors kept) k
    by_fault Runs.FileFault k = record {
      files = store_fails kept k.files;
      faults = k.faults;
      output = k.output;
      errors = k.errors;
    }
    by_fault Runs.NoMemory k = memory_then before between after (all_kept files files' left left input out errors kept) k

-- its absences do not fall
pub run_absences : (before after : CallStreams) (answer : Answer) → IsFirstFaultOf answer before after
    → before.files.counts.absences ≤ after.files.counts.absences
run_absences before after Wrote kept = kept.files.absences
run_absences before after (Ran ending) kept = kept.files.absences
run_absences before after (Refused file line rule) kept = kept.files.absences
run_absences before after (Command kind) kept = kept.files.absences
run_absences before after (Missing other) kept = kept.files.absences
run_absences before after (BadUcode other rule) kept = kept.files.absences
run_absences before after (BadImage rule) kept = kept.files.absences
run_absences before after FileFault fails = fails.files.absences
run_absences before after ReadFault fails = fails.files.absences
run_absences before after WriteFault (output_fails store input out err) = store.absences
run_absences before after WriteFault (errors_fail store input out err) = store.absences
run_absences before after NoMemory wants = memory_absences before after wants
  where
    memory_absences : (before after : CallStreams) → WantsMemory before after → before.files.counts.absences ≤ after.files.counts.absences
    memory_absences before after (uncounted kept) = kept.files.absences
    memory_absences before after (files_want store input out err) = store.absences
    memory_absences before after (input_wants store input out err) = store.absences
    memory_absences before after (output_wants store input out err) = store.absences
    memory_absences before after (errors_want store input out err) = store.absences

-- of an answer of a run, behind which nothing is read or written
pub run_ends : {before after : CallStreams} (answer : Answer) → IsOfRun answer → RunEndsAtFirst answer before after
    → EndsAtFirst answer (IsAbsence answer) before after
run_ends {before} {after} answer is ends = record {
  absence = record {
    later = subst (λ (s : StoreState). before.files.counts.absences ≤ s.counts.absences) (sym ends.behind.files)
        (run_absences before ends.between answer ends.first);
    rose = λ a. absurd (run_no_absence answer is a);
  };
  first = ends;
}

-- Where no count of faults rose

rose_of : (before now : ℕ) → now ≡ one_more before → Rose before now
rose_of before now e = omega arith

-- the input failed, and its counts stayed behind that
counts_failed : (before : SourceCounts) {between after : SourceCounts} → after ≡ between → faults_of between ≡ failed_once (faults_of before)
    → after.faults ≡ one_more before.faults
counts_failed before same fails = ap (λ (c : SourceCounts). c.faults) same ∙ ap (λ (c : FaultCounts). c.faults) fails

none_wrote : {before after : CallStreams} → OutputFails before after → (Rose before.output.faults after.output.faults → ⊥)
    → (Rose before.errors.faults after.errors.faults → ⊥) → ⊥
none_wrote (output_fails store input out err) o e = o (rose_of _ _ out.faults)
none_wrote (errors_fail store input out err) o e = e (rose_of _ _ err.faults)

none_wrote_behind : {before after : CallStreams} → RunEndsAtFirst WriteFault before after → (Rose before.output.faults after.output.faults → ⊥)
    → (Rose before.errors.faults after.errors.faults → ⊥) → ⊥
none_wrote_behind {before = before} ends o e =
    none_wrote ends.first (subst (λ (sink : SinkState). Rose before.output.faults sink.faults → ⊥) ends.behind.output o)
    (subst (λ (sink : SinkState). Rose before.errors.faults sink.faults → ⊥) ends.behind.own_line e)

-- the files failed, and were not called behind that
none_stored : {before after : CallStreams} → RunEndsAtFirst FileFault before after → (Rose before.files.counts.faults after.files.counts.faults → ⊥) → ⊥
none_stored {before} {after} ends f =
    f (rose_of before.files.counts.faults after.files.counts.faults
    (ap (λ (s : StoreState). s.counts.faults) ends.behind.files ∙ ends.first.files.faults))

-- where no count of faults rose, no fault is answered but want of memory
pub faultless_of : {absent : Type 0} {before after : CallStreams} (answer : Answer) → EndsAtFirst answer absent before after
    → (Rose before.files.counts.faults after.files.counts.faults → ⊥)
    → (Rose before.counts.faults after.counts.faults → ⊥) → (Rose before.output.faults after.output.faults → ⊥)
    → (Rose before.errors.faults after.errors.faults → ⊥) → IsFault answer → answer ≡ NoMemory
faultless_of FileFault ends f i o e is = absurd (none_stored ends.first f)
faultless_of {before = before} ReadFault ends f i o e is =
    absurd (i (rose_of _ _ (counts_failed before.counts ends.first.behind.counts ends.first.first.faults)))
faultless_of WriteFault ends f i o e is = absurd (none_wrote_behind ends.first o e)
faultless_of NoMemory ends f i o e is = refl
faultless_of Wrote ends f i o e is = absurd (no_fault Wrote refl is)
faultless_of (Ran ending) ends f i o e is = absurd (no_fault (Ran ending) refl is)
faultless_of (Refused file line rule) ends f i o e is = absurd (no_fault (Refused file line rule) refl is)
faultless_of (Command kind) ends f i o e is = absurd (no_fault (Command kind) refl is)
faultless_of (Missing other) ends f i o e is = absurd (no_fault (Missing other) refl is)
faultless_of (BadUcode other rule) ends f i o e is = absurd (no_fault (BadUcode other rule) refl is)
faultless_of (BadImage rule) ends f i o e is = absurd (no_fault (BadImage rule) refl is)
