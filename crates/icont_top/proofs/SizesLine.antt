-- The line of the sizes of the program of a number, behind its run.
use Rattle.std.proofs.Common.{◌≡◌, inl, inr, ℕ, true, false, List, [], ◌++◌, take, Option, None, Some, Err, refl, sym, ap, ◌∙◌, subst, append-nil}
use Rattle.icn_host.specs.Counts.{one_more, raised_count}
use Rattle.icn_host.specs.FileMaps.{StoreState}
use Rattle.icn_host.specs.declared.fault.Fault.{Fault}
use Rattle.icn_host.specs.declared.fault.Fault.TheVariants as Faults
use Rattle.icn_host.proofs.SinkSteps.{gains_nothing, gains_then}
use Rattle.icn_host.specs.Puts.{LeadsBy}
use Rattle.icn_host.specs.Sinks.{Gains, SinkState}
use Rattle.icn_host.specs.Sources.{SourceCounts}
use Rattle.icn_value.specs.Store.{errors_in, output_in, readings_in}
use Rattle.icn_code.specs.Codes.{Tables}
use Rattle.icn_defs.specs.Running.{Launch, Observation, Done, Exit, Errored, AtBound, Ending as SeenEnding}
use Rattle.icn_defs.specs.Interruptions.{HoldsMap}
use Rattle.icn_defs.specs.declared.ending.Ending.{Ending}
use Rattle.icn_defs.specs.declared.ending.Ending.TheVariants as Endings
use Rattle.law_simulation.specs.FirstLaw.{RunsFlat}
use Rattle.icn_streams.specs.Handed.{CallStreams, KeepsAllCounts, KeepsFaultCounts, KeepsStoreCounts, call_streams, faults_of, uncounted, output_wants}
use Rattle.icn_machine.specs.Stepping.{output_fails}
use Rattle.icn_running.specs.declared.fault.RunFault.{RunFault}
use Rattle.icn_running.specs.declared.fault.RunFault.TheVariants as Runs
use Rattle.icn_running.specs.Reported.{ending_seen}
use Rattle.icn_running.specs.Runs.{EndsAtFirst as RunEnds}
use Rattle.icn_answer.specs.declared.answer.Answer.{Answer}
use Rattle.icn_answer.specs.declared.answer.Answer.TheVariants.{Wrote, Ran, Refused, Command, Missing, BadUcode, BadImage, FileFault, ReadFault, WriteFault, NoMemory}
use Rattle.icn_answer.specs.Answers.{IsFault}
use Rattle.icn_answer.proofs.NoFaults.{ran_no_fault}
use Rattle.icn_run_answer.proofs.CountCauses.{broken_counts, own_behind, ran_counts}
use Rattle.icn_run_answer.specs.CountCauses.{RunEndsAtFirst}
use Rattle.icn_answer.specs.Endings.{ending_held}
use Rattle.icn_run_answer.specs.FaultAnswers.{of_run}
use Rattle.icn_run_answer.specs.Reporting.{PutsSome, Reports, put as put_whole, own as put_own, broke}
use Rattle.icn_run_answer.proofs.Reports.{fault_reports, is_run_fault, puts_own}
use Rattle.icont_units.specs.Generated.{sizes_line}
use Rattle.icont_top.specs.Job.{sizes_behind}
use Rattle.icont_top.specs.Outcomes.{StopsPut}
use Rattle.icont_top.specs.Running.{HasRun, IsOver, IsRanOrBroken, PutsSizes, WasOver, broken, has_ended, is_done, put_answer, ran, sizes_broken, sizes_put, was_broken, was_broken_behind}
use Rattle.icont_top.specs.Usage.{usage}

-- What was observed of a run

-- the ending that is answered is the one that is observed
held_seen : (ending : Ending) (seen : SeenEnding) → seen ≡ ending_seen ending → ending_held seen ≡ ending
held_seen Endings.Done seen e = ap ending_held e
held_seen (Endings.Exit status) seen e = ap ending_held e
held_seen (Endings.Errored number) seen e = ap ending_held e
held_seen Endings.AtBound seen e = ap ending_held e

answered_seen : (answer : Answer) (ending : Ending) (seen : SeenEnding) → answer ≡ Ran ending → seen ≡ ending_seen ending → answer ≡ Ran (ending_held seen)
answered_seen answer ending seen same e = same ∙ ap (λ held. Ran held) (sym (held_seen ending seen e))

gains_alone : {before after : Option (List ℕ)} (text more : List ℕ) → more ≡ [] → Gains before after text → Gains before after (text ++ more)
gains_alone {before} {after} text more none gains = subst (Gains before after) (sym (ap (λ m. text ++ m) none ∙ append-nil text)) gains

-- a program that has no number
pub ran_alone : {tables : Tables} {launch : Launch} {answer : Answer} {before after : CallStreams} → IsRanOrBroken tables launch answer before after
    → HasRun tables launch None answer before after
ran_alone {answer = answer} (ran ending same to) =
    has_ended to.0 to.1.1.0 (answered_seen answer ending to.0.ending same to.1.0) to.1.1.1.files to.1.1.1.left to.1.1.1.calls
    (gains_alone (output_in to.0.outside.history) [] refl to.1.1.1.output) to.1.1.1.errors
ran_alone (broken wrong between same first off puts) = was_broken wrong between same first off puts

none_behind : (n : ℕ) (seen : SeenEnding) → is_done (Ran (ending_held seen)) ≡ false → sizes_behind n seen ≡ []
none_behind n Done e = absurd (let wrong : true ≡ false = e in cc)
none_behind n (Exit status) e = refl
none_behind n (Errored error) e = refl
none_behind n AtBound e = refl

-- the program of a number that was not done
pub ran_undone : {tables : Tables} {launch : Launch} {answer : Answer} {before after : CallStreams} (n : ℕ) → is_done answer ≡ false
    → IsRanOrBroken tables launch answer before after → HasRun tables launch (Some n) answer before after
ran_undone {answer = answer} n undone (ran ending same to) =
    let seen = answered_seen answer ending to.0.ending same to.1.0 in
    has_ended to.0 to.1.1.0 seen to.1.1.1.files to.1.1.1.left to.1.1.1.calls
    (gains_alone (output_in to.0.outside.history) (sizes_behind n to.0.ending) (none_behind n to.0.ending (sym (ap is_done seen) ∙ undone)) to.1.1.1.output)
    to.1.1.1.errors
ran_undone n undone (broken wrong between same first off puts) = was_broken wrong between same first off puts

-- The program of a number that was done

done_of : (answer : Answer) → is_done answer ≡ true → answer ≡ Ran Endings.Done
done_of (Ran Endings.Done) e = refl
done_of (Ran (Endings.Exit status)) e = absurd (let wrong : false ≡ true = e in cc)
done_of (Ran (Endings.Errored number)) e = absurd (let wrong : false ≡ true = e in cc)
done_of (Ran Endings.AtBound) e = absurd (let wrong : false ≡ true = e in cc)
done_of Wrote e = absurd (let wrong : false ≡ true = e in cc)
done_of (Refused file line rule) e = absurd (let wrong : false ≡ true = e in cc)
done_of (Command kind) e = absurd (let wrong : false ≡ true = e in cc)
done_of (Missing name) e = absurd (let wrong : false ≡ true = e in cc)
done_of (BadUcode name rule) e = absurd (let wrong : false ≡ true = e in cc)
done_of (BadImage rule) e = absurd (let wrong : false ≡ true = e in cc)
done_of FileFault e = absurd (let wrong : false ≡ true = e in cc)
done_of ReadFault e = absurd (let wrong : false ≡ true = e in cc)
done_of WriteFault e = absurd (let wrong : false ≡ true = e in cc)
done_of NoMemory e = absurd (let wrong : false ≡ true = e in cc)

-- what was observed of a run that was done
record HasDone (tables : Tables) (launch : Launch) (before after : CallStreams) : Type 0 where
  pub seen : Observation
  pub flat : RunsFlat tables launch seen
  pub done : seen.ending ≡ Done
  pub files : HoldsMap before.files.held after.files.held seen.outside.files
  pub left : after.left ≡ Some seen.outside.left
  pub calls : after.counts.calls ≡ raised_count before.counts.calls (readings_in seen.outside.history)
  pub output : Gains before.output.held after.output.held (output_in seen.outside.history)
  pub errors : Gains before.errors.held after.errors.held (errors_in seen.outside.history)

seen_done : (ending : Ending) → is_done (Ran ending) ≡ true → ending_seen ending ≡ Done
seen_done Endings.Done e = refl
seen_done (Endings.Exit status) e = absurd (let wrong : false ≡ true = e in cc)
seen_done (Endings.Errored number) e = absurd (let wrong : false ≡ true = e in cc)
seen_done Endings.AtBound e = absurd (let wrong : false ≡ true = e in cc)

undone : (fault : RunFault) → is_done (of_run fault) ≡ false
undone Runs.ReadFault = refl
undone Runs.WriteFault = refl
undone Runs.FileFault = refl
undone Runs.NoMemory = refl

has_done : {tables : Tables} {launch : Launch} {answer : Answer} {before after : CallStreams} → is_done answer ≡ true
    → IsRanOrBroken tables launch answer before after → HasDone tables launch before after
has_done e (ran ending same to) = record {
  seen = to.0;
  flat = to.1.1.0;
  done = to.1.0 ∙ seen_done ending (sym (ap is_done same) ∙ e);
  files = to.1.1.1.files;
  left = to.1.1.1.left;
  calls = to.1.1.1.calls;
  output = to.1.1.1.output;
  errors = to.1.1.1.errors;
}
has_done e (broken wrong between same first off puts) = absurd (let wrong : true ≡ false = sym e ∙ (ap is_done same ∙ undone wrong) in cc)

-- no count rose in the run
counts_kept : {before after : CallStreams} (answer : Answer) → is_done answer ≡ true → RunEndsAtFirst answer before after → KeepsAllCounts before after
counts_kept {before} {after} answer e ends =
    let there : RunEndsAtFirst (Ran Endings.Done) before after = rw (done_of answer e) at ends in
    record {
      files = subst (λ (store : StoreState). KeepsStoreCounts before.files store) (sym there.behind.files) there.first.files;
      faults = ap faults_of there.behind.counts ∙ there.first.faults;
      output = subst (λ (sink : SinkState). KeepsFaultCounts before.output sink) (sym there.behind.output) there.first.output;
      errors = subst (λ (sink : SinkState). KeepsFaultCounts before.errors sink) (sym there.behind.own_line) there.first.errors;
    }

abbrev run_fault : Fault → RunFault
run_fault Faults.Failed = Runs.WriteFault
run_fault Faults.NoMemory = Runs.NoMemory

as_run : (fault : Fault) → put_answer fault ≡ of_run (run_fault fault)
as_run Faults.Failed = refl
as_run Faults.NoMemory = refl

stops_put : (fault : Fault) → StopsPut (run_fault fault)
stops_put Faults.Failed = tt
stops_put Faults.NoMemory = tt

-- the count of the output rose, if any did
ends_behind : (files : StoreState) (left : Option (List ℕ)) (input : SourceCounts) (before : CallStreams) (out out' err : SinkState) (fault : Fault)
    (line : List ℕ)
    → KeepsAllCounts before (call_streams files left input out err) → LeadsBy fault out out' line
    → RunEnds {A = Ending} (Err (run_fault fault)) before (call_streams files left input out' err)
ends_behind files left input before out out' err Faults.Failed line kept stops =
    output_fails kept.files kept.faults
    (record { faults = stops.faults ∙ ap one_more kept.output.faults; wants = stops.wants ∙ kept.output.wants }) kept.errors
ends_behind files left input before out out' err Faults.NoMemory line kept (inl same) =
    uncounted (record {
      files = kept.files;
      faults = kept.faults;
      output = subst (λ (sink : SinkState). KeepsFaultCounts before.output sink) (sym same) kept.output;
      errors = kept.errors;
    })
ends_behind files left input before out out' err Faults.NoMemory line kept (inr short) =
    output_wants kept.files kept.faults
    (record { faults = short.faults ∙ kept.output.faults; wants = short.wants ∙ ap one_more kept.output.wants }) kept.errors

-- some first part of a line that was put
record FirstPart (out out' : SinkState) (line : List ℕ) : Type 0 where
  pub count : ℕ
  pub gains : Gains out.held out'.held (take count line)

part_put : {out out' : SinkState} (fault : Fault) (line : List ℕ) → LeadsBy fault out out' line → FirstPart out out' line
part_put Faults.Failed line stops = record { count = stops.part.count; gains = record { appends = stops.part.appends } }
part_put {out} {out'} Faults.NoMemory line (inl same) =
    record { count = 0; gains = subst (λ (sink : SinkState). Gains out.held sink.held []) (sym same) (gains_nothing out.held) }
part_put Faults.NoMemory line (inr short) = record { count = short.part.count; gains = record { appends = short.part.appends } }

pub sizes_run : {tables : Tables} {launch : Launch} {files : StoreState} {left : Option (List ℕ)} {input : SourceCounts} {before : CallStreams} {out out' err err' : SinkState}
    (n : ℕ) (answer given : Answer) → is_done answer ≡ true → IsRanOrBroken tables launch answer before (call_streams files left input out err)
    → RunEndsAtFirst answer before (call_streams files left input out err) → PutsSizes n given out out' err err'
    → HasRun tables launch (Some n) given before (call_streams files left input out' err')
sizes_run {before = before} {out' = out'} n answer given e run ends (sizes_put same put kept) =
    let was = has_done e run in
    has_ended was.seen was.flat (same ∙ ap (λ ending. Ran (ending_held ending)) (sym was.done)) was.files was.left was.calls
    (subst (λ (behind : List ℕ). Gains before.output.held out'.held (output_in was.seen.outside.history ++ behind)) (sym (ap (sizes_behind n) was.done))
    (gains_then was.output put.gains))
    (subst (λ (sink : SinkState). Gains before.errors.held sink.held (errors_in was.seen.outside.history)) (sym kept) was.errors)
sizes_run {files = files} {left} {input} {before} {out} {out'} {err} n answer given e run ends (sizes_broken fault same leads own) =
    let was = has_done e run in
    let part = part_put fault (sizes_line n) leads in
    was_broken_behind n (run_fault fault) err was.seen refl (stops_put fault) (same ∙ as_run fault)
    (ends_behind files left input before out out' err fault (sizes_line n) (counts_kept answer e ends) leads) was.flat
    (record {
      done = was.done;
      files = was.files;
      input = was.left;
      calls = was.calls;
      count = part.count;
      output = gains_then was.output part.gains;
      errors = was.errors;
    })
    (puts_own _ _ given own)

-- which counts rose, behind both
pub sizes_end : {files : StoreState} {left : Option (List ℕ)} {input : SourceCounts} {before : CallStreams} {out out' err err' : SinkState} (n : ℕ) (answer given : Answer)
    → is_done answer ≡ true → RunEndsAtFirst answer before (call_streams files left input out err) → PutsSizes n given out out' err err'
    → RunEndsAtFirst given before (call_streams files left input out' err')
sizes_end {files} {left} {input} {before} {out} {out'} {err} n answer given e ends (sizes_put same put kept) =
    let run = counts_kept answer e ends in
    rw (same, kept) (ran_counts Endings.Done (record {
      files = run.files;
      faults = run.faults;
      output = record { faults = put.faults ∙ run.output.faults; wants = put.wants ∙ run.output.wants };
      errors = run.errors;
    }))
sizes_end {files} {left} {input} {before} {out} {out'} {err} n answer given e ends (sizes_broken fault same leads own) =
    let run = same ∙ as_run fault in
    rw run (broken_counts (run_fault fault) (ends_behind files left input before out out' err fault (sizes_line n) (counts_kept answer e ends) leads)
    (own_behind (of_run (run_fault fault)) (rw run at own)))

pub done_no_fault : (answer : Answer) → is_done answer ≡ true → IsFault answer → ⊥
done_no_fault answer e f = ran_no_fault Endings.Done (subst IsFault (done_of answer e) f)

pub is_put_fault : (fault : Fault) → IsFault (put_answer fault)
is_put_fault Faults.Failed = refl
is_put_fault Faults.NoMemory = refl

-- what a run that was done put on the error output
some_reported : {before after : SinkState} (answer : Answer) → is_done answer ≡ true → Reports usage [] before after answer → PutsSome before after
some_reported {before} {after} answer e reports = by_done (subst (λ (a : Answer). Reports usage [] before after a) (done_of answer e) reports)
  where
    by_done : {before after : SinkState} → Reports usage [] before after (Ran Endings.Done) → PutsSome before after
    by_done (put_whole n stands) = record { own = errors_in stands.1.1.now.history ++ stands.1.1.report; gains = stands.1.1.gains }
    by_done (put_own f other n between leads puts) = absurd (ran_no_fault Endings.Done f)
    by_done (broke fault e between counts some puts) = absurd (ran_no_fault Endings.Done (subst IsFault (sym e) (is_run_fault fault)))

pub sizes_reports : {files : StoreState} {left : Option (List ℕ)} {input : SourceCounts} {before : CallStreams} {out out' err err' : SinkState} (n : ℕ) (answer given : Answer)
    → is_done answer ≡ true → RunEndsAtFirst answer before (call_streams files left input out err) → Reports usage [] before.errors err answer
    → PutsSizes n given out out' err err' → Reports usage [] before.errors err' given
sizes_reports {before = before} {err = err} n answer given e ends reports (sizes_put same put kept) =
    let there : Reports usage [] before.errors err given = subst (Reports usage [] before.errors err) (done_of answer e ∙ sym same) reports in
    subst (λ (sink : SinkState). Reports usage [] before.errors sink given) (sym kept) there
sizes_reports {files} {left} {input} {before} {out} {out'} {err} {err'} n answer given e ends reports (sizes_broken fault same leads own) =
    let run = same ∙ as_run fault in
    rw run (fault_reports before (call_streams files left input out' err) err' (run_fault fault)
    (ends_behind files left input before out out' err fault (sizes_line n) (counts_kept answer e ends) leads) (some_reported answer e reports) (rw run at own))

-- How a run was over, whatever the input tells

-- one that was not done, or no run that ended
pub over_undone : (tables : Tables) (launch : Launch) (before after : CallStreams) (n : ℕ) (answer : Answer) → is_done answer ≡ false
    → IsOver tables launch None answer before after → IsOver tables launch (Some n) answer before after
over_undone tables launch before after n (Ran Endings.Done) e over = absurd (let wrong : true ≡ false = e in cc)
over_undone tables launch before after n (Ran (Endings.Exit status)) e over = record { report = over.report; calls = over.calls; output = over.output }
over_undone tables launch before after n (Ran (Endings.Errored number)) e over = record { report = over.report; calls = over.calls; output = over.output }
over_undone tables launch before after n (Ran Endings.AtBound) e over = record { report = over.report; calls = over.calls; output = over.output }
over_undone tables launch before after n Wrote e over = tt
over_undone tables launch before after n (Refused file line rule) e over = tt
over_undone tables launch before after n (Command kind) e over = tt
over_undone tables launch before after n (Missing name) e over = tt
over_undone tables launch before after n (BadUcode name rule) e over = tt
over_undone tables launch before after n (BadImage rule) e over = tt
over_undone tables launch before after n FileFault e over = tt
over_undone tables launch before after n ReadFault e over = tt
over_undone tables launch before after n WriteFault e over = tt
over_undone tables launch before after n NoMemory e over = tt

put_over : (tables : Tables) (launch : Launch) (number : Option ℕ) (before after : CallStreams) (fault : Fault)
    → IsOver tables launch number (put_answer fault) before after
put_over tables launch number before after Faults.Failed = tt
put_over tables launch number before after Faults.NoMemory = tt

-- one that was done, with the line of the sizes behind it
pub sizes_over : {out out' err err' : SinkState} (tables : Tables) (launch : Launch) (files : StoreState) (left : Option (List ℕ)) (input : SourceCounts)
    (before : CallStreams) (n : ℕ) (answer given : Answer) → is_done answer ≡ true → IsOver tables launch None answer before
    (call_streams files left input out err)
    → PutsSizes n given out out' err err' → IsOver tables launch (Some n) given before (call_streams files left input out' err')
sizes_over {out} {out'} {err} tables launch files left input before n answer given e over (sizes_put same put kept) =
    let there : WasOver tables launch None Done before (call_streams files left input out err) = rw (done_of answer e) at over in
    rw (same, kept) (record {
      report = there.report;
      calls = there.calls;
      output = subst (λ (text : List ℕ). Gains before.output.held out'.held (text ++ sizes_line n)) (append-nil (output_in there.report.now.history))
          (gains_then there.output put.gains);
    })
sizes_over tables launch files left input before n answer given e over (sizes_broken fault same leads own) = rw same (put_over _ _ _ _ _ fault)
