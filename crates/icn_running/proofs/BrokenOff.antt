-- From what is said of the step that a fault or want of memory broke off to what is said of the whole run.
use Rattle.std.proofs.Common.{◌≡◌, ◌∙◌, refl, sym, ap, subst, ℕ, zero, suc, List, ◌++◌, take, Some, None}
use Rattle.std.specs.Prelude.{drop, map}
use Rattle.icn_host.specs.Counts.{raised_count}
use Rattle.icn_host.specs.FileMaps.{FileMap, StoreState}
use Rattle.icn_host.specs.Sinks.{SinkState, Gains, GainsPart}
use Rattle.icn_host.proofs.SinkSteps.{gains_nothing}
use Rattle.icn_value.specs.Limited.{Bounds}
use Rattle.icn_value.specs.Store.{ErrorByte, Event, Heap, Outside, outside_of}
use Rattle.icn_code.specs.Codes.{Tables}
use Rattle.icn_defs.specs.Interruptions.{Breaks, BreaksBetween, BreaksFiles, BreaksReading, ExtendsBy, HoldsMap, TellsMap, breaks_between, breaks_files, breaks_reading}
use Rattle.icn_defs.specs.Running.{Ending, Observation, Launch, launch_of, after_steps, with_errors}
use Rattle.icn_defs.proofs.Interruptions.{all_done, between_longer, between_then, bytes_split, errors_put, errors_read_none, extends_by_errors, extends_itself, extends_then, files_broken_then, files_by_errors, files_longer, holds_told, left_by_errors, output_of_errors, reading_longer, reading_then, stands_all, stands_kept}
use Rattle.icn_streams.specs.Handed.{CallStreams, Follows, LeavesStreams, TellsOutside, streams_of}
use Rattle.icn_streams.specs.Settling.{HoldsBoth}
use Rattle.icn_streams.proofs.CallSequences.{follows_tells, follows_then}
use Rattle.icn_streams.proofs.IdleCalls.{leaves_sink_refl}
use Rattle.icn_filefn.proofs.CloseSteps.{breaks_by}
use Rattle.icn_filefn.proofs.StoreCalls.{of_both, stands_none}
use Rattle.icn_filefn.specs.WrittenFiles.{BreaksWriting}
use Rattle.icn_run.specs.FlatStep as Flat
use Rattle.icn_run.specs.Stacks.{Frames, flat}
use Rattle.icn_run.specs.Step.{State, running, failing, hopping, over, stuck, observation}
use Rattle.icn_run.proofs.OneObservation.{observation_lasts, over_seen}
use Rattle.law_outside.specs.Outsides.{ExtendsOutside, HasOutside}
use Rattle.law_outside.proofs.GrowingOutside.{reached_extends, steps_extend}
use Rattle.icn_machine.specs.InstructionAnswers as Step
use Rattle.icn_machine.specs.InstructionAnswers.{BreaksOff, files, idle, reading, putting, behind, outside_in}
use Rattle.icn_machine.specs.Stepping.{outside_at}
use Rattle.icn_running.specs.Reported.{at_end}
use Rattle.icn_running.proofs.Observations.{ComesToEnd, extends_at_end, follows_report, then_errors, then_files}

-- Steps of one run

module _ (tables : Tables) where
  abbrev on : State Frames Frames → State Frames Frames
  on = Flat.step tables

  one : (m : ℕ) (s : State Frames Frames) → after_steps on m (on s) ≡ on (after_steps on m s)
  one zero s = refl
  one (suc m) s = one m (on s)

  swap : (d m : ℕ) (s : State Frames Frames) → after_steps on m (after_steps on d s) ≡ after_steps on d (after_steps on m s)
  swap zero m s = refl
  swap (suc d) m s = swap d m (on s) ∙ ap (after_steps on d) (one m s)

  lasts : (m : ℕ) (s : State Frames Frames) (seen : Observation) → observation s ≡ Some seen → observation (after_steps on m s) ≡ Some seen
  lasts zero s seen e = e
  lasts (suc m) s seen e = lasts m (on s) seen (observation_lasts flat tables s seen e)

  stays : (m : ℕ) → after_steps on m stuck ≡ stuck
  stays zero = refl
  stays (suc m) = stays m

  none : {A : Type 0} (m : ℕ) (seen : Observation) → observation (after_steps on m stuck) ≡ Some seen → A
  none m seen e = let f : None ≡ Some seen = sym (ap observation (stays m)) ∙ e in absurd (cc f)

  -- what is observed at the end extends the outside of each state before it
  to_end : (m : ℕ) (s : State Frames Frames) (seen : Observation)
      → observation (after_steps on m s) ≡ Some seen → ExtendsOutside (outside_at s) seen.outside
  to_end m (running f st) seen e =
      subst (HasOutside (ExtendsOutside st.outside)) (over_seen (after_steps on m (running f st)) seen e) (steps_extend tables (running f st) m)
  to_end m (failing f st) seen e =
      subst (HasOutside (ExtendsOutside st.outside)) (over_seen (after_steps on m (failing f st)) seen e) (steps_extend tables (failing f st) m)
  to_end m (hopping f st) seen e =
      subst (HasOutside (ExtendsOutside st.outside)) (over_seen (after_steps on m (hopping f st)) seen e) (steps_extend tables (hopping f st) m)
  to_end m (over ending outside) seen e =
      subst (HasOutside (ExtendsOutside outside)) (over_seen (after_steps on m (over ending outside)) seen e) (steps_extend tables (over ending outside) m)
  to_end m stuck seen e = none m seen e

  same_at : (m : ℕ) (s : State Frames Frames) (seen : Observation) (was : Outside)
      → observation (after_steps on m s) ≡ Some seen → outside_at s ≡ outside_in was s
  same_at m (running f st) seen was e = refl
  same_at m (failing f st) seen was e = refl
  same_at m (hopping f st) seen was e = refl
  same_at m (over ending outside) seen was e = refl
  same_at m stuck seen was e = none m seen e

  module _ (words : List (List ℕ)) (bounds : Bounds) (input : List ℕ) (held : FileMap) (seen : Observation)
      (r : Flat.Runs tables (launch_of words bounds input held) seen) where
    abbrev launch : Launch
    launch = launch_of words bounds input held

    abbrev first : Outside
    first = outside_of input held

    abbrev at : ℕ → State Frames Frames
    at n = after_steps on n (Flat.start tables launch)

    ends : (n : ℕ) → observation (after_steps on r.count (at n)) ≡ Some seen
    ends n = ap observation (swap n r.count (Flat.start tables launch)) ∙ lasts n (after_steps on r.count (Flat.start tables launch)) seen r.is

    until_end : (n : ℕ) → ExtendsOutside (outside_at (at n)) seen.outside
    until_end n = to_end r.count (at n) seen (ends n)

    in_next : (n : ℕ) (was : Outside) → outside_at (at (suc n)) ≡ outside_in was (at (suc n))
    in_next n was = same_at r.count (at (suc n)) seen was (ends (suc n))

    next_until_end : (n : ℕ) (was : Outside) → ExtendsOutside (outside_in was (at (suc n))) seen.outside
    next_until_end n was = subst (λ (o : Outside). ExtendsOutside o seen.outside) (in_next n was) (until_end (suc n))

    from_start : ExtendsOutside first seen.outside
    from_start = subst (HasOutside (ExtendsOutside first)) (over_seen (at r.count) seen r.is) (reached_extends tables launch r.count)

    -- a run of which nothing was done
    pub run_not_begun : (before : CallStreams) → TellsOutside before first
        → BreaksBetween first seen.outside (streams_of before) (streams_of before)
    run_not_begun before told = all_done (extends_itself first) from_start.by (stands_all (streams_of before) first told.files told.left)

    -- what is behind the report of a run that is over
    behind_end : (count : ℕ) (ending : Ending) (heap : Heap) (report : List ℕ) (now : Outside)
        → at count ≡ over ending (at_end ending heap (with_errors report now)) → ExtendsOutside (at_end ending heap (with_errors report now)) seen.outside
    behind_end count ending heap report now is = subst (λ (o : Outside). ExtendsOutside o seen.outside) (ap outside_at is) (until_end count)

    behind_report : (count : ℕ) (ending : Ending) (heap : Heap) (report : List ℕ) (now : Outside)
        → at count ≡ over ending (at_end ending heap (with_errors report now)) → (more : List Event) × ExtendsBy (with_errors report now) more seen.outside
    behind_report count ending heap report now is =
        let written = extends_at_end ending heap (with_errors report now) in
        let rest = behind_end count ending heap report now is in (written.0 ++ rest.done, extends_then written.1 rest.by)

    -- a report of which some first part was put
    report_part : (between : CallStreams) (errors : SinkState) (report : List ℕ) (now : Outside) → TellsOutside between now
        → GainsPart between.errors.held errors.held report
        → BreaksBetween now (with_errors report now) (streams_of between) (streams_of (then_errors between errors))
    report_part between errors report now told part =
        let front : List ℕ = take part.count report in record {
          done = map ErrorByte front;
          due = map ErrorByte (drop part.count report);
          are = ap (λ (e : List Event). now.history ++ e) (bytes_split ErrorByte part.count report);
          stands = record {
            files = subst (λ (m : FileMap). HoldsMap between.files.held between.files.held m) (sym (files_by_errors now.files front))
                (holds_told between.files.held now.files told.files);
            rest = told.left ∙ ap (λ (l : List ℕ). Some l) (sym (left_by_errors now.left front));
            calls = ap (raised_count between.counts.calls) (sym (errors_read_none front));
            output = subst (Gains between.output.held between.output.held) (sym (output_of_errors front)) (gains_nothing between.output.held);
            errors = subst (Gains between.errors.held errors.held) (sym (errors_put front)) (record { appends = part.appends });
          };
        }

    -- a run that is over, whose report was not put whole
    pub run_cut_short : (before between : CallStreams) (errors : SinkState) (ending : Ending) (heap : Heap) (report : List ℕ)
        → ComesToEnd tables launch before between ending heap report → TellsOutside before first
        → GainsPart between.errors.held errors.held report
        → BreaksBetween first seen.outside (streams_of before) (streams_of (then_errors between errors))
    run_cut_short before between errors ending heap report comes told part =
        between_then comes.follows.extends comes.follows.stands
        (between_longer (behind_report comes.count ending heap report comes.now comes.is).1
        (report_part between errors report comes.now (follows_tells told comes.follows) part))

    -- one whose report was put whole, and whose files were not all written
    pub run_unwritten : (before between : CallStreams) (store : StoreState) (errors : SinkState) (ending : Ending) (heap : Heap) (report : List ℕ)
        → ComesToEnd tables launch before between ending heap report → TellsOutside before first
        → Gains between.errors.held errors.held report
        → ((was : Outside) → TellsMap between.files.held was.files → BreaksWriting was (at_end ending heap was) between.files.held store.held)
        → BreaksFiles first seen.outside (streams_of before) (streams_of (then_files (then_errors between errors) store))
    run_unwritten before between store errors ending heap report comes told gains broken =
        let now : TellsOutside between comes.now = follows_tells told comes.follows in
        let put : Follows between (then_errors between errors) comes.now (with_errors report comes.now)
        = follows_report between errors comes.now report now gains in
        let last : TellsOutside (then_errors between errors) (with_errors report comes.now) = follows_tells now put in
        let all : Follows before (then_errors between errors) first (with_errors report comes.now) = follows_then comes.follows put in
        files_broken_then all.extends all.stands
        (files_longer (behind_end comes.count ending heap report comes.now comes.is).by
        (breaks_by (then_errors between errors) (then_files (then_errors between errors) store) (with_errors report comes.now)
        (at_end ending heap (with_errors report comes.now)) (broken (with_errors report comes.now) last.files) last.left refl refl
        (leaves_sink_refl between.output).held (leaves_sink_refl errors).held))

    -- a run that is over, whose outputs could not be settled
    pub run_unsettled : (before between after : CallStreams) (ending : Ending) (heap : Heap) (report : List ℕ)
        → ComesToEnd tables launch before between ending heap report → TellsOutside before first
        → HoldsBoth between after → BreaksBetween first seen.outside (streams_of before) (streams_of after)
    run_unsettled before between after ending heap report comes told holds =
        between_then comes.follows.extends comes.follows.stands
        (between_longer (behind_report comes.count ending heap report comes.now comes.is).1
        (all_done (extends_itself comes.now) (extends_by_errors report comes.now)
        (stands_none between after comes.now (of_both holds) (follows_tells told comes.follows))))

    module _ (n : ℕ) (before between after : CallStreams) (f : Follows before between first (outside_at (at n))) where
      -- a step that was broken off in a reading
      pub run_breaks_reading : Step.BreaksReading (at (suc n)) (outside_at (at n)) between after
          → BreaksReading first seen.outside (streams_of before) (streams_of after)
      run_breaks_reading b = reading_then f.extends f.stands (reading_longer (next_until_end n (outside_at (at n))).by b)

      -- a step that was broken off in a call of the store of files
      pub run_breaks_files : Step.BreaksFiles (at (suc n)) (outside_at (at n)) between after
          → BreaksFiles first seen.outside (streams_of before) (streams_of after)
      run_breaks_files b = files_broken_then f.extends f.stands (files_longer (next_until_end n (outside_at (at n))).by b)

      -- a step that was broken off between two events
      pub run_breaks_putting : Step.BreaksPutting (at (suc n)) (outside_at (at n)) between after
          → BreaksBetween first seen.outside (streams_of before) (streams_of after)
      run_breaks_putting b = between_then f.extends f.stands (between_longer (next_until_end n (outside_at (at n))).by b)

      from_idle : LeavesStreams between after → BreaksBetween first seen.outside (streams_of before) (streams_of after)
      from_idle e =
          all_done f.extends (until_end n).by
          (stands_kept (streams_of before) (streams_of between) (streams_of after)
          (ap (λ (s : StoreState). s.held) e.files) e.left e.calls e.output.held e.errors.held f.stands)

      from_behind : Follows between after (outside_at (at n)) (outside_in (outside_at (at n)) (at (suc n)))
          → BreaksBetween first seen.outside (streams_of before) (streams_of after)
      from_behind h =
          let g : Follows before after first (outside_in (outside_at (at n)) (at (suc n))) = follows_then f h in
          all_done g.extends (next_until_end n (outside_at (at n))).by g.stands

      -- a step that was broken off for want of memory
      pub run_breaks_off : BreaksOff (at (suc n)) (outside_at (at n)) between after
          → Breaks first seen.outside (streams_of before) (streams_of after)
      run_breaks_off (idle e) = breaks_between (from_idle e)
      run_breaks_off (reading b) = breaks_reading (run_breaks_reading b)
      run_breaks_off (files b) = breaks_files (run_breaks_files b)
      run_breaks_off (putting b) = breaks_between (run_breaks_putting b)
      run_breaks_off (behind h) = breaks_between (from_behind h)
