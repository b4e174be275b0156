use Rattle.std.proofs.Common.{ℕ, List, [], Err, refl, subst}
use Rattle.icn_host.specs.FileMaps.{FileMap}
use Rattle.icn_value.specs.Store.{outside_of, bare_outside}
use Rattle.icn_defs.specs.Running.{Launch}
use Rattle.icn_code.specs.Codes.{Tables}
use Rattle.icn_code.specs.CodeTables.{tables_of}
use Rattle.icn_code.specs.declared.code.Code.{Code}
use Rattle.icn_run.specs.Stacks.{Frames}
use Rattle.icn_run.specs.Step.{all_names, first_store}
use Rattle.icn_streams.specs.Handed.{call_streams}
use Rattle.icn_machine.specs.Starting.{StartsAs, launch_with}
use Rattle.icn_running.proofs.RisenCounts.{unbegun_counts}
use Rattle.icn_running.proofs.ReportedRuns.{unbegun_reports}
use Rattle.icn_running.proofs.RunAnswers.{run_breaks, run_ends, unbegun_answers}
use Rattle.icn_running.proofs.Starts.{start_lasts, start_ready}
use Rattle.icn_running.proofs.EndsAtStart.{start_halts}
use Rattle.icn_running.proofs.SettledEnds.{both_settled, none_taken}
use Rattle.icn_running.proofs.launching.run.Goals as goal

pub run_started-requires-clause-ready : goal.run_started-requires-clause-ready
run_started-requires-clause-ready g c =
    let tables : Tables = tables_of c.args.code.now.code in
    let launch : Launch = launch_with c.args.words.now c.args.limits bare_outside in
    start_ready tables launch c.in-Ok.m (c.runs_hold.ensures tables c.args.code.now.code.rules c.args.code.now.verified launch).kept
    (rw c.code.ensures.code at c.in-Ok.ensures.sound) c.in-Ok.ensures.stack (rw c.code.ensures.code at (c.in-Ok.ensures.step bare_outside))

pub run_started-requires-clause-lasts : goal.run_started-requires-clause-lasts
run_started-requires-clause-lasts g c =
    let tables : Tables = tables_of c.args.code.now.code in
    let launch : Launch = launch_with c.args.words.now c.args.limits bare_outside in
    start_lasts tables launch c.args.limits c.in-Ok.m (c.runs_hold.ensures tables c.args.code.now.code.rules c.args.code.now.verified launch).falls
    refl c.in-Ok.ensures.limits (rw c.code.ensures.code at (c.in-Ok.ensures.step bare_outside))

pub end_unbegun-requires : goal.end_unbegun-requires
end_unbegun-requires g c =
    start_halts g.row.K.Denot (tables_of c.code.result.now) (launch_with c.args.words.now c.args.limits bare_outside) c.in-Err.halt
    (c.in-Err.ensures.step bare_outside)

pub returns-in-Ok-clause-ends : goal.returns-in-Ok-clause-ends
returns-in-Ok-clause-ends g c =
    let launch : List ℕ → FileMap → Launch = λ left files. launch_with c.args.words.now c.args.limits (outside_of left files) in
    run_ends (tables_of c.args.code.now.code) launch
    (call_streams (g.F.Files.state c.args.files.now) (g.I.Source.left c.args.input.now) (g.I.Source.counts c.args.input.now) (g.O.Sink.state c.args.out.now)
    (g.E.Sink.state c.args.err.now))
    (call_streams (g.F.Files.state c.run_started.new.files) (g.I.Source.left c.run_started.new.input) (g.I.Source.counts c.run_started.new.input)
    (g.O.Sink.state c.run_started.new.out) (g.E.Sink.state c.run_started.new.err))
    c.run_started.result
    (λ left files told. c.run_started.ensures.answers (launch left files).words (launch left files).bounds left files told
    (rw c.code.ensures.code at (c.in-Ok.ensures.step (outside_of left files))))

pub returns-in-Ok-clause-breaks : goal.returns-in-Ok-clause-breaks
returns-in-Ok-clause-breaks g c =
    let launch : List ℕ → FileMap → Launch = λ left files. launch_with c.args.words.now c.args.limits (outside_of left files) in
    run_breaks (tables_of c.args.code.now.code) launch
    (call_streams (g.F.Files.state c.args.files.now) (g.I.Source.left c.args.input.now) (g.I.Source.counts c.args.input.now) (g.O.Sink.state c.args.out.now)
    (g.E.Sink.state c.args.err.now))
    (call_streams (g.F.Files.state c.run_started.new.files) (g.I.Source.left c.run_started.new.input) (g.I.Source.counts c.run_started.new.input)
    (g.O.Sink.state c.run_started.new.out) (g.E.Sink.state c.run_started.new.err))
    c.run_started.result
    (λ left files told. c.run_started.ensures.answers (launch left files).words (launch left files).bounds left files told
    (rw c.code.ensures.code at (c.in-Ok.ensures.step (outside_of left files))))

pub returns-in-Ok-clause-reported : goal.returns-in-Ok-clause-reported
returns-in-Ok-clause-reported g c = λ held.
    let launch : Launch = launch_with c.args.words.now c.args.limits (outside_of [] held) in
    c.run_started.ensures.reported launch.words launch.bounds [] held (rw c.code.ensures.code at (c.in-Ok.ensures.step (outside_of [] held)))

pub returns-in-Err-clause-ends : goal.returns-in-Err-clause-ends
returns-in-Err-clause-ends g c =
    let tables : Tables = tables_of c.args.code.now.code in
    let launch : List ℕ → FileMap → Launch = λ left files. launch_with c.args.words.now c.args.limits (outside_of left files) in
    run_ends tables launch
    (call_streams (g.F.Files.state c.args.files.now) (g.I.Source.left c.args.input.now) (g.I.Source.counts c.args.input.now) (g.O.Sink.state c.args.out.now)
    (g.E.Sink.state c.args.err.now))
    (call_streams (g.F.Files.state c.end_unbegun.new.files) (g.I.Source.left c.args.input.now) (g.I.Source.counts c.args.input.now)
    (g.O.Sink.state c.args.out.now) (g.E.Sink.state c.end_unbegun.new.err))
    c.end_unbegun.result
    (λ left files told. let run = (c.runs_hold.ensures tables c.args.code.now.code.rules c.args.code.now.verified (launch left files)).ends in
    unbegun_answers g.row.K.Denot tables (launch left files).words (launch left files).bounds left files run.0 c.in-Err.halt c.end_unbegun.result
    (call_streams (g.F.Files.state c.args.files.now) (g.I.Source.left c.args.input.now) (g.I.Source.counts c.args.input.now) (g.O.Sink.state c.args.out.now)
    (g.E.Sink.state c.args.err.now))
    (g.F.Files.state c.end_unbegun.new.files) (g.E.Sink.state c.end_unbegun.new.err) run.1 told
    (subst (λ (code : Code). StartsAs {K = g.row.K.Denot} (tables_of code) (launch left files) (Err c.in-Err.halt)) c.code.ensures.code
    (c.in-Err.ensures.step (outside_of left files)))
    (rw c.code-in-Err.ensures.code at (c.end_unbegun.ensures.answers (first_store {K = Frames} tables (launch left files)).world.heap refl)))

pub returns-in-Err-clause-breaks : goal.returns-in-Err-clause-breaks
returns-in-Err-clause-breaks g c =
    let tables : Tables = tables_of c.args.code.now.code in
    let launch : List ℕ → FileMap → Launch = λ left files. launch_with c.args.words.now c.args.limits (outside_of left files) in
    run_breaks tables launch
    (call_streams (g.F.Files.state c.args.files.now) (g.I.Source.left c.args.input.now) (g.I.Source.counts c.args.input.now) (g.O.Sink.state c.args.out.now)
    (g.E.Sink.state c.args.err.now))
    (call_streams (g.F.Files.state c.end_unbegun.new.files) (g.I.Source.left c.args.input.now) (g.I.Source.counts c.args.input.now)
    (g.O.Sink.state c.args.out.now) (g.E.Sink.state c.end_unbegun.new.err))
    c.end_unbegun.result
    (λ left files told. let run = (c.runs_hold.ensures tables c.args.code.now.code.rules c.args.code.now.verified (launch left files)).ends in
    unbegun_answers g.row.K.Denot tables (launch left files).words (launch left files).bounds left files run.0 c.in-Err.halt c.end_unbegun.result
    (call_streams (g.F.Files.state c.args.files.now) (g.I.Source.left c.args.input.now) (g.I.Source.counts c.args.input.now) (g.O.Sink.state c.args.out.now)
    (g.E.Sink.state c.args.err.now))
    (g.F.Files.state c.end_unbegun.new.files) (g.E.Sink.state c.end_unbegun.new.err) run.1 told
    (subst (λ (code : Code). StartsAs {K = g.row.K.Denot} (tables_of code) (launch left files) (Err c.in-Err.halt)) c.code.ensures.code
    (c.in-Err.ensures.step (outside_of left files)))
    (rw c.code-in-Err.ensures.code at (c.end_unbegun.ensures.answers (first_store {K = Frames} tables (launch left files)).world.heap refl)))

pub returns-in-Err-clause-reported : goal.returns-in-Err-clause-reported
returns-in-Err-clause-reported g c = λ held.
    let tables : Tables = tables_of c.args.code.now.code in
    let launch : Launch = launch_with c.args.words.now c.args.limits (outside_of [] held) in
    unbegun_reports g.row.K.Denot tables launch.words launch.bounds [] held c.in-Err.halt c.end_unbegun.result
    (call_streams (g.F.Files.state c.args.files.now) (g.I.Source.left c.args.input.now) (g.I.Source.counts c.args.input.now) (g.O.Sink.state c.args.out.now)
    (g.E.Sink.state c.args.err.now))
    (g.F.Files.state c.end_unbegun.new.files) (g.E.Sink.state c.end_unbegun.new.err)
    (subst (λ (code : Code). StartsAs {K = g.row.K.Denot} (tables_of code) launch (Err c.in-Err.halt)) c.code.ensures.code
    (c.in-Err.ensures.step (outside_of [] held)))
    (rw c.code-in-Err.ensures.code at (c.end_unbegun.ensures.answers (first_store {K = Frames} tables launch).world.heap refl))

pub returns-in-Err-clause-first_fault : goal.returns-in-Err-clause-first_fault
returns-in-Err-clause-first_fault g c =
    let tables : Tables = tables_of c.args.code.now.code in
    let launch : Launch = launch_with c.args.words.now c.args.limits bare_outside in
    unbegun_counts (all_names tables) (first_store {K = Frames} tables launch).world.heap c.in-Err.halt c.end_unbegun.result
    (call_streams (g.F.Files.state c.args.files.now) (g.I.Source.left c.args.input.now) (g.I.Source.counts c.args.input.now) (g.O.Sink.state c.args.out.now)
    (g.E.Sink.state c.args.err.now))
    (g.F.Files.state c.end_unbegun.new.files) (g.E.Sink.state c.end_unbegun.new.err)
    (rw c.code-in-Err.ensures.code at (c.end_unbegun.ensures.answers (first_store {K = Frames} tables launch).world.heap refl))

pub returns-in-Err-clause-settled : goal.returns-in-Err-clause-settled
returns-in-Err-clause-settled g c = λ output errors. both_settled _ _ c.end_unbegun.result output (c.end_unbegun.ensures.settled errors)

pub returns-in-Ok-clause-taken : goal.returns-in-Ok-clause-taken
returns-in-Ok-clause-taken g c = c.run_started.ensures.taken

pub returns-in-Err-clause-taken : goal.returns-in-Err-clause-taken
returns-in-Err-clause-taken g c = none_taken (g.I.Source.left c.args.input.now)
