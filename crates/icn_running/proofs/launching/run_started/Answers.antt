use Rattle.std.proofs.Common.{◌∙◌, sym}
use Rattle.icn_code.specs.CodeTables.{tables_of}
use Rattle.icn_run.specs.Step.{all_names}
use Rattle.icn_streams.specs.Handed.{call_streams}
use Rattle.icn_running.proofs.RisenCounts.{machine_counts}
use Rattle.icn_machine.specs.AfterInstruction.{stage_result}
use Rattle.icn_running.proofs.ReportedRuns.{over_settled, started_reports, unsettled_reports}
use Rattle.icn_running.proofs.RunAnswers.{started_answers}
use Rattle.icn_running.proofs.SettledEnds.{both_settled, broken_answers, first_settled, leads_settled, unsettled_answers, unsettled_counts}
use Rattle.icn_running.proofs.launching.run_started.Goals as goal

-- broken off

pub returns-then-is_broken-clause-answers : goal.returns-then-is_broken-clause-answers
returns-then-is_broken-clause-answers g c =
    started_answers (tables_of c.args.code.now.code) c.args.m.now c.run_over-stopped.new.m
    (call_streams (g.F.Files.state c.args.files.now) (g.I.Source.left c.args.input.now) (g.I.Source.counts c.args.input.now) (g.O.Sink.state c.args.out.now)
    (g.E.Sink.state c.args.err.now))
    (call_streams (g.F.Files.state c.run_over-stopped.new.files) (g.I.Source.left c.run_over-stopped.new.input) (g.I.Source.counts c.run_over-stopped.new.input)
    (g.O.Sink.state c.run_over-stopped.new.out) (g.E.Sink.state c.run_over-stopped.new.err))
    (g.F.Files.state c.end_run.new.files) (g.E.Sink.state c.end_run.new.err) c.run_over-stopped.result c.end_run.result
    (λ launch. (c.runs_hold.ensures (tables_of c.args.code.now.code) c.args.code.now.code.rules c.args.code.now.verified launch).ends)
    c.run_over-stopped.ensures.steps.answers (rw c.code.ensures.code at c.end_run.ensures.answers)

pub returns-then-is_broken-clause-first_fault : goal.returns-then-is_broken-clause-first_fault
returns-then-is_broken-clause-first_fault g c =
    machine_counts (all_names (tables_of c.args.code.now.code)) c.run_over-stopped.new.m c.run_over-stopped.result c.end_run.result
    (call_streams (g.F.Files.state c.args.files.now) (g.I.Source.left c.args.input.now) (g.I.Source.counts c.args.input.now) (g.O.Sink.state c.args.out.now)
    (g.E.Sink.state c.args.err.now))
    (call_streams (g.F.Files.state c.run_over-stopped.new.files) (g.I.Source.left c.run_over-stopped.new.input) (g.I.Source.counts c.run_over-stopped.new.input)
    (g.O.Sink.state c.run_over-stopped.new.out) (g.E.Sink.state c.run_over-stopped.new.err))
    (g.F.Files.state c.end_run.new.files) (g.E.Sink.state c.end_run.new.err) c.run_over-stopped.ensures.steps.caused
    (rw c.code.ensures.code at c.end_run.ensures.answers)

-- not settled

pub returns-in_err-settle_outputs-clause-answers : goal.returns-in_err-settle_outputs-clause-answers
returns-in_err-settle_outputs-clause-answers g c =
    unsettled_answers (tables_of c.args.code.now.code) c.args.m.now c.run_over-stopped.new.m
    (call_streams (g.F.Files.state c.args.files.now) (g.I.Source.left c.args.input.now) (g.I.Source.counts c.args.input.now) (g.O.Sink.state c.args.out.now)
    (g.E.Sink.state c.args.err.now))
    (call_streams (g.F.Files.state c.run_over-stopped.new.files) (g.I.Source.left c.run_over-stopped.new.input) (g.I.Source.counts c.run_over-stopped.new.input)
    (g.O.Sink.state c.run_over-stopped.new.out) (g.E.Sink.state c.run_over-stopped.new.err))
    (call_streams (g.F.Files.state c.run_over-stopped.new.files) (g.I.Source.left c.run_over-stopped.new.input) (g.I.Source.counts c.run_over-stopped.new.input)
    (g.O.Sink.state c.settle_outputs.new.out) (g.E.Sink.state c.settle_outputs.new.err))
    c.run_over-stopped.result c.in_err-settle_outputs.field-0.0 c.from_residual.result c.from_residual.ensures.1
    (sym c.is_broken.ensures ∙ c.if-is_broken.false) c.run_over-stopped.ensures.stops (c.in_err-settle_outputs.ensures.settles _ _ _)
    (λ launch. (c.runs_hold.ensures (tables_of c.args.code.now.code) c.args.code.now.code.rules c.args.code.now.verified launch).ends)
    c.run_over-stopped.ensures.steps.answers

pub returns-in_err-settle_outputs-clause-first_fault : goal.returns-in_err-settle_outputs-clause-first_fault
returns-in_err-settle_outputs-clause-first_fault g c =
    unsettled_counts
    (call_streams (g.F.Files.state c.args.files.now) (g.I.Source.left c.args.input.now) (g.I.Source.counts c.args.input.now) (g.O.Sink.state c.args.out.now)
    (g.E.Sink.state c.args.err.now))
    (call_streams (g.F.Files.state c.run_over-stopped.new.files) (g.I.Source.left c.run_over-stopped.new.input) (g.I.Source.counts c.run_over-stopped.new.input)
    (g.O.Sink.state c.run_over-stopped.new.out) (g.E.Sink.state c.run_over-stopped.new.err))
    (call_streams (g.F.Files.state c.run_over-stopped.new.files) (g.I.Source.left c.run_over-stopped.new.input) (g.I.Source.counts c.run_over-stopped.new.input)
    (g.O.Sink.state c.settle_outputs.new.out) (g.E.Sink.state c.settle_outputs.new.err))
    c.run_over-stopped.result c.in_err-settle_outputs.field-0.0 c.from_residual.result c.from_residual.ensures.1
    (sym c.is_broken.ensures ∙ c.if-is_broken.false) c.run_over-stopped.ensures.steps.caused (c.in_err-settle_outputs.ensures.settles _ _ _)

-- settled

pub returns-clause-answers : goal.returns-clause-answers
returns-clause-answers g c =
    started_answers (tables_of c.args.code.now.code) c.args.m.now c.run_over-stopped.new.m
    (call_streams (g.F.Files.state c.args.files.now) (g.I.Source.left c.args.input.now) (g.I.Source.counts c.args.input.now) (g.O.Sink.state c.args.out.now)
    (g.E.Sink.state c.args.err.now))
    (call_streams (g.F.Files.state c.run_over-stopped.new.files) (g.I.Source.left c.run_over-stopped.new.input) (g.I.Source.counts c.run_over-stopped.new.input)
    (g.O.Sink.state c.settle_outputs.new.out) (g.E.Sink.state c.settle_outputs.new.err))
    (g.F.Files.state c.end_run-2.new.files) (g.E.Sink.state c.end_run-2.new.err) c.run_over-stopped.result c.end_run-2.result
    (λ launch. (c.runs_hold.ensures (tables_of c.args.code.now.code) c.args.code.now.code.rules c.args.code.now.verified launch).ends)
    (λ was state stands told. leads_settled (tables_of c.args.code.now.code) state was
    (call_streams (g.F.Files.state c.args.files.now) (g.I.Source.left c.args.input.now) (g.I.Source.counts c.args.input.now) (g.O.Sink.state c.args.out.now)
    (g.E.Sink.state c.args.err.now))
    c.run_over-stopped.new.m
    (call_streams (g.F.Files.state c.run_over-stopped.new.files) (g.I.Source.left c.run_over-stopped.new.input) (g.I.Source.counts c.run_over-stopped.new.input)
    (g.O.Sink.state c.run_over-stopped.new.out) (g.E.Sink.state c.run_over-stopped.new.err))
    (call_streams (g.F.Files.state c.run_over-stopped.new.files) (g.I.Source.left c.run_over-stopped.new.input) (g.I.Source.counts c.run_over-stopped.new.input)
    (g.O.Sink.state c.settle_outputs.new.out) (g.E.Sink.state c.settle_outputs.new.err))
    c.run_over-stopped.result (sym c.is_broken.ensures ∙ c.if-is_broken.false) (c.in_ok-settle_outputs.ensures.settles _ _ _)
    (c.run_over-stopped.ensures.steps.answers was state stands told))
    (rw c.code-2.ensures.code at c.end_run-2.ensures.answers)

pub returns-clause-first_fault : goal.returns-clause-first_fault
returns-clause-first_fault g c =
    machine_counts (all_names (tables_of c.args.code.now.code)) c.run_over-stopped.new.m c.run_over-stopped.result c.end_run-2.result
    (call_streams (g.F.Files.state c.args.files.now) (g.I.Source.left c.args.input.now) (g.I.Source.counts c.args.input.now) (g.O.Sink.state c.args.out.now)
    (g.E.Sink.state c.args.err.now))
    (call_streams (g.F.Files.state c.run_over-stopped.new.files) (g.I.Source.left c.run_over-stopped.new.input) (g.I.Source.counts c.run_over-stopped.new.input)
    (g.O.Sink.state c.settle_outputs.new.out) (g.E.Sink.state c.settle_outputs.new.err))
    (g.F.Files.state c.end_run-2.new.files) (g.E.Sink.state c.end_run-2.new.err)
    (first_settled
    (call_streams (g.F.Files.state c.args.files.now) (g.I.Source.left c.args.input.now) (g.I.Source.counts c.args.input.now) (g.O.Sink.state c.args.out.now)
    (g.E.Sink.state c.args.err.now))
    (call_streams (g.F.Files.state c.run_over-stopped.new.files) (g.I.Source.left c.run_over-stopped.new.input) (g.I.Source.counts c.run_over-stopped.new.input)
    (g.O.Sink.state c.run_over-stopped.new.out) (g.E.Sink.state c.run_over-stopped.new.err))
    (call_streams (g.F.Files.state c.run_over-stopped.new.files) (g.I.Source.left c.run_over-stopped.new.input) (g.I.Source.counts c.run_over-stopped.new.input)
    (g.O.Sink.state c.settle_outputs.new.out) (g.E.Sink.state c.settle_outputs.new.err))
    c.run_over-stopped.result (sym c.is_broken.ensures ∙ c.if-is_broken.false) (c.in_ok-settle_outputs.ensures.settles _ _ _)
    c.run_over-stopped.ensures.steps.caused)
    (rw c.code-2.ensures.code at c.end_run-2.ensures.answers)

-- what is pending

pub returns-then-is_broken-clause-settled : goal.returns-then-is_broken-clause-settled
returns-then-is_broken-clause-settled g c =
    broken_answers _ (all_names (tables_of c.args.code.now.code)) c.run_over-stopped.new.m c.run_over-stopped.result c.end_run.result _ _
    (sym c.is_broken.ensures ∙ c.if-is_broken.true) (rw c.code.ensures.code at c.end_run.ensures.answers)

pub returns-clause-settled : goal.returns-clause-settled
returns-clause-settled g c =
    let settled = c.in_ok-settle_outputs.ensures.settled in
    both_settled _ _ c.end_run-2.result settled.0 (c.end_run-2.ensures.settled settled.1)

-- what is reported, whatever the input tells

pub returns-then-is_broken-clause-reported : goal.returns-then-is_broken-clause-reported
returns-then-is_broken-clause-reported g c =
    started_reports (tables_of c.args.code.now.code) c.args.m.now c.run_over-stopped.new.m
    (call_streams (g.F.Files.state c.args.files.now) (g.I.Source.left c.args.input.now) (g.I.Source.counts c.args.input.now) (g.O.Sink.state c.args.out.now)
    (g.E.Sink.state c.args.err.now))
    (call_streams (g.F.Files.state c.run_over-stopped.new.files) (g.I.Source.left c.run_over-stopped.new.input) (g.I.Source.counts c.run_over-stopped.new.input)
    (g.O.Sink.state c.run_over-stopped.new.out) (g.E.Sink.state c.run_over-stopped.new.err))
    (g.F.Files.state c.end_run.new.files) (g.E.Sink.state c.end_run.new.err) c.run_over-stopped.result c.end_run.result
    c.run_over-stopped.ensures.steps.meant (rw c.code.ensures.code at c.end_run.ensures.answers)

pub returns-in_err-settle_outputs-clause-reported : goal.returns-in_err-settle_outputs-clause-reported
returns-in_err-settle_outputs-clause-reported g c =
    unsettled_reports (tables_of c.args.code.now.code) c.args.m.now c.run_over-stopped.new.m
    (call_streams (g.F.Files.state c.args.files.now) (g.I.Source.left c.args.input.now) (g.I.Source.counts c.args.input.now) (g.O.Sink.state c.args.out.now)
    (g.E.Sink.state c.args.err.now))
    (call_streams (g.F.Files.state c.run_over-stopped.new.files) (g.I.Source.left c.run_over-stopped.new.input) (g.I.Source.counts c.run_over-stopped.new.input)
    (g.O.Sink.state c.run_over-stopped.new.out) (g.E.Sink.state c.run_over-stopped.new.err))
    (call_streams (g.F.Files.state c.run_over-stopped.new.files) (g.I.Source.left c.run_over-stopped.new.input) (g.I.Source.counts c.run_over-stopped.new.input)
    (g.O.Sink.state c.settle_outputs.new.out) (g.E.Sink.state c.settle_outputs.new.err))
    c.run_over-stopped.result c.in_err-settle_outputs.field-0.0 c.from_residual.result c.from_residual.ensures.1
    (c.in_err-settle_outputs.ensures.settles _ _ _) c.run_over-stopped.ensures.steps.meant

pub returns-clause-reported : goal.returns-clause-reported
returns-clause-reported g c =
    started_reports (tables_of c.args.code.now.code) c.args.m.now c.run_over-stopped.new.m
    (call_streams (g.F.Files.state c.args.files.now) (g.I.Source.left c.args.input.now) (g.I.Source.counts c.args.input.now) (g.O.Sink.state c.args.out.now)
    (g.E.Sink.state c.args.err.now))
    (call_streams (g.F.Files.state c.run_over-stopped.new.files) (g.I.Source.left c.run_over-stopped.new.input) (g.I.Source.counts c.run_over-stopped.new.input)
    (g.O.Sink.state c.settle_outputs.new.out) (g.E.Sink.state c.settle_outputs.new.err))
    (g.F.Files.state c.end_run-2.new.files) (g.E.Sink.state c.end_run-2.new.err) c.run_over-stopped.result c.end_run-2.result
    (λ was state stands. over_settled (tables_of c.args.code.now.code) state
    (call_streams (g.F.Files.state c.args.files.now) (g.I.Source.left c.args.input.now) (g.I.Source.counts c.args.input.now) (g.O.Sink.state c.args.out.now)
    (g.E.Sink.state c.args.err.now))
    c.run_over-stopped.new.m
    (call_streams (g.F.Files.state c.run_over-stopped.new.files) (g.I.Source.left c.run_over-stopped.new.input) (g.I.Source.counts c.run_over-stopped.new.input)
    (g.O.Sink.state c.run_over-stopped.new.out) (g.E.Sink.state c.run_over-stopped.new.err))
    (call_streams (g.F.Files.state c.run_over-stopped.new.files) (g.I.Source.left c.run_over-stopped.new.input) (g.I.Source.counts c.run_over-stopped.new.input)
    (g.O.Sink.state c.settle_outputs.new.out) (g.E.Sink.state c.settle_outputs.new.err))
    (stage_result c.run_over-stopped.result) (c.in_ok-settle_outputs.ensures.settles _ _ _)
    (c.run_over-stopped.ensures.steps.meant was state stands))
    (rw c.code-2.ensures.code at c.end_run-2.ensures.answers)

-- what was taken of the input

pub returns-then-is_broken-clause-taken : goal.returns-then-is_broken-clause-taken
returns-then-is_broken-clause-taken g c = c.run_over-stopped.ensures.steps.taken

pub returns-in_err-settle_outputs-clause-taken : goal.returns-in_err-settle_outputs-clause-taken
returns-in_err-settle_outputs-clause-taken g c = c.run_over-stopped.ensures.steps.taken

pub returns-clause-taken : goal.returns-clause-taken
returns-clause-taken g c = c.run_over-stopped.ensures.steps.taken
