use Rattle.std.proofs.Common.{ℕ, List, ◌∙◌, subst}
use Rattle.icn_defs.specs.Running.{Errored}
use Rattle.icn_heap.specs.Heaps.{heap_of}
use Rattle.icn_running.specs.Reported.{AnswersEnd, end_objects}
use Rattle.icn_running.proofs.EndedRuns.{report_lacking}
use Rattle.icn_running.proofs.endings.put_error.Goals as goal

pub returns-clause-answers : goal.returns-clause-answers
returns-clause-answers g c =
    subst
    (λ (report : List ℕ). AnswersEnd (Errored c.args.number) (heap_of c.args.heap.now) report c.put_report.result
    (end_objects (g.F.Files.state c.args.files.now) (g.E.Sink.state c.args.err.now))
    (end_objects (g.F.Files.state c.put_report.new.files) (g.E.Sink.state c.put_report.new.err)))
    (c.deref.ensures.value ∙ c.in_ok-report.ensures) c.put_report.ensures.answers

pub returns-in_err-report-clause-answers : goal.returns-in_err-report-clause-answers
returns-in_err-report-clause-answers g c =
    report_lacking (Errored c.args.number) (heap_of c.args.heap.now) _ (end_objects (g.F.Files.state c.args.files.now) (g.E.Sink.state c.args.err.now))
    c.from_residual.result c.from_residual.ensures.1
