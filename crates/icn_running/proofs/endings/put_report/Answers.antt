-- The report is put, and then the files are written.
use Rattle.std.proofs.Common.{◌≡◌}
use Rattle.icn_heap.specs.Heaps.{heap_of}
use Rattle.icn_running.specs.Reported.{ending_seen}
use Rattle.icn_running.proofs.EndedRuns.{ended_so, report_stops, settled_whole}
use Rattle.icn_running.proofs.endings.put_report.Goals as goal

pub returns-in_err-put_line-clause-answers : goal.returns-in_err-put_line-clause-answers
returns-in_err-put_line-clause-answers g c =
    report_stops (ending_seen c.args.ending) (heap_of c.args.heap.now) c.args.report.now (g.F.Files.state c.args.files.now) (g.E.Sink.state c.args.err.now)
    (g.E.Sink.state c.put_line.new.err) c.in_err-put_line.field-0.0 c.from_residual.result c.from_residual.ensures.1 c.in_err-put_line.ensures.err

pub returns-clause-answers : goal.returns-clause-answers
returns-clause-answers g c =
    ended_so c.args.ending (heap_of c.args.heap.now) c.args.report.now c.end_files.result (g.F.Files.state c.args.files.now)
    (g.F.Files.state c.end_files.new.files) (g.E.Sink.state c.args.err.now) (g.E.Sink.state c.put_line.new.err) c.in_ok-put_line.ensures.ok
    c.end_files.ensures.ok c.end_files.ensures.err

pub returns-clause-settled : goal.returns-clause-settled
returns-clause-settled g c = settled_whole (g.E.Sink.pending c.put_line.new.err ≡ 0) c.end_files.result c.in_ok-put_line.ensures.settled
