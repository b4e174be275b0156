-- A run that is finished puts no report.
use Rattle.std.proofs.Common.{◌≡◌, []}
use Rattle.icn_defs.specs.declared.ending.Ending.TheVariants.{Done}
use Rattle.icn_heap.specs.Heaps.{heap_of}
use Rattle.icn_running.proofs.EndedRuns.{ended_so, none_put, settled_whole}
use Rattle.icn_running.proofs.endings.end_stopped.Goals as goal

pub returns-in-Over-clause-answers : goal.returns-in-Over-clause-answers
returns-in-Over-clause-answers g c =
    rw c.in-Over.is
    (ended_so Done (heap_of c.args.heap.now) [] c.end_files.result (g.F.Files.state c.args.files.now) (g.F.Files.state c.end_files.new.files)
    (g.E.Sink.state c.args.err.now) (g.E.Sink.state c.args.err.now) (none_put (g.E.Sink.state c.args.err.now)) c.end_files.ensures.ok
    c.end_files.ensures.err)

pub returns-in-Over-clause-settled : goal.returns-in-Over-clause-settled
returns-in-Over-clause-settled g c = λ none. settled_whole (g.E.Sink.pending c.args.err.now ≡ 0) c.end_files.result none

pub returns-in-AtBound-clause-answers : goal.returns-in-AtBound-clause-answers
returns-in-AtBound-clause-answers g c = rw c.in-AtBound.is c.put_report.ensures.answers
