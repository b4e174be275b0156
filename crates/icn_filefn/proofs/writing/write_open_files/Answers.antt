-- The files are written one behind another.
use Rattle.std.proofs.Common.{arith}
use Rattle.icn_heap.specs.Heaps.{extent_of, heap_of}
use Rattle.icn_filefn.proofs.WrittenSteps.{all_files_written, cause_stops, none_written, one_more_written, stops_with, writing_stops}
use Rattle.icn_filefn.proofs.writing.write_open_files.Goals as goal

pub loop-number-init : goal.loop-number-init
loop-number-init g c = none_written (heap_of c.args.heap.now).files (g.F.Files.state c.args.files.now)

pub file-requires : goal.file-requires
unfolding extent_of heap_of
file-requires g c = record { live = omega (arith, c.opened-number-end.ensures.count, c.opened-number-end.ensures.few, c.loop-number-test.true) }

pub returns-in_err-write_out-clause-written : goal.returns-in_err-write_out-clause-written
returns-in_err-write_out-clause-written g c = λ was tells.
    stops_with was _ _ _ c.from_residual.result c.in_err-write_out.field-0.0 c.from_residual.ensures.1
    (writing_stops (heap_of c.args.heap.now).files c.loop-number.number (g.F.Files.state c.args.files.now) (g.F.Files.state c.loop-number.files)
    (g.F.Files.state c.write_out.new.files) c.loop-number.invariant (omega (
      arith,
      c.opened-number-end.ensures.count,
      c.opened-number-end.ensures.few,
      c.loop-number-test.true,
    )) c.file.result.now
    c.file.ensures.file c.in_err-write_out.ensures.written was tells)

pub returns-in_err-write_out-clause-cause : goal.returns-in_err-write_out-clause-cause
returns-in_err-write_out-clause-cause g c =
    cause_stops _ _ _ c.from_residual.result c.in_err-write_out.field-0.0 c.from_residual.ensures.1 c.loop-number.invariant.counts
    c.in_err-write_out.ensures.cause

pub loop-number-preserved : goal.loop-number-preserved
loop-number-preserved g c =
    one_more_written (heap_of c.args.heap.now).files c.loop-number.number (g.F.Files.state c.args.files.now) (g.F.Files.state c.loop-number.files)
    (g.F.Files.state c.write_out.new.files) c.loop-number.invariant (omega (
      arith,
      c.opened-number-end.ensures.count,
      c.opened-number-end.ensures.few,
      c.loop-number-test.true,
    )) c.file.result.now
    c.file.ensures.file _ (omega arith) c.in_ok-write_out.ensures.written c.in_ok-write_out.ensures.cause

pub returns-clause-written : goal.returns-clause-written
returns-clause-written g c = λ was tells.
    all_files_written (heap_of c.args.heap.now).files c.loop-number.number (g.F.Files.state c.args.files.now) (g.F.Files.state c.loop-number.files)
    c.loop-number.invariant (omega (arith, c.opened-number-end.ensures.count, c.opened-number-end.ensures.few, c.loop-number-test.false)) was tells

pub returns-clause-cause : goal.returns-clause-cause
returns-clause-cause g c = c.loop-number.invariant.counts
