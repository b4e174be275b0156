use Rattle.icn_heap.specs.Heaps.{heap_of}
use Rattle.icn_filefn.proofs.WrittenSteps.{HasWritten}
use Rattle.icn_filefn.proofs.writing.write_open_files.Given as goal

abbrev pub invariant-loop-number : goal.invariant-loop-number
invariant-loop-number g l = HasWritten (heap_of l.heap).files l.number (g.F.Files.state l.initial.files) (g.F.Files.state l.files)
