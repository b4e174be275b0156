use Rattle.std.proofs.Common.{◌∙◌, sym}
use Rattle.icn_heap.specs.Heaps.{heap_of}
use Rattle.icn_heap.specs.Keys.{file_of}
use Rattle.icn_iofn.proofs.PieceChecks.{file_passes, file_refused}
use Rattle.icn_iofn.proofs.pieces.check_file.Goals as goal

pub returns-then-is_writable-clause-found : goal.returns-then-is_writable-clause-found
returns-then-is_writable-clause-found c = λ setting.
    file_passes (heap_of c.args.heap.now) (file_of c.args.file) setting (sym c.is_writable.ensures ∙ c.if-is_writable.true)

pub returns-else-is_writable-clause-found : goal.returns-else-is_writable-clause-found
returns-else-is_writable-clause-found c = λ setting.
    file_refused (heap_of c.args.heap.now) (file_of c.args.file) setting (sym c.is_writable.ensures ∙ c.if-is_writable.false)
