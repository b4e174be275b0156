use Rattle.std.proofs.Common.{◌≡◌, []}
use Rattle.icn_heap.specs.Heaps.{heap_of}
use Rattle.test_rows.proofs.strings.case.outcome.Given as goal

-- there is no record
abbrev pub invariant-loop-word : goal.invariant-loop-word
invariant-loop-word l = (heap_of l.w.heap).records ≡ []
