use Rattle.std.proofs.Common.{◌≡◌}
use Rattle.icn_heap.specs.Heaps.{parts_of}
use Rattle.icn_heap.specs.MarkedStructures.{marks_of, AreReached}
use Rattle.icn_heap.proofs.heap.Heap.mark_reached.Given as goal

-- what is marked so far is closed
abbrev pub invariant-loop-round : goal.invariant-loop-round
invariant-loop-round l = record {
  parts : parts_of l.self ≡ parts_of l.initial.self;
  reached : AreReached (parts_of l.initial.self) l.initial.needed (marks_of l.self) l.needed;
}
