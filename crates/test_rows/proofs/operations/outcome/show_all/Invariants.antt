use Rattle.std.specs.List.{All}
use Rattle.icn_heap.specs.Extents.{IsLive}
use Rattle.icn_heap.specs.Heaps.{extent_of}
use Rattle.icn_vars.specs.Outcomes.{IsLiveAnswer}
use Rattle.icn_vars.specs.Worlds.{reach_of}
use Rattle.test_rows.proofs.operations.outcome.show_all.Given as goal

abbrev pub invariant-loop : goal.invariant-loop
invariant-loop l = record {
  answer : IsLiveAnswer (reach_of l.w l.slots.vals.items) l.answer;
  locals : All (IsLive (extent_of l.w.heap)) l.slots.vals.items;
}
