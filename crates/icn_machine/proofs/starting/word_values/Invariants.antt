use Rattle.std.proofs.Common.{◌≡◌, ◌++◌, length, map}
use Rattle.std.specs.Prelude.{string_bytes}
use Rattle.std.specs.List.{All}
use Rattle.icn_defs.specs.Running.{text_values}
use Rattle.icn_heap.specs.Extents.{IsLive, value_in}
use Rattle.icn_heap.specs.Heaps.{extent_of, heap_of}
use Rattle.icn_machine.proofs.StartLoops.{HasCharged}
use Rattle.icn_machine.proofs.starting.word_values.Given as goal

abbrev pub invariant-loop-word : goal.invariant-loop-word
invariant-loop-word l = record {
  live : All (IsLive (extent_of l.heap)) l.vals.items;
  values : map (value_in (extent_of l.heap)) l.vals.items ++ text_values (map string_bytes l.rest) ≡ text_values (map string_bytes l.words);
  charged : HasCharged (heap_of l.initial.heap) (heap_of l.heap) (map string_bytes l.rest) (map string_bytes l.words);
}

abbrev pub decreases-loop-word : goal.decreases-loop-word
decreases-loop-word l = length l.rest
