use Rattle.std.proofs.lemmas.List.Elements.{All-push, All-same}
use Rattle.icn_heap.specs.Extents.{IsLive}
use Rattle.icn_heap.specs.Heaps.{extent_of}
use Rattle.icn_heap.proofs.GrowingHeaps.{live_kept}
use Rattle.test_store.proofs.convert.values.values.Goals as goal

pub loop-word-preserved : goal.loop-word-preserved
loop-word-preserved c = record {
  live = All-same (IsLive (extent_of c.value_of.new.heap)) _ _ c.in_ok-add.ensures
      (All-push (IsLive (extent_of c.value_of.new.heap)) _ _ (live_kept c.value_of.ensures.kept c.loop-word.vals.items c.loop-word.invariant.live)
      c.in_ok-val.ensures.live);
  records = c.value_of.ensures.records;
}
