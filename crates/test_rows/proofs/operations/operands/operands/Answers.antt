use Rattle.std.proofs.lemmas.List.Elements.{All-push, All-same}
use Rattle.icn_heap.specs.Extents.{IsLive}
use Rattle.icn_heap.specs.Heaps.{extent_of}
use Rattle.icn_heap.proofs.GrowingHeaps.{live_kept}
use Rattle.test_rows.proofs.operations.operands.operands.Goals as goal

pub loop-field-preserved : goal.loop-field-preserved
loop-field-preserved c =
    All-same (IsLive (extent_of c.operand.new.w.heap)) _ _ c.in_ok-add.ensures
    (All-push (IsLive (extent_of c.operand.new.w.heap)) _ _ (live_kept c.operand.ensures.kept c.loop-field.vals.items c.loop-field.invariant)
    c.in_ok-val.ensures.live)
