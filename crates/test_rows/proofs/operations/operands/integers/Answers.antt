use Rattle.std.proofs.lemmas.List.Elements.{All-push, All-same}
use Rattle.icn_heap.specs.Extents.{IsLive}
use Rattle.test_rows.proofs.operations.operands.integers.Goals as goal

pub loop-part-preserved : goal.loop-part-preserved
loop-part-preserved c = λ all.
    All-same (IsLive all) _ _ c.in_ok-add.ensures (All-push (IsLive all) _ _ (c.loop-part.invariant all) (c.plain.ensures.live all))
