use Rattle.std.proofs.Common.{sym}
use Rattle.std.proofs.lemmas.List.Elements.{All-head, All-rest, All-same}
use Rattle.icn_heap.specs.Extents.{IsLive}
use Rattle.icn_heap.specs.Heaps.{extent_of}
use Rattle.test_rows.proofs.operations.showing.show_locals.Goals as goal

pub push_value-requires : goal.push_value-requires
push_value-requires c =
    All-head (IsLive (extent_of c.args.w.now.heap)) c.in-Some.first.now c.in-Some.others.now
    (All-same (IsLive (extent_of c.args.w.now.heap)) _ _ (sym c.in-Some.ensures.cases.0) c.loop-first.invariant)

pub loop-first-preserved : goal.loop-first-preserved
loop-first-preserved c =
    All-rest (IsLive (extent_of c.args.w.now.heap)) _ _ _ c.in-Some.ensures.cases.0 c.loop-first.invariant
