use Rattle.std.proofs.Common.{◌∙◌, ap, sym, [], get_or}
use Rattle.icn_value.specs.declared.val.Val.{Val}
use Rattle.icn_value.specs.declared.val.Val.TheVariants.{Null as NullVal}
use Rattle.icn_heap.specs.Extents.{values_in}
use Rattle.icn_heap.specs.MadeStructures.{with_stored}
use Rattle.icn_heap.specs.Heaps.{extent_of}
use Rattle.icn_heap.proofs.JoinedPairs.{fold_more, stores_more}
use Rattle.icn_heap.proofs.heap.Heap.pairs_from.Goals as goal

pub loop-key-preserved : goal.loop-key-preserved
loop-key-preserved c =
    let pair : Val × Val = get_or c.args.vals.now c.loop-key.key-index (NullVal, NullVal) in
    let live = c.requires c.loop-key.key-index (NullVal, NullVal) c.loop-key-test.true in
    let more = stores_more (extent_of c.args.self.now) c.in_ok-held.held c.in_ok-held.ensures.formed pair live c.in_ok-held.ensures.value c.loop-key.pairs
    c.loop-key.invariant.sound in
    rw c.in_ok-join_entry.ensures (record {
      pairs =
          more.0
          ∙ (ap (λ pairs. with_stored pairs (values_in (extent_of c.args.self.now) pair)) c.loop-key.invariant.pairs
          ∙ sym (fold_more with_stored [] (values_in (extent_of c.args.self.now)) c.args.vals.now c.loop-key.key-index
          (NullVal, NullVal) c.loop-key-test.true));
      sound = more.1;
    })
