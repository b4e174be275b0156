use Rattle.std.proofs.Common.{◌∙◌, ap, sym, [], get_or}
use Rattle.icn_value.specs.declared.val.Val.{Val}
use Rattle.icn_value.specs.declared.val.Val.TheVariants.{Null as NullVal}
use Rattle.icn_value.specs.Sameness.{with_member}
use Rattle.icn_heap.specs.Extents.{value_in}
use Rattle.icn_heap.specs.Heaps.{extent_of}
use Rattle.icn_heap.proofs.JoinedPairs.{joins, joins_soundly, fold_more}
use Rattle.icn_heap.proofs.heap.Heap.members_from.Goals as goal

pub loop-val-preserved : goal.loop-val-preserved
loop-val-preserved c =
    let val : Val = get_or c.args.vals.now c.loop-val.val-index NullVal in
    let live = c.requires c.loop-val.val-index NullVal c.loop-val-test.true in
    rw c.in_ok-join_member.ensures (record {
      members =
          joins (extent_of c.args.self.now) c.in_ok-key.key c.in_ok-key.ensures.formed val live c.in_ok-key.ensures.value c.loop-val.members
          c.loop-val.invariant.sound
          ∙ (ap (λ members. with_member members (value_in (extent_of c.args.self.now) val)) c.loop-val.invariant.members
          ∙ sym (fold_more with_member [] (value_in (extent_of c.args.self.now)) c.args.vals.now c.loop-val.val-index NullVal c.loop-val-test.true));
      sound = joins_soundly (extent_of c.args.self.now) c.in_ok-key.key c.in_ok-key.ensures.formed val live c.in_ok-key.ensures.value c.loop-val.members
          c.loop-val.invariant.sound;
    })
