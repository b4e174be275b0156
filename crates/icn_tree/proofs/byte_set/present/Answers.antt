use Rattle.std.proofs.Common.{refl, ◌∙◌, false, true}
use Rattle.std.proofs.lemmas.List.{get_or-replicate, length-set}
use Rattle.icn_tree.proofs.SetMembers.{mark_more}
use Rattle.icn_tree.proofs.byte_set.present.Goals as goal

pub loop-byte-init : goal.loop-byte-init
loop-byte-init c = (refl, λ k below. get_or-replicate 256 k false false below)

pub loop-byte-preserved : goal.loop-byte-preserved
loop-byte-preserved c = (
  length-set c.loop-byte.present c.from.result true ∙ c.loop-byte.invariant.0,
  mark_more c.loop-byte.present c.args.bytes.now c.loop-byte.byte-index c.from.result c.from.ensures c.loop-byte-test.true
      (rw c.from.ensures (c.type_inv.bytes c.loop-byte.byte-index)) c.loop-byte.invariant.0 c.loop-byte.invariant.1,
)
