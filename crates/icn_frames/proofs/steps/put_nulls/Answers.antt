use Rattle.std.proofs.Common.{refl, arith}
use Rattle.icn_value.specs.declared.val.Val.TheVariants.{Null}
use Rattle.icn_frames.proofs.CalledWithFacts.{null_put}
use Rattle.icn_frames.proofs.steps.put_nulls.Goals as goal

pub loop-preserved : goal.loop-preserved
loop-preserved g c = record {
  cells = null_put c.loop.counter c.args.cells.now.cells c.loop.cells.cells c.push_local_plain.new.self.cells c.loop.invariant.cells
      (c.push_local_plain.ensures.cells Null refl);
  spare = omega (arith, c.loop.invariant.spare, c.push_local_plain.ensures.spare);
}
