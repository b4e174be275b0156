use Rattle.std.proofs.Common.{◌∙◌, arith}
use Rattle.icn_frames.specs.Stacks.{locals}
use Rattle.icn_control.proofs.CreateSteps.{one_local}
use Rattle.icn_control.proofs.coexpressions.locals_of.Goals as goal

pub loop-index-preserved : goal.loop-index-preserved
loop-index-preserved g c = record {
  high = omega (arith, c.loop-index-test.true);
  so_far = c.in_ok-push.ensures.items
      ∙ one_local (locals c.args.frames.now.flat) c.loop-index.values.items c.loop-index.index c.local.result c.loop-index.invariant.so_far c.local.ensures;
}
