use Rattle.std.proofs.Common.{arith}
use Rattle.icn_host.proofs.KeptSteps.{kept_on, kept_rest}
use Rattle.icn_host.proofs.kept.Kept.flush.Goals as goal

pub loop-self-preserved : goal.loop-self-preserved
loop-self-preserved g c = (
  kept_on _ _ _ c.loop-self.self.bytes.items _ c.loop-self.self.at c.in_ok-count.count c.loop-self.invariant.0 c.in_ok-count.ensures.gains
      (kept_rest c.loop-self.self.bytes.items c.deref.result.now c.loop-self.self.at c.deref.ensures.value),
  omega (arith, c.loop-self.invariant.1),
)
