use Rattle.icn_host.proofs.SinkSteps.{on_err_always, gains_then, one_more, part_done}
use Rattle.icn_host.proofs.retry.write_whole.Goals as goal

pub returns-in_err-n-clause-err : goal.returns-in_err-n-clause-err
returns-in_err-n-clause-err g c =
    let before = c.loop-rest.invariant in on_err_always c.from_residual.result (part_done before.0 _ _ before.1 c.in_err-n.ensures.same before.2)

pub loop-rest-preserved : goal.loop-rest-preserved
loop-rest-preserved g c =
    let before = c.loop-rest.invariant in (_, gains_then before.1 c.in_ok-n.ensures.gains, one_more before.0 _ _ _ c.in_ok-n.n c.split_at.ensures.back before.2)
