use Rattle.std.proofs.Common.{[], ◌++◌, take, refl, ◌∙◌}
use Rattle.icn_host.proofs.SinkSteps.{on_err_always, one_more}
use Rattle.icn_host.proofs.FileSteps.{grows_nothing, grows_on, grows_part}
use Rattle.icn_host.proofs.whole.write_bytes.Goals as goal

pub loop-rest-init : goal.loop-rest-init
loop-rest-init g c = ([], grows_nothing _ _, refl, refl)

pub returns-in_err-n-clause-err : goal.returns-in_err-n-clause-err
returns-in_err-n-clause-err g c =
    let before = c.loop-rest.invariant in
    on_err_always c.from_residual.result (grows_part before.0 _ _ before.1 c.in_err-n.ensures.same before.3)

pub returns-then-n-eq0-clause-err : goal.returns-then-n-eq0-clause-err
returns-then-n-eq0-clause-err g c =
    let before = c.loop-rest.invariant in
    grows_part (before.0 ++ take c.in_ok-n.n c.loop-rest.rest.now) _ _ (grows_on before.1 before.2 c.in_ok-n.ensures.grows) refl
    (one_more before.0 _ _ _ c.in_ok-n.n refl before.3)

pub loop-rest-preserved : goal.loop-rest-preserved
loop-rest-preserved g c =
    let before = c.loop-rest.invariant in (
      _,
      grows_on before.1 before.2 c.in_ok-n.ensures.grows,
      c.in_ok-n.ensures.opened ∙ before.2,
      one_more before.0 _ _ _ c.in_ok-n.n c.split_at.ensures.back before.3,
    )
