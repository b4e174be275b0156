use Rattle.std.proofs.Common.{◌∙◌, subst, sym}
use Rattle.icn_control.specs.declared.machine.Machine.{Machine}
use Rattle.icn_control.specs.declared.machine.RunState.TheVariants as RunStates
use Rattle.icn_machine.specs.AnsweredAtOnce.{FailsAtOnce}
use Rattle.icn_machine.specs.Stepping.{IsReady}
use Rattle.icn_machine.proofs.AtOnceAnswers.{not_is}
use Rattle.icn_machine.proofs.failing.resume_at_once.Goals as goal

pub residual_at_once-requires : goal.residual_at_once-requires
residual_at_once-requires g c =
    let done = c.count_at_once-done in
    let same = (done.ensures c.requires.0 c.requires.1).not_done (not_is done.result (sym c.is_not.ensures ∙ c.if-is_not.true)) in
    (c.requires.0, subst (λ (x : Machine g.row.K.Denot). IsReady c.requires.0 x RunStates.Failing) (sym same) c.requires.1)

pub returns-then-is_not : goal.returns-then-is_not
returns-then-is_not g c tables ready =
    let done = c.count_at_once-done in
    let same = (done.ensures tables ready).not_done (not_is done.result (sym c.is_not.ensures ∙ c.if-is_not.true)) in
    subst (λ (x : Machine g.row.K.Denot). FailsAtOnce tables x c.residual_at_once.new.m c.residual_at_once.result) same
    (c.residual_at_once.ensures tables (subst (λ (x : Machine g.row.K.Denot). IsReady tables x RunStates.Failing) (sym same) ready))
