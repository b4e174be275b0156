use Rattle.std.proofs.Common.{◌∙◌, Result, ap, sym, subst}
use Rattle.std.specs.Prelude.{IfOk}
use Rattle.icn_vars.specs.declared.outcome.Halt.{Halt}
use Rattle.icn_code.specs.CodeTables.{tables_of}
use Rattle.icn_control.specs.Soundness.{KeepsLimits}
use Rattle.icn_machine.specs.declared.stepping.AfterStep.{AfterStep}
use Rattle.icn_machine.specs.AnsweredAtOnce.{Finishes}
use Rattle.icn_machine.specs.AfterInstruction.{stage_of}
use Rattle.icn_machine.specs.Stepping.{IsReady}
use Rattle.icn_running.specs.declared.running.AfterTurn.{AfterTurn}
use Rattle.icn_running.specs.DueInstructions.{step_result}
use Rattle.icn_running.proofs.LoopSteps.{told_after}
use Rattle.icn_running.proofs.running.finish.Goals as goal

pub returns-in-Ok-clause-steps : goal.returns-in-Ok-clause-steps
returns-in-Ok-clause-steps g c =
    let halt = c.args.halt.now in
    subst (λ (r : Result AfterStep Halt). Finishes (tables_of c.args.code.now.code) c.args.m.now (g.S.Streams.state c.args.streams.now)
    c.finish_step.new.m (g.S.Streams.state c.finish_step.new.streams) r c.args.done)
    (sym (ap (λ (a : AfterTurn). step_result a halt) c.after_of.ensures ∙ told_after c.in-Ok.stepped halt)) c.in-Ok.ensures.steps

pub returns-in-Ok-clause-ready : goal.returns-in-Ok-clause-ready
returns-in-Ok-clause-ready g c =
    let halt = c.args.halt.now in
    subst (λ (r : Result AfterStep Halt). IfOk r (λ stepped. IsReady (tables_of c.args.code.now.code) c.finish_step.new.m (stage_of stepped)))
    (sym (ap (λ (a : AfterTurn). step_result a halt) c.after_of.ensures ∙ told_after c.in-Ok.stepped halt)) c.in-Ok.ensures.ready

pub returns-in-Ok-clause-within : goal.returns-in-Ok-clause-within
returns-in-Ok-clause-within g c =
    let halt = c.args.halt.now in
    subst (λ (r : Result AfterStep Halt). KeepsLimits c.args.m.now c.finish_step.new.m r)
    (sym (ap (λ (a : AfterTurn). step_result a halt) c.after_of.ensures ∙ told_after c.in-Ok.stepped halt)) c.in-Ok.ensures.within

pub returns-in-Err-clause-steps : goal.returns-in-Err-clause-steps
returns-in-Err-clause-steps g c = c.in-Err.ensures.steps

pub returns-in-Err-clause-ready : goal.returns-in-Err-clause-ready
returns-in-Err-clause-ready g c = tt

pub returns-in-Err-clause-within : goal.returns-in-Err-clause-within
returns-in-Err-clause-within g c = c.in-Err.ensures.within
