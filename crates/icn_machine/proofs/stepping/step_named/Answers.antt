use Rattle.std.proofs.Common.{◌≡◌, ◌∙◌, sym, true, false, rules}
use Rattle.icn_code.specs.CodeTables.{tables_of}
use Rattle.icn_control.specs.declared.machine.RunState.TheVariants as RunStates
use Rattle.icn_machine.proofs.AdvanceSteps.{at_failing}
use Rattle.icn_machine.proofs.DoingSteps.{advanced_err, err_memory, then_fails}
use Rattle.icn_machine.proofs.LoopSteps.{if_err_known, failing_goes, if_ok_of_error}
use Rattle.icn_machine.proofs.stepping.step_named.Goals as goal

pub do_next-requires-clause-off_stack : goal.do_next-requires-clause-off_stack
do_next-requires-clause-off_stack g c = c.requires.off_stack

pub do_next-requires-clause-known : goal.do_next-requires-clause-known
do_next-requires-clause-known g c = c.requires.known

pub do_next-requires-clause-ready : goal.do_next-requires-clause-ready
do_next-requires-clause-ready g c = c.requires.ready

pub returns-in_err-stage-clause-steps : goal.returns-in_err-stage-clause-steps
returns-in_err-stage-clause-steps g c =
    advanced_err (tables_of c.args.code.now) c.args.m.now RunStates.Running _ c.do_next.new.m _ c.in_err-stage.field-0.0 c.from_residual.result
    c.from_residual.ensures.1 c.in_err-stage.ensures.steps

pub returns-in_err-stage-clause-ready : goal.returns-in_err-stage-clause-ready
returns-in_err-stage-clause-ready g c = if_ok_of_error c.from_residual.result _ _ c.from_residual.ensures.1

pub returns-in_err-stage-clause-no_memory : goal.returns-in_err-stage-clause-no_memory
returns-in_err-stage-clause-no_memory g c instr at whole =
    err_memory c.in_err-stage.field-0.0 c.from_residual.result c.from_residual.ensures.1 (c.in_err-stage.ensures.whole instr at whole)

pub returns-in_err-stage-clause-within : goal.returns-in_err-stage-clause-within
returns-in_err-stage-clause-within g c = record {
  halt = if_err_known c.from_residual.result c.in_err-stage.field-0.0 _ c.from_residual.ensures.1 c.in_err-stage.ensures.within.halt;
  limits = c.in_err-stage.ensures.within.limits;
}

pub fail_to_next-requires-clause-known : goal.fail_to_next-requires-clause-known
fail_to_next-requires-clause-known g c = c.requires.known

pub fail_to_next-requires-clause-ready : goal.fail_to_next-requires-clause-ready
fail_to_next-requires-clause-ready g c = c.in_ok-stage.ensures.ready

pub returns-then-is_failing-clause-steps : goal.returns-then-is_failing-clause-steps
returns-then-is_failing-clause-steps g c =
    then_fails (tables_of c.args.code.now) c.args.m.now RunStates.Running _ c.do_next.new.m c.in_ok-stage.stage _ c.fail_to_next.new.m _ _
    (failing_goes c.in_ok-stage.stage (sym c.is_failing.ensures ∙ c.if-is_failing.true))
    (at_failing (tables_of c.args.code.now) c.do_next.new.m c.in_ok-stage.stage (sym c.is_failing.ensures ∙ c.if-is_failing.true))
    c.in_ok-stage.ensures.steps c.fail_to_next.ensures.steps

pub returns-then-is_failing-clause-ready : goal.returns-then-is_failing-clause-ready
returns-then-is_failing-clause-ready g c = c.fail_to_next.ensures.ready

pub returns-then-is_failing-clause-no_memory : goal.returns-then-is_failing-clause-no_memory
returns-then-is_failing-clause-no_memory g c instr at whole =
    let bad : true ≡ false = sym (sym c.is_failing.ensures ∙ c.if-is_failing.true) ∙ c.in_ok-stage.ensures.whole instr at whole in absurd (cc)

pub returns-then-is_failing-clause-within : goal.returns-then-is_failing-clause-within
returns-then-is_failing-clause-within g c = record {
  halt = c.fail_to_next.ensures.within.halt;
  limits = c.fail_to_next.ensures.within.limits ∙ c.in_ok-stage.ensures.within.limits;
}

pub stepped_of-requires : goal.stepped_of-requires
stepped_of-requires g c = sym c.is_failing.ensures ∙ c.if-is_failing.false

pub returns-clause-steps : goal.returns-clause-steps
returns-clause-steps g c = rw c.stepped_of.ensures c.in_ok-stage.ensures.steps

pub returns-clause-ready : goal.returns-clause-ready
returns-clause-ready g c = rw c.stepped_of.ensures c.in_ok-stage.ensures.ready

pub returns-clause-no_memory : goal.returns-clause-no_memory
returns-clause-no_memory g c instr at whole = λ e. absurd (cc)

pub returns-clause-within : goal.returns-clause-within
returns-clause-within g c = record {
  halt = search rules;
  limits = c.in_ok-stage.ensures.within.limits;
}
