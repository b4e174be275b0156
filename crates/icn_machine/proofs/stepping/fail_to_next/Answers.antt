use Rattle.std.proofs.Common.{sym, rules}
use Rattle.icn_code.specs.CodeTables.{tables_of}
use Rattle.icn_machine.proofs.DoingSteps.{staged_err}
use Rattle.icn_machine.proofs.LoopSteps.{if_err_known, if_ok_of_error}
use Rattle.icn_machine.proofs.stepping.fail_to_next.Goals as goal

pub fail_through-requires : goal.fail_through-requires
fail_through-requires g c = record { ready = ((tables_of c.args.code.now), (sym c.requires.known, c.requires.ready)) }

pub returns-in_err-stage-clause-steps : goal.returns-in_err-stage-clause-steps
returns-in_err-stage-clause-steps g c =
    staged_err (tables_of c.args.code.now) c.args.m.now c.args.from _ c.fail_through.new.m _ c.in_err-stage.field-0.0 c.from_residual.result
    c.from_residual.ensures.1 (c.in_err-stage.ensures.steps (tables_of c.args.code.now) (sym c.requires.known) c.requires.ready)

pub returns-in_err-stage-clause-ready : goal.returns-in_err-stage-clause-ready
returns-in_err-stage-clause-ready g c = if_ok_of_error c.from_residual.result _ _ c.from_residual.ensures.1

pub returns-in_err-stage-clause-within : goal.returns-in_err-stage-clause-within
returns-in_err-stage-clause-within g c = record {
  halt = if_err_known c.from_residual.result c.in_err-stage.field-0.0 _ c.from_residual.ensures.1 c.in_err-stage.ensures.within.halt;
  limits = c.in_err-stage.ensures.within.limits;
}

pub stepped_of-requires : goal.stepped_of-requires
stepped_of-requires g c = c.in_ok-stage.ensures.fails_no_more

pub returns-clause-steps : goal.returns-clause-steps
returns-clause-steps g c = rw c.stepped_of.ensures (c.in_ok-stage.ensures.steps (tables_of c.args.code.now) (sym c.requires.known) c.requires.ready)

pub returns-clause-ready : goal.returns-clause-ready
returns-clause-ready g c = rw c.stepped_of.ensures (c.in_ok-stage.ensures.ready (tables_of c.args.code.now) (sym c.requires.known) c.requires.ready)

pub returns-clause-within : goal.returns-clause-within
returns-clause-within g c = record {
  halt = search rules;
  limits = c.in_ok-stage.ensures.within.limits;
}
