use Rattle.std.proofs.Common.{sym, subst}
use Rattle.icn_value.specs.Store.{bare_outside}
use Rattle.icn_code.specs.CodeTables.{tables_of}
use Rattle.icn_code.specs.declared.instr.Instr.{Instr}
use Rattle.icn_code.specs.declared.instr.Instr.TheVariants as Instrs
use Rattle.icn_control.specs.Machines.{does}
use Rattle.icn_control.specs.Machines.{ComesTo}
use Rattle.icn_machine.proofs.PerformEvents.{comes_performs}
use Rattle.icn_machine.proofs.DoingSteps.{applied_performs, calls_as}
use Rattle.icn_machine.proofs.NextSteps.{appl_operands, applied_is, called_keeps, comes_by, comes_quietly, done_keeps, erring_after, field_operand, invoke_operands, ready_after, names_as, no_other, no_refresh, op_operands, world_names_as}
use Rattle.icn_machine.proofs.stepping.do_applied.Goals as goal

pub operate-requires-clause-stands : goal.operate-requires-clause-stands
operate-requires-clause-stands g c = record {
  runs = c.requires.doing.runs;
  sound = ((tables_of c.args.code.now), c.requires.doing.sound);
}

pub operate-requires-clause-named : goal.operate-requires-clause-named
operate-requires-clause-named g c = record {
  stack_named = names_as _ (tables_of c.args.code.now) c.args.m.now c.args.instr c.requires.known c.requires.doing;
  world_named = world_names_as _ (tables_of c.args.code.now) c.args.m.now c.args.instr c.requires.known c.requires.doing;
}

pub field-requires-clause-stands : goal.field-requires-clause-stands
field-requires-clause-stands g c = record {
  runs = c.requires.doing.runs;
  sound = ((tables_of c.args.code.now), c.requires.doing.sound);
}

pub invoke-requires-clause-stands : goal.invoke-requires-clause-stands
invoke-requires-clause-stands g c = record {
  runs = c.requires.doing.runs;
  sound = ((tables_of c.args.code.now), c.requires.doing.sound);
}

pub invoke-requires-clause-named : goal.invoke-requires-clause-named
invoke-requires-clause-named g c = record {
  stack_named = names_as _ (tables_of c.args.code.now) c.args.m.now c.args.instr c.requires.known c.requires.doing;
  world_named = world_names_as _ (tables_of c.args.code.now) c.args.m.now c.args.instr c.requires.known c.requires.doing;
}

pub invoke-requires-clause-known : goal.invoke-requires-clause-known
invoke-requires-clause-known g c = c.requires.known

pub appl-requires-clause-stands : goal.appl-requires-clause-stands
appl-requires-clause-stands g c = record {
  runs = c.requires.doing.runs;
  sound = ((tables_of c.args.code.now), c.requires.doing.sound);
}

pub appl-requires-clause-named : goal.appl-requires-clause-named
appl-requires-clause-named g c = record {
  stack_named = names_as _ (tables_of c.args.code.now) c.args.m.now c.args.instr c.requires.known c.requires.doing;
  world_named = world_names_as _ (tables_of c.args.code.now) c.args.m.now c.args.instr c.requires.known c.requires.doing;
}

pub appl-requires-clause-known : goal.appl-requires-clause-known
appl-requires-clause-known g c = c.requires.known

pub operate-requires-clause-row : goal.operate-requires-clause-row
operate-requires-clause-row g c = no_refresh c.in-Op.op (applied_is c.args.instr (Instrs.Op c.in-Op.op) c.in-Op.is c.requires.applied)

pub operate-requires-clause-operands : goal.operate-requires-clause-operands
operate-requires-clause-operands g c = op_operands (tables_of c.args.code.now) c.args.m.now c.args.instr c.in-Op.op c.in-Op.is c.requires.doing

pub field-requires-clause-operand : goal.field-requires-clause-operand
field-requires-clause-operand g c = field_operand (tables_of c.args.code.now) c.args.m.now c.args.instr c.in-Field.place c.in-Field.is c.requires.doing

pub field-requires-clause-sizes : goal.field-requires-clause-sizes
field-requires-clause-sizes g c = c.requires.doing.fits bare_outside

pub invoke-requires-clause-operands : goal.invoke-requires-clause-operands
invoke-requires-clause-operands g c = invoke_operands (tables_of c.args.code.now) c.args.m.now c.args.instr c.in-Invoke.count c.in-Invoke.is c.requires.doing

pub appl-requires-clause-operands : goal.appl-requires-clause-operands
appl-requires-clause-operands g c = appl_operands (tables_of c.args.code.now) c.args.m.now c.args.instr c.in-Appl.is c.requires.doing

pub returns-in-Op-clause-step : goal.returns-in-Op-clause-step
returns-in-Op-clause-step g c =
    applied_performs (tables_of c.args.code.now) c.args.m.now c.operate.new.m c.args.instr (Instrs.Op c.in-Op.op) _ _ c.operate.result c.in-Op.is
    (c.operate.ensures.step (tables_of c.args.code.now) (sym c.requires.known))

pub returns-in-Op-clause-ready : goal.returns-in-Op-clause-ready
returns-in-Op-clause-ready g c =
    ready_after (tables_of c.args.code.now) (λ o. does (tables_of c.args.code.now) o c.args.instr c.args.m.now) c.operate.new.m c.operate.result
    (done_keeps (tables_of c.args.code.now) c.steps_keep_names.ensures.kept c.steps_keep_sizes.ensures.kept c.args.m.now c.operate.new.m c.args.instr
    c.operate.result (calls_as c.args.instr (Instrs.Op c.in-Op.op) c.in-Op.is (λ h. h)) c.requires.doing)
    (comes_by (tables_of c.args.code.now) (λ o. does (tables_of c.args.code.now) o c.args.instr c.args.m.now) _ c.operate.new.m _ c.operate.result
    (applied_performs (tables_of c.args.code.now) c.args.m.now c.operate.new.m c.args.instr (Instrs.Op c.in-Op.op) _ _ c.operate.result c.in-Op.is
    (c.operate.ensures.step (tables_of c.args.code.now) (sym c.requires.known))))
    (c.operate.ensures.keeps.sound (tables_of c.args.code.now) c.requires.doing.sound) c.operate.ensures.keeps.stack

pub returns-in-Op-clause-erring : goal.returns-in-Op-clause-erring
returns-in-Op-clause-erring g c =
    erring_after (tables_of c.args.code.now) (λ o. does (tables_of c.args.code.now) o c.args.instr c.args.m.now) c.operate.new.m c.operate.result
    (done_keeps (tables_of c.args.code.now) c.steps_keep_names.ensures.kept c.steps_keep_sizes.ensures.kept c.args.m.now c.operate.new.m c.args.instr
    c.operate.result (calls_as c.args.instr (Instrs.Op c.in-Op.op) c.in-Op.is (λ h. h)) c.requires.doing)
    (comes_by (tables_of c.args.code.now) (λ o. does (tables_of c.args.code.now) o c.args.instr c.args.m.now) _ c.operate.new.m _ c.operate.result
    (applied_performs (tables_of c.args.code.now) c.args.m.now c.operate.new.m c.args.instr (Instrs.Op c.in-Op.op) _ _ c.operate.result c.in-Op.is
    (c.operate.ensures.step (tables_of c.args.code.now) (sym c.requires.known))))
    (c.operate.ensures.keeps.sound (tables_of c.args.code.now) c.requires.doing.sound) c.operate.ensures.keeps.stack

pub returns-in-Op-clause-within : goal.returns-in-Op-clause-within
returns-in-Op-clause-within g c = record {
  halt = c.operate.ensures.keeps.halt;
  limits = c.operate.ensures.keeps.limits;
}

pub returns-in-Field-clause-step : goal.returns-in-Field-clause-step
returns-in-Field-clause-step g c =
    applied_performs (tables_of c.args.code.now) c.args.m.now c.field.new.m c.args.instr (Instrs.Field c.in-Field.place) _ _ c.field.result
    c.in-Field.is
    (comes_performs (tables_of c.args.code.now) (λ o. does (tables_of c.args.code.now) o (Instrs.Field c.in-Field.place) c.args.m.now) c.field.new.m
    _ c.field.result c.field.ensures.step)

pub returns-in-Field-clause-ready : goal.returns-in-Field-clause-ready
returns-in-Field-clause-ready g c =
    ready_after (tables_of c.args.code.now) (λ o. does (tables_of c.args.code.now) o c.args.instr c.args.m.now) c.field.new.m c.field.result
    (done_keeps (tables_of c.args.code.now) c.steps_keep_names.ensures.kept c.steps_keep_sizes.ensures.kept c.args.m.now c.field.new.m c.args.instr
    c.field.result (calls_as c.args.instr (Instrs.Field c.in-Field.place) c.in-Field.is (λ h. h)) c.requires.doing)
    (comes_quietly (tables_of c.args.code.now) (λ o. does (tables_of c.args.code.now) o c.args.instr c.args.m.now) c.field.new.m c.field.result
    (λ o. subst (λ (x : Instr). ComesTo (tables_of c.args.code.now) o (does (tables_of c.args.code.now) o x c.args.m.now) c.field.new.m c.field.result)
    (sym c.in-Field.is)
    (c.field.ensures.step o)))
    (c.field.ensures.keeps.sound (tables_of c.args.code.now) c.requires.doing.sound) c.field.ensures.keeps.stack

pub returns-in-Field-clause-erring : goal.returns-in-Field-clause-erring
returns-in-Field-clause-erring g c =
    erring_after (tables_of c.args.code.now) (λ o. does (tables_of c.args.code.now) o c.args.instr c.args.m.now) c.field.new.m c.field.result
    (done_keeps (tables_of c.args.code.now) c.steps_keep_names.ensures.kept c.steps_keep_sizes.ensures.kept c.args.m.now c.field.new.m c.args.instr
    c.field.result (calls_as c.args.instr (Instrs.Field c.in-Field.place) c.in-Field.is (λ h. h)) c.requires.doing)
    (comes_quietly (tables_of c.args.code.now) (λ o. does (tables_of c.args.code.now) o c.args.instr c.args.m.now) c.field.new.m c.field.result
    (λ o. subst (λ (x : Instr). ComesTo (tables_of c.args.code.now) o (does (tables_of c.args.code.now) o x c.args.m.now) c.field.new.m c.field.result)
    (sym c.in-Field.is)
    (c.field.ensures.step o)))
    (c.field.ensures.keeps.sound (tables_of c.args.code.now) c.requires.doing.sound) c.field.ensures.keeps.stack

pub returns-in-Field-clause-within : goal.returns-in-Field-clause-within
returns-in-Field-clause-within g c = record {
  halt = c.field.ensures.keeps.halt;
  limits = c.field.ensures.keeps.limits;
}

pub returns-in-Invoke-clause-step : goal.returns-in-Invoke-clause-step
returns-in-Invoke-clause-step g c =
    applied_performs (tables_of c.args.code.now) c.args.m.now c.invoke.new.m c.args.instr (Instrs.Invoke c.in-Invoke.count) _ _ c.invoke.result
    c.in-Invoke.is (c.invoke.ensures.step)

pub returns-in-Invoke-clause-ready : goal.returns-in-Invoke-clause-ready
returns-in-Invoke-clause-ready g c =
    ready_after (tables_of c.args.code.now)
    (λ o. does (tables_of c.args.code.now) o (Instrs.Invoke c.in-Invoke.count) c.args.m.now) c.invoke.new.m c.invoke.result
    (called_keeps _ (tables_of c.args.code.now) c.args.m.now c.invoke.new.m c.args.instr
    (Instrs.Invoke c.in-Invoke.count) c.invoke.result c.requires.known c.in-Invoke.is
    c.requires.doing c.invoke.ensures.named c.invoke.ensures.coexps_named c.invoke.ensures.sized)
    (comes_by (tables_of c.args.code.now)
    (λ o. does (tables_of c.args.code.now) o (Instrs.Invoke c.in-Invoke.count) c.args.m.now) _ c.invoke.new.m _ c.invoke.result c.invoke.ensures.step)
    (c.invoke.ensures.sound c.requires.doing.sound) c.invoke.ensures.stack

pub returns-in-Invoke-clause-erring : goal.returns-in-Invoke-clause-erring
returns-in-Invoke-clause-erring g c =
    erring_after (tables_of c.args.code.now)
    (λ o. does (tables_of c.args.code.now) o (Instrs.Invoke c.in-Invoke.count) c.args.m.now) c.invoke.new.m c.invoke.result
    (called_keeps _ (tables_of c.args.code.now) c.args.m.now c.invoke.new.m c.args.instr
    (Instrs.Invoke c.in-Invoke.count) c.invoke.result c.requires.known c.in-Invoke.is
    c.requires.doing c.invoke.ensures.named c.invoke.ensures.coexps_named c.invoke.ensures.sized)
    (comes_by (tables_of c.args.code.now)
    (λ o. does (tables_of c.args.code.now) o (Instrs.Invoke c.in-Invoke.count) c.args.m.now) _ c.invoke.new.m _ c.invoke.result c.invoke.ensures.step)
    (c.invoke.ensures.sound c.requires.doing.sound) c.invoke.ensures.stack

pub returns-in-Invoke-clause-within : goal.returns-in-Invoke-clause-within
returns-in-Invoke-clause-within g c = record {
  halt = c.invoke.ensures.within.halt;
  limits = c.invoke.ensures.within.limits;
}

pub returns-in-Appl-clause-step : goal.returns-in-Appl-clause-step
returns-in-Appl-clause-step g c =
    applied_performs (tables_of c.args.code.now) c.args.m.now c.appl.new.m c.args.instr Instrs.Appl _ _ c.appl.result c.in-Appl.is (c.appl.ensures.step)

pub returns-in-Appl-clause-ready : goal.returns-in-Appl-clause-ready
returns-in-Appl-clause-ready g c =
    ready_after (tables_of c.args.code.now) (λ o. does (tables_of c.args.code.now) o Instrs.Appl c.args.m.now) c.appl.new.m c.appl.result
    (called_keeps _ (tables_of c.args.code.now) c.args.m.now c.appl.new.m c.args.instr Instrs.Appl c.appl.result c.requires.known c.in-Appl.is
    c.requires.doing c.appl.ensures.named c.appl.ensures.coexps_named c.appl.ensures.sized)
    (comes_by (tables_of c.args.code.now) (λ o. does (tables_of c.args.code.now) o Instrs.Appl c.args.m.now) _ c.appl.new.m _ c.appl.result c.appl.ensures.step)
    (c.appl.ensures.sound c.requires.doing.sound) c.appl.ensures.stack

pub returns-in-Appl-clause-erring : goal.returns-in-Appl-clause-erring
returns-in-Appl-clause-erring g c =
    erring_after (tables_of c.args.code.now) (λ o. does (tables_of c.args.code.now) o Instrs.Appl c.args.m.now) c.appl.new.m c.appl.result
    (called_keeps _ (tables_of c.args.code.now) c.args.m.now c.appl.new.m c.args.instr Instrs.Appl c.appl.result c.requires.known c.in-Appl.is
    c.requires.doing c.appl.ensures.named c.appl.ensures.coexps_named c.appl.ensures.sized)
    (comes_by (tables_of c.args.code.now) (λ o. does (tables_of c.args.code.now) o Instrs.Appl c.args.m.now) _ c.appl.new.m _ c.appl.result c.appl.ensures.step)
    (c.appl.ensures.sound c.requires.doing.sound) c.appl.ensures.stack

pub returns-in-Appl-clause-within : goal.returns-in-Appl-clause-within
returns-in-Appl-clause-within g c = record {
  halt = c.appl.ensures.within.halt;
  limits = c.appl.ensures.within.limits;
}

pub unreachable-requires : goal.unreachable-requires
unreachable-requires g c = no_other c.args.instr c.requires.applied c.in_default.not-Op c.in_default.not-Field c.in_default.not-Invoke c.in_default.not-Appl

pub unreachable-unreachable : goal.unreachable-unreachable
unreachable-unreachable g c = c.unreachable.type_inv
