use Rattle.std.proofs.Common.{◌≡◌, Ok, refl, sym, ap, ◌∙◌, subst}
use Rattle.icn_text.specs.declared.op.Op.TheVariants as Ops
use Rattle.icn_code.specs.declared.instr.Instr.TheVariants as Instrs
use Rattle.icn_code.specs.CodeTables.{tables_of}
use Rattle.icn_run.specs.Stacks.{Frames}
use Rattle.icn_run.specs.Step.{State}
use Rattle.icn_control.specs.Machines.{StandsAt, extent, stack_of, store_seen}
use Rattle.icn_instructions.specs.Groups.{group_of}
use Rattle.icn_instructions.proofs.ArmSteps.{lacks_as, may_take, ok_has_memory, comes_to_as}
use Rattle.icn_instructions.proofs.GroupSteps.{no_other_coexpression, op_refreshes}
use Rattle.icn_instructions.proofs.LackSteps.{take_there, one_there, upper_there, lower_there, coret_operand, coret_body, cofail_body, cofail_is}
use Rattle.icn_instructions.proofs.coexpressions.do_with_coexpressions.Goals as goal

pub create-requires : goal.create-requires
create-requires g c = record { stands = record { runs = c.requires.runs; sound = ((tables_of c.args.code.now), c.requires.sound) } }

pub coact-requires-clause-stands : goal.coact-requires-clause-stands
coact-requires-clause-stands g c = record {
  runs = c.requires.runs;
  sound = ((tables_of c.args.code.now), c.requires.sound);
}

pub coret-requires-clause-stands : goal.coret-requires-clause-stands
coret-requires-clause-stands g c = record {
  runs = c.requires.runs;
  sound = ((tables_of c.args.code.now), c.requires.sound);
}

pub refresh-requires-clause-stands : goal.refresh-requires-clause-stands
refresh-requires-clause-stands g c = record {
  runs = c.requires.runs;
  sound = ((tables_of c.args.code.now), c.requires.sound);
}

pub exhaust-requires-clause-runs : goal.exhaust-requires-clause-runs
exhaust-requires-clause-runs g c =
    c.requires.runs

pub coact-requires-clause-upper : goal.coact-requires-clause-upper
coact-requires-clause-upper g c =
    upper_there (stack_of c.args.m.now)
    (take_there (extent c.args.m.now) 2 (stack_of c.args.m.now) _
    (lacks_as (extent c.args.m.now) (tables_of c.args.code.now) c.args.instr Instrs.Coact (stack_of c.args.m.now)
    (store_seen (tables_of c.args.code.now) c.requires.goes_on.0 c.args.m.now) c.in-Coact.is c.requires.goes_on.1))

pub coact-requires-clause-lower : goal.coact-requires-clause-lower
coact-requires-clause-lower g c =
    lower_there (stack_of c.args.m.now)
    (take_there (extent c.args.m.now) 2 (stack_of c.args.m.now) _
    (lacks_as (extent c.args.m.now) (tables_of c.args.code.now) c.args.instr Instrs.Coact (stack_of c.args.m.now)
    (store_seen (tables_of c.args.code.now) c.requires.goes_on.0 c.args.m.now) c.in-Coact.is c.requires.goes_on.1))

pub coret-requires-clause-operand : goal.coret-requires-clause-operand
coret-requires-clause-operand g c =
    coret_operand (extent c.args.m.now) (tables_of c.args.code.now) (stack_of c.args.m.now)
    (store_seen (tables_of c.args.code.now) c.requires.goes_on.0 c.args.m.now)
    (lacks_as (extent c.args.m.now) (tables_of c.args.code.now) c.args.instr Instrs.Coret (stack_of c.args.m.now)
    (store_seen (tables_of c.args.code.now) c.requires.goes_on.0 c.args.m.now) c.in-Coret.is c.requires.goes_on.1)

pub coret-requires-clause-base : goal.coret-requires-clause-base
coret-requires-clause-base g c =
    (coret_body (extent c.args.m.now) (tables_of c.args.code.now) (stack_of c.args.m.now)
    (store_seen (tables_of c.args.code.now) c.requires.goes_on.0 c.args.m.now)
    (lacks_as (extent c.args.m.now) (tables_of c.args.code.now) c.args.instr Instrs.Coret (stack_of c.args.m.now)
    (store_seen (tables_of c.args.code.now) c.requires.goes_on.0 c.args.m.now) c.in-Coret.is c.requires.goes_on.1)).0

pub coret-requires-clause-other : goal.coret-requires-clause-other
coret-requires-clause-other g c =
    (coret_body (extent c.args.m.now) (tables_of c.args.code.now) (stack_of c.args.m.now)
    (store_seen (tables_of c.args.code.now) c.requires.goes_on.0 c.args.m.now)
    (lacks_as (extent c.args.m.now) (tables_of c.args.code.now) c.args.instr Instrs.Coret (stack_of c.args.m.now)
    (store_seen (tables_of c.args.code.now) c.requires.goes_on.0 c.args.m.now) c.in-Coret.is c.requires.goes_on.1)).1

pub exhaust-requires-clause-other : goal.exhaust-requires-clause-other
exhaust-requires-clause-other g c =
    (cofail_body (extent c.args.m.now) (tables_of c.args.code.now) (stack_of c.args.m.now)
    (store_seen (tables_of c.args.code.now) c.requires.goes_on.0 c.args.m.now)
    (lacks_as (extent c.args.m.now) (tables_of c.args.code.now) c.args.instr Instrs.Cofail (stack_of c.args.m.now)
    (store_seen (tables_of c.args.code.now) c.requires.goes_on.0 c.args.m.now) c.in-Cofail.is c.requires.goes_on.1)).1

pub exhaust-requires-clause-bounds : goal.exhaust-requires-clause-bounds
exhaust-requires-clause-bounds g c =
    c.requires.sound.bounds

pub refresh-requires-clause-operand : goal.refresh-requires-clause-operand
refresh-requires-clause-operand g c =
    let is : c.args.instr ≡ Instrs.Op Ops.Refresh = c.in-Op.is ∙ ap Instrs.Op
    (op_refreshes c.in-Op.field-0 (ap group_of (sym c.in-Op.is) ∙ c.requires.group)) in
    one_there (stack_of c.args.m.now)
    (take_there (extent c.args.m.now) 1 (stack_of c.args.m.now) _
    (lacks_as (extent c.args.m.now) (tables_of c.args.code.now) c.args.instr (Instrs.Op Ops.Refresh) (stack_of c.args.m.now)
    (store_seen (tables_of c.args.code.now) c.requires.goes_on.0 c.args.m.now) is c.requires.goes_on.1))

pub unreachable-requires : goal.unreachable-requires
unreachable-requires g c =
    no_other_coexpression c.args.instr c.requires.group c.in_default.not-Create c.in_default.not-Coact c.in_default.not-Coret c.in_default.not-Cofail
    c.in_default.not-Op

pub returns-in-Create-clause-step : goal.returns-in-Create-clause-step
returns-in-Create-clause-step g c =
    λ outside. comes_to_as (tables_of c.args.code.now) outside c.args.instr (Instrs.Create c.in-Create.label) c.args.m.now c.create.new.m c.create.result
    c.in-Create.is (c.create.ensures.step (tables_of c.args.code.now) outside)

pub returns-in-Create-clause-no_memory : goal.returns-in-Create-clause-no_memory
returns-in-Create-clause-no_memory g c =
    λ e. absurd (may_take c.args.instr (Instrs.Create c.in-Create.label) c.in-Create.is refl e)

pub returns-in-Coact-clause-step : goal.returns-in-Coact-clause-step
returns-in-Coact-clause-step g c =
    λ outside. comes_to_as (tables_of c.args.code.now) outside c.args.instr Instrs.Coact c.args.m.now c.coact.new.m c.coact.result c.in-Coact.is
    (c.coact.ensures.step (tables_of c.args.code.now) outside)

pub returns-in-Coact-clause-no_memory : goal.returns-in-Coact-clause-no_memory
returns-in-Coact-clause-no_memory g c =
    λ e. absurd (may_take c.args.instr Instrs.Coact c.in-Coact.is refl e)

pub returns-in-Coret-clause-step : goal.returns-in-Coret-clause-step
returns-in-Coret-clause-step g c =
    λ outside. comes_to_as (tables_of c.args.code.now) outside c.args.instr Instrs.Coret c.args.m.now c.coret.new.m c.coret.result c.in-Coret.is
    (c.coret.ensures.step (tables_of c.args.code.now) outside)

pub returns-in-Coret-clause-no_memory : goal.returns-in-Coret-clause-no_memory
returns-in-Coret-clause-no_memory g c =
    λ e. absurd (may_take c.args.instr Instrs.Coret c.in-Coret.is refl e)

pub returns-in-Create-clause-sound : goal.returns-in-Create-clause-sound
returns-in-Create-clause-sound g c =
    c.create.ensures.keeps.sound (tables_of c.args.code.now) c.requires.sound

pub returns-in-Create-clause-halt : goal.returns-in-Create-clause-halt
returns-in-Create-clause-halt g c =
    c.create.ensures.keeps.halt

pub returns-in-Create-clause-limits : goal.returns-in-Create-clause-limits
returns-in-Create-clause-limits g c =
    c.create.ensures.keeps.limits

pub returns-in-Coact-clause-sound : goal.returns-in-Coact-clause-sound
returns-in-Coact-clause-sound g c =
    c.coact.ensures.keeps.sound (tables_of c.args.code.now) c.requires.sound

pub returns-in-Coact-clause-halt : goal.returns-in-Coact-clause-halt
returns-in-Coact-clause-halt g c =
    c.coact.ensures.keeps.halt

pub returns-in-Coact-clause-limits : goal.returns-in-Coact-clause-limits
returns-in-Coact-clause-limits g c =
    c.coact.ensures.keeps.limits

pub returns-in-Coret-clause-sound : goal.returns-in-Coret-clause-sound
returns-in-Coret-clause-sound g c =
    c.coret.ensures.keeps.sound (tables_of c.args.code.now) c.requires.sound

pub returns-in-Coret-clause-halt : goal.returns-in-Coret-clause-halt
returns-in-Coret-clause-halt g c =
    c.coret.ensures.keeps.halt

pub returns-in-Coret-clause-limits : goal.returns-in-Coret-clause-limits
returns-in-Coret-clause-limits g c =
    c.coret.ensures.keeps.limits

pub returns-in-Op-clause-sound : goal.returns-in-Op-clause-sound
returns-in-Op-clause-sound g c =
    c.refresh.ensures.keeps.sound (tables_of c.args.code.now) c.requires.sound

pub returns-in-Op-clause-halt : goal.returns-in-Op-clause-halt
returns-in-Op-clause-halt g c =
    c.refresh.ensures.keeps.halt

pub returns-in-Op-clause-limits : goal.returns-in-Op-clause-limits
returns-in-Op-clause-limits g c =
    c.refresh.ensures.keeps.limits

pub returns-in-Op-clause-step : goal.returns-in-Op-clause-step
returns-in-Op-clause-step g c =
    let is : c.args.instr ≡ Instrs.Op Ops.Refresh = c.in-Op.is ∙ ap Instrs.Op
    (op_refreshes c.in-Op.field-0 (ap group_of (sym c.in-Op.is) ∙ c.requires.group)) in
    λ outside. comes_to_as (tables_of c.args.code.now) outside c.args.instr (Instrs.Op Ops.Refresh) c.args.m.now c.refresh.new.m c.refresh.result is
    (c.refresh.ensures.step (tables_of c.args.code.now) outside)

pub returns-in-Op-clause-no_memory : goal.returns-in-Op-clause-no_memory
returns-in-Op-clause-no_memory g c =
    λ e. absurd (may_take c.args.instr (Instrs.Op c.in-Op.field-0) c.in-Op.is refl e)

pub returns-in-Cofail-clause-step : goal.returns-in-Cofail-clause-step
returns-in-Cofail-clause-step g c =
    let body = cofail_body (extent c.args.m.now) (tables_of c.args.code.now) (stack_of c.args.m.now)
    (store_seen (tables_of c.args.code.now) c.requires.goes_on.0 c.args.m.now)
    (lacks_as (extent c.args.m.now) (tables_of c.args.code.now) c.args.instr Instrs.Cofail (stack_of c.args.m.now)
    (store_seen (tables_of c.args.code.now) c.requires.goes_on.0 c.args.m.now) c.in-Cofail.is c.requires.goes_on.1) in
    λ outside. comes_to_as (tables_of c.args.code.now) outside c.args.instr Instrs.Cofail c.args.m.now c.exhaust.new.m (Ok c.exhaust.result) c.in-Cofail.is
    (subst (λ (s : State Frames Frames). StandsAt (tables_of c.args.code.now) outside s c.exhaust.new.m c.exhaust.result)
    (sym (cofail_is (extent c.args.m.now) (tables_of c.args.code.now) (stack_of c.args.m.now)
    (store_seen (tables_of c.args.code.now) outside c.args.m.now) body.0 body.1)) (c.exhaust.ensures.step (tables_of c.args.code.now) outside))

pub returns-in-Cofail-clause-sound : goal.returns-in-Cofail-clause-sound
returns-in-Cofail-clause-sound g c =
    c.exhaust.ensures.keeps.sound (tables_of c.args.code.now) c.requires.sound

pub returns-in-Cofail-clause-limits : goal.returns-in-Cofail-clause-limits
returns-in-Cofail-clause-limits g c =
    c.exhaust.ensures.keeps.limits

pub returns-in-Cofail-clause-no_memory : goal.returns-in-Cofail-clause-no_memory
returns-in-Cofail-clause-no_memory g c =
    λ e. ok_has_memory c.exhaust.result

pub returns-in-Create-clause-stack : goal.returns-in-Create-clause-stack
returns-in-Create-clause-stack g c = c.create.ensures.keeps.stack

pub returns-in-Coact-clause-stack : goal.returns-in-Coact-clause-stack
returns-in-Coact-clause-stack g c = c.coact.ensures.keeps.stack

pub returns-in-Coret-clause-stack : goal.returns-in-Coret-clause-stack
returns-in-Coret-clause-stack g c = c.coret.ensures.keeps.stack

pub returns-in-Cofail-clause-stack : goal.returns-in-Cofail-clause-stack
returns-in-Cofail-clause-stack g c = c.exhaust.ensures.keeps.stack

pub returns-in-Op-clause-stack : goal.returns-in-Op-clause-stack
returns-in-Op-clause-stack g c = c.refresh.ensures.keeps.stack
