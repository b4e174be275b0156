use Rattle.std.proofs.Common.{[], Err, refl}
use Rattle.icn_value.specs.Store.{bare_outside}
use Rattle.icn_vars.specs.declared.outcome.Halt.TheVariants.{NoMemory}
use Rattle.icn_code.specs.CodeTables.{tables_of}
use Rattle.icn_control.specs.declared.machine.RunState.TheVariants as RunStates
use Rattle.icn_instructions.proofs.ArmSteps.{error_is_not_ok}
use Rattle.icn_machine.specs.declared.at_once.AtOnce.TheVariants as AtOnces
use Rattle.icn_machine.proofs.AtOnceAnswers.{lacks_memory, stands_done}
use Rattle.icn_machine.proofs.DoingSteps.{whole_done}
use Rattle.icn_machine.proofs.NextSteps.{calls_none, stack_applies_none}
use Rattle.icn_machine.proofs.at_once.stack_at_once.Goals as goal

pub do_stack_instruction-requires-clause-group : goal.do_stack_instruction-requires-clause-group
do_stack_instruction-requires-clause-group g c = c.requires.group

pub do_stack_instruction-requires-clause-firsts : goal.do_stack_instruction-requires-clause-firsts
do_stack_instruction-requires-clause-firsts g c = c.requires.firsts

pub do_stack_instruction-requires-clause-runs : goal.do_stack_instruction-requires-clause-runs
do_stack_instruction-requires-clause-runs g c = c.requires.doing.runs

pub do_stack_instruction-requires-clause-sound : goal.do_stack_instruction-requires-clause-sound
do_stack_instruction-requires-clause-sound g c = c.requires.doing.sound

pub do_stack_instruction-requires-clause-goes_on : goal.do_stack_instruction-requires-clause-goes_on
do_stack_instruction-requires-clause-goes_on g c = (bare_outside, (c.requires.doing.always bare_outside []).goes_on)

pub do_stack_instruction-requires-clause-in_range : goal.do_stack_instruction-requires-clause-in_range
do_stack_instruction-requires-clause-in_range g c = c.requires.doing.in_range

pub do_stack_instruction-requires-clause-case_mark : goal.do_stack_instruction-requires-clause-case_mark
do_stack_instruction-requires-clause-case_mark g c = c.requires.doing.mark

pub do_stack_instruction-requires-clause-variables : goal.do_stack_instruction-requires-clause-variables
do_stack_instruction-requires-clause-variables g c = (bare_outside, c.requires.doing.variables bare_outside)

pub returns-in-Ok : goal.returns-in-Ok
returns-in-Ok g c =
    stands_done (tables_of c.args.code.now) c.steps_keep_names.ensures.kept c.steps_keep_sizes.ensures.kept c.args.m.now c.do_stack_instruction.new.m
    c.args.instr AtOnces.Running RunStates.Running refl (calls_none c.args.instr (stack_applies_none c.args.instr c.requires.group)) c.requires.doing
    c.in-Ok.ensures.step c.in-Ok.ensures.sound c.in-Ok.ensures.stack c.do_stack_instruction.ensures.limits

pub returns-in-Err : goal.returns-in-Err
returns-in-Err g c =
    let t = tables_of c.args.code.now in
    lacks_memory t c.args.m.now c.do_stack_instruction.new.m c.args.instr
    (λ w. whole_done t c.args.m.now c.do_stack_instruction.new.m c.args.instr (Err NoMemory) w (λ outside. tt)
    (λ e. absurd (error_is_not_ok (Unit {0}) c.in-Err.field-0 (c.in-Err.ensures.no_memory e)))) c.do_stack_instruction.ensures.limits
