use Rattle.std.proofs.Common.{[]}
use Rattle.icn_value.specs.Store.{bare_outside}
use Rattle.icn_code.specs.CodeTables.{tables_of}
use Rattle.icn_control.specs.Machines.{does}
use Rattle.icn_machine.proofs.DoingSteps.{whole_done}
use Rattle.icn_machine.proofs.NextSteps.{applied_kind, calls_none, comes_quietly, done_keeps, erring_after, ready_after}
use Rattle.icn_machine.proofs.stepping.do_plain.Goals as goal

pub do_off_stack-requires-clause-kind : goal.do_off_stack-requires-clause-kind
do_off_stack-requires-clause-kind g c = applied_kind c.args.instr c.requires.applied

pub do_off_stack-requires-clause-off_stack : goal.do_off_stack-requires-clause-off_stack
do_off_stack-requires-clause-off_stack g c = c.requires.off_stack

pub do_off_stack-requires-clause-runs : goal.do_off_stack-requires-clause-runs
do_off_stack-requires-clause-runs g c = c.requires.doing.runs

pub do_off_stack-requires-clause-sound : goal.do_off_stack-requires-clause-sound
do_off_stack-requires-clause-sound g c = c.requires.doing.sound

pub do_off_stack-requires-clause-goes_on : goal.do_off_stack-requires-clause-goes_on
do_off_stack-requires-clause-goes_on g c = (bare_outside, (c.requires.doing.always bare_outside []).goes_on)

pub do_off_stack-requires-clause-in_range : goal.do_off_stack-requires-clause-in_range
do_off_stack-requires-clause-in_range g c = c.requires.doing.in_range

pub do_off_stack-requires-clause-case_mark : goal.do_off_stack-requires-clause-case_mark
do_off_stack-requires-clause-case_mark g c = c.requires.doing.mark

pub do_off_stack-requires-clause-variables : goal.do_off_stack-requires-clause-variables
do_off_stack-requires-clause-variables g c = (bare_outside, c.requires.doing.variables bare_outside)

pub returns-clause-step : goal.returns-clause-step
returns-clause-step g c = c.do_off_stack.ensures.step

pub returns-clause-ready : goal.returns-clause-ready
returns-clause-ready g c =
    ready_after (tables_of c.args.code.now) (λ o. does (tables_of c.args.code.now) o c.args.instr c.args.m.now) c.do_off_stack.new.m c.do_off_stack.result
    (done_keeps (tables_of c.args.code.now) c.steps_keep_names.ensures.kept c.steps_keep_sizes.ensures.kept c.args.m.now c.do_off_stack.new.m
    c.args.instr c.do_off_stack.result (calls_none c.args.instr c.requires.applied) c.requires.doing)
    (comes_quietly (tables_of c.args.code.now) (λ o. does (tables_of c.args.code.now) o c.args.instr c.args.m.now) c.do_off_stack.new.m
    c.do_off_stack.result c.do_off_stack.ensures.step)
    c.do_off_stack.ensures.sound c.do_off_stack.ensures.stack

pub returns-clause-erring : goal.returns-clause-erring
returns-clause-erring g c =
    erring_after (tables_of c.args.code.now) (λ o. does (tables_of c.args.code.now) o c.args.instr c.args.m.now) c.do_off_stack.new.m c.do_off_stack.result
    (done_keeps (tables_of c.args.code.now) c.steps_keep_names.ensures.kept c.steps_keep_sizes.ensures.kept c.args.m.now c.do_off_stack.new.m
    c.args.instr c.do_off_stack.result (calls_none c.args.instr c.requires.applied) c.requires.doing)
    (comes_quietly (tables_of c.args.code.now) (λ o. does (tables_of c.args.code.now) o c.args.instr c.args.m.now) c.do_off_stack.new.m
    c.do_off_stack.result c.do_off_stack.ensures.step)
    c.do_off_stack.ensures.sound c.do_off_stack.ensures.stack

pub returns-clause-whole : goal.returns-clause-whole
returns-clause-whole g c whole =
    whole_done (tables_of c.args.code.now) c.args.m.now c.do_off_stack.new.m c.args.instr c.do_off_stack.result whole c.do_off_stack.ensures.step
    c.do_off_stack.ensures.no_memory

pub returns-clause-within : goal.returns-clause-within
returns-clause-within g c = record {
  halt = c.do_off_stack.ensures.halt;
  limits = c.do_off_stack.ensures.limits;
}
