use Rattle.std.proofs.Common.{◌∙◌}
use Rattle.icn_code.specs.CodeTables.{tables_of}
use Rattle.icn_machine.specs.declared.at_once.AtOnce.TheVariants as AtOnces
use Rattle.icn_machine.proofs.AtOnceAnswers.{finished, finished_memory, off_alike, ready_alike_done}
use Rattle.icn_machine.proofs.stepping.step.Goals as goal

pub step_at_once-done-requires : goal.step_at_once-done-requires
step_at_once-done-requires g c = c.requires.ready

pub finish_step-requires-clause-ready : goal.finish_step-requires-clause-ready
finish_step-requires-clause-ready g c =
    ready_alike_done (tables_of c.args.code.now.code) c.args.m.now c.step_at_once-done.new.m c.step_at_once-done.result c.requires.ready
    c.step_at_once-done.ensures

pub finish_step-requires-clause-off_stack : goal.finish_step-requires-clause-off_stack
finish_step-requires-clause-off_stack g c q instr at =
    off_alike (tables_of c.args.code.now.code) c.args.m.now c.step_at_once-done.new.m c.step_at_once-done.result c.step_at_once-done.ensures q instr at

pub returns-clause-steps : goal.returns-clause-steps
returns-clause-steps g c =
    finished (tables_of c.args.code.now.code) c.args.m.now _ c.step_at_once-done.new.m c.finish_step.new.m _ c.finish_step.result c.step_at_once-done.result
    c.step_at_once-done.ensures c.finish_step.ensures.steps

pub returns-clause-ready : goal.returns-clause-ready
returns-clause-ready g c = c.finish_step.ensures.ready

pub returns-clause-no_memory : goal.returns-clause-no_memory
returns-clause-no_memory g c instr at whole =
    finished_memory (tables_of c.args.code.now.code) c.args.m.now _ c.step_at_once-done.new.m c.finish_step.new.m _ c.finish_step.result
    c.step_at_once-done.result c.step_at_once-done.ensures c.finish_step.ensures.steps instr at whole c.finish_step.ensures.no_memory

pub returns-clause-within : goal.returns-clause-within
returns-clause-within g c = record {
  halt = c.finish_step.ensures.within.halt;
  limits = c.finish_step.ensures.within.limits ∙ c.step_at_once-done.ensures.limits;
}
