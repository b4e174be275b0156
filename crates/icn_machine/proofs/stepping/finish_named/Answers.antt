use Rattle.std.proofs.Common.{Err, Ok, refl, rules}
use Rattle.icn_vars.specs.declared.outcome.Halt.TheVariants.{NoMemory}
use Rattle.icn_code.specs.CodeTables.{tables_of}
use Rattle.icn_machine.specs.declared.at_once.AtOnce.TheVariants as AtOnces
use Rattle.icn_machine.specs.declared.stepping.AfterStep.TheVariants as AfterSteps
use Rattle.icn_machine.proofs.AtOnceAnswers.{finishes_as, other_done, ready_stopped}
use Rattle.icn_machine.proofs.stepping.finish_named.Goals as goal

pub returns-in-Running-clause-steps : goal.returns-in-Running-clause-steps
returns-in-Running-clause-steps g c =
    finishes_as (tables_of c.args.code.now) c.args.m.now _ c.args.m.now _ (Ok AfterSteps.Running) c.args.done AtOnces.Running c.in-Running.is
    (refl, (refl, refl))

pub returns-in-Running-clause-ready : goal.returns-in-Running-clause-ready
returns-in-Running-clause-ready g c = ready_stopped (tables_of c.args.code.now) c.args.m.now c.args.done AtOnces.Running c.in-Running.is c.requires.ready

pub returns-in-Running-clause-no_memory : goal.returns-in-Running-clause-no_memory
returns-in-Running-clause-no_memory g c q instr at whole = λ e. absurd (cc)

pub returns-in-Running-clause-within : goal.returns-in-Running-clause-within
returns-in-Running-clause-within g c = record { halt = search rules; limits = refl }

pub fail_to_next-requires-clause-known : goal.fail_to_next-requires-clause-known
fail_to_next-requires-clause-known g c = c.requires.known

pub fail_to_next-requires-clause-ready : goal.fail_to_next-requires-clause-ready
fail_to_next-requires-clause-ready g c =
    ready_stopped (tables_of c.args.code.now) c.args.m.now c.args.done AtOnces.Failing c.in-Failing.is c.requires.ready

pub returns-in-Failing-clause-steps : goal.returns-in-Failing-clause-steps
returns-in-Failing-clause-steps g c =
    finishes_as (tables_of c.args.code.now) c.args.m.now _ c.fail_to_next.new.m _ _ c.args.done AtOnces.Failing c.in-Failing.is c.fail_to_next.ensures.steps

pub returns-in-Failing-clause-ready : goal.returns-in-Failing-clause-ready
returns-in-Failing-clause-ready g c = c.fail_to_next.ensures.ready

pub returns-in-Failing-clause-no_memory : goal.returns-in-Failing-clause-no_memory
returns-in-Failing-clause-no_memory g c q instr at whole = other_done c.args.done AtOnces.Failing refl c.in-Failing.is q

pub returns-in-Failing-clause-within : goal.returns-in-Failing-clause-within
returns-in-Failing-clause-within g c = c.fail_to_next.ensures.within

pub fail_to_next-requires-in-Hopping-clause-known : goal.fail_to_next-requires-in-Hopping-clause-known
fail_to_next-requires-in-Hopping-clause-known g c = c.requires.known

pub fail_to_next-requires-in-Hopping-clause-ready : goal.fail_to_next-requires-in-Hopping-clause-ready
fail_to_next-requires-in-Hopping-clause-ready g c =
    ready_stopped (tables_of c.args.code.now) c.args.m.now c.args.done AtOnces.Hopping c.in-Hopping.is c.requires.ready

pub returns-in-Hopping-clause-steps : goal.returns-in-Hopping-clause-steps
returns-in-Hopping-clause-steps g c =
    finishes_as (tables_of c.args.code.now) c.args.m.now _ c.fail_to_next-in-Hopping.new.m _ _ c.args.done AtOnces.Hopping c.in-Hopping.is
    c.fail_to_next-in-Hopping.ensures.steps

pub returns-in-Hopping-clause-ready : goal.returns-in-Hopping-clause-ready
returns-in-Hopping-clause-ready g c = c.fail_to_next-in-Hopping.ensures.ready

pub returns-in-Hopping-clause-no_memory : goal.returns-in-Hopping-clause-no_memory
returns-in-Hopping-clause-no_memory g c q instr at whole = other_done c.args.done AtOnces.Hopping refl c.in-Hopping.is q

pub returns-in-Hopping-clause-within : goal.returns-in-Hopping-clause-within
returns-in-Hopping-clause-within g c = c.fail_to_next-in-Hopping.ensures.within

pub returns-in-Over-clause-steps : goal.returns-in-Over-clause-steps
returns-in-Over-clause-steps g c =
    finishes_as (tables_of c.args.code.now) c.args.m.now _ c.args.m.now _ (Ok AfterSteps.Over) c.args.done AtOnces.Over c.in-Over.is (refl, (refl, refl))

pub returns-in-Over-clause-ready : goal.returns-in-Over-clause-ready
returns-in-Over-clause-ready g c = ready_stopped (tables_of c.args.code.now) c.args.m.now c.args.done AtOnces.Over c.in-Over.is c.requires.ready

pub returns-in-Over-clause-no_memory : goal.returns-in-Over-clause-no_memory
returns-in-Over-clause-no_memory g c q instr at whole = λ e. absurd (cc)

pub returns-in-Over-clause-within : goal.returns-in-Over-clause-within
returns-in-Over-clause-within g c = record { halt = search rules; limits = refl }

pub returns-in-AtBound-clause-steps : goal.returns-in-AtBound-clause-steps
returns-in-AtBound-clause-steps g c =
    finishes_as (tables_of c.args.code.now) c.args.m.now _ c.args.m.now _ (Ok AfterSteps.AtBound) c.args.done AtOnces.AtBound c.in-AtBound.is
    (refl, (refl, refl))

pub returns-in-AtBound-clause-ready : goal.returns-in-AtBound-clause-ready
returns-in-AtBound-clause-ready g c = ready_stopped (tables_of c.args.code.now) c.args.m.now c.args.done AtOnces.AtBound c.in-AtBound.is c.requires.ready

pub returns-in-AtBound-clause-no_memory : goal.returns-in-AtBound-clause-no_memory
returns-in-AtBound-clause-no_memory g c q instr at whole = λ e. absurd (cc)

pub returns-in-AtBound-clause-within : goal.returns-in-AtBound-clause-within
returns-in-AtBound-clause-within g c = record { halt = search rules; limits = refl }

pub returns-in-NoMemory-clause-steps : goal.returns-in-NoMemory-clause-steps
returns-in-NoMemory-clause-steps g c =
    finishes_as (tables_of c.args.code.now) c.args.m.now _ c.args.m.now _ (Err NoMemory) c.args.done AtOnces.NoMemory c.in-NoMemory.is (refl, (refl, refl))

pub returns-in-NoMemory-clause-no_memory : goal.returns-in-NoMemory-clause-no_memory
returns-in-NoMemory-clause-no_memory g c q instr at whole = other_done c.args.done AtOnces.NoMemory refl c.in-NoMemory.is q

pub returns-in-NoMemory-clause-within : goal.returns-in-NoMemory-clause-within
returns-in-NoMemory-clause-within g c = record { halt = search rules; limits = refl }

pub step_named-requires-clause-known : goal.step_named-requires-clause-known
step_named-requires-clause-known g c = c.requires.known

pub step_named-requires-clause-off_stack : goal.step_named-requires-clause-off_stack
step_named-requires-clause-off_stack g c = c.requires.off_stack c.in-Not.is

pub step_named-requires-clause-ready : goal.step_named-requires-clause-ready
step_named-requires-clause-ready g c = ready_stopped (tables_of c.args.code.now) c.args.m.now c.args.done AtOnces.Not c.in-Not.is c.requires.ready

pub returns-in-Not-clause-steps : goal.returns-in-Not-clause-steps
returns-in-Not-clause-steps g c =
    finishes_as (tables_of c.args.code.now) c.args.m.now _ c.step_named.new.m _ _ c.args.done AtOnces.Not c.in-Not.is c.step_named.ensures.steps

pub returns-in-Not-clause-ready : goal.returns-in-Not-clause-ready
returns-in-Not-clause-ready g c = c.step_named.ensures.ready

pub returns-in-Not-clause-no_memory : goal.returns-in-Not-clause-no_memory
returns-in-Not-clause-no_memory g c q instr at whole = c.step_named.ensures.no_memory instr at whole

pub returns-in-Not-clause-within : goal.returns-in-Not-clause-within
returns-in-Not-clause-within g c = c.step_named.ensures.within
