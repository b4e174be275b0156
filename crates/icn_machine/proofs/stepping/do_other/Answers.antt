use Rattle.std.proofs.Common.{◌∙◌, sym}
use Rattle.icn_code.specs.CodeTables.{tables_of}
use Rattle.icn_control.specs.Machines.{does}
use Rattle.icn_machine.proofs.PerformEvents.{comes_performs}
use Rattle.icn_machine.proofs.NextSteps.{whole_applies_none}
use Rattle.icn_machine.proofs.SettleSteps.{ready_known, settled_ready, settled_whole, settles_on}
use Rattle.icn_machine.proofs.stepping.do_other.Goals as goal

pub do_applied-answer-requires-clause-applied : goal.do_applied-answer-requires-clause-applied
do_applied-answer-requires-clause-applied g c = sym c.is_applied.ensures ∙ c.if-is_applied.true

pub do_applied-answer-requires-clause-known : goal.do_applied-answer-requires-clause-known
do_applied-answer-requires-clause-known g c = c.requires.known

pub do_applied-answer-requires-clause-doing : goal.do_applied-answer-requires-clause-doing
do_applied-answer-requires-clause-doing g c = c.requires.doing

pub settle-requires-clause-halt : goal.settle-requires-clause-halt
settle-requires-clause-halt g c = c.do_applied-answer.ensures.within.halt

pub settle-requires-clause-known : goal.settle-requires-clause-known
settle-requires-clause-known g c =
    ready_known (tables_of c.args.code.now) c.do_applied-answer.new.m c.do_applied-answer.result c.do_applied-answer.ensures.erring

pub returns-then-is_applied-clause-step : goal.returns-then-is_applied-clause-step
returns-then-is_applied-clause-step g c =
    settles_on (tables_of c.args.code.now)
    (λ o. does (tables_of c.args.code.now) o c.args.instr c.args.m.now) c.do_applied-answer.new.m c.settle.new.m _ _ c.do_applied-answer.result c.settle.result
    (c.settle.ensures.step (tables_of c.args.code.now)) c.settle.ensures.same
    c.do_applied-answer.ensures.step

pub returns-then-is_applied-clause-ready : goal.returns-then-is_applied-clause-ready
returns-then-is_applied-clause-ready g c =
    settled_ready
    (tables_of c.args.code.now) c.do_applied-answer.new.m c.settle.new.m c.do_applied-answer.result c.settle.result c.do_applied-answer.ensures.ready
    c.do_applied-answer.ensures.erring (c.settle.ensures.step (tables_of c.args.code.now))
    (c.settle.ensures.sound (tables_of c.args.code.now)) c.settle.ensures.stack
    c.settle.ensures.same

pub returns-then-is_applied-clause-whole : goal.returns-then-is_applied-clause-whole
returns-then-is_applied-clause-whole g c whole = absurd (whole_applies_none c.args.instr whole (sym c.is_applied.ensures ∙ c.if-is_applied.true))

pub returns-then-is_applied-clause-within : goal.returns-then-is_applied-clause-within
returns-then-is_applied-clause-within g c = record {
  halt = c.settle.ensures.within.halt;
  limits = c.settle.ensures.within.limits ∙ c.do_applied-answer.ensures.within.limits;
}

pub do_plain-answer-requires-clause-off_stack : goal.do_plain-answer-requires-clause-off_stack
do_plain-answer-requires-clause-off_stack g c = c.requires.off_stack

pub do_plain-answer-requires-clause-applied : goal.do_plain-answer-requires-clause-applied
do_plain-answer-requires-clause-applied g c = sym c.is_applied.ensures ∙ c.if-is_applied.false

pub do_plain-answer-requires-clause-doing : goal.do_plain-answer-requires-clause-doing
do_plain-answer-requires-clause-doing g c = c.requires.doing

pub settle-requires-2-clause-halt : goal.settle-requires-2-clause-halt
settle-requires-2-clause-halt g c = c.do_plain-answer.ensures.within.halt

pub settle-requires-2-clause-known : goal.settle-requires-2-clause-known
settle-requires-2-clause-known g c = ready_known (tables_of c.args.code.now) c.do_plain-answer.new.m c.do_plain-answer.result c.do_plain-answer.ensures.erring

pub returns-clause-step : goal.returns-clause-step
returns-clause-step g c =
    settles_on (tables_of c.args.code.now)
    (λ o. does (tables_of c.args.code.now) o c.args.instr c.args.m.now) c.do_plain-answer.new.m c.settle-2.new.m _ _ c.do_plain-answer.result c.settle-2.result
    (c.settle-2.ensures.step (tables_of c.args.code.now)) c.settle-2.ensures.same
    (comes_performs (tables_of c.args.code.now)
    (λ o. does (tables_of c.args.code.now) o c.args.instr c.args.m.now) c.do_plain-answer.new.m _ c.do_plain-answer.result c.do_plain-answer.ensures.step)

pub returns-clause-ready : goal.returns-clause-ready
returns-clause-ready g c =
    settled_ready
    (tables_of c.args.code.now) c.do_plain-answer.new.m c.settle-2.new.m c.do_plain-answer.result c.settle-2.result c.do_plain-answer.ensures.ready
    c.do_plain-answer.ensures.erring (c.settle-2.ensures.step (tables_of c.args.code.now))
    (c.settle-2.ensures.sound (tables_of c.args.code.now)) c.settle-2.ensures.stack
    c.settle-2.ensures.same

pub returns-clause-whole : goal.returns-clause-whole
returns-clause-whole g c whole =
    settled_whole c.do_plain-answer.new.m c.settle-2.new.m c.do_plain-answer.result c.settle-2.result c.settle-2.ensures.same (c.do_plain-answer.ensures.whole whole)

pub returns-clause-within : goal.returns-clause-within
returns-clause-within g c = record {
  halt = c.settle-2.ensures.within.halt;
  limits = c.settle-2.ensures.within.limits ∙ c.do_plain-answer.ensures.within.limits;
}
