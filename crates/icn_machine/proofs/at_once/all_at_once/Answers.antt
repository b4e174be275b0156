use Rattle.std.proofs.Common.{◌∙◌, subst, sym}
use Rattle.icn_code.specs.CodeTables.{tables_of}
use Rattle.icn_machine.specs.declared.at_once.AtOnce.{AtOnce}
use Rattle.icn_machine.specs.AnsweredAtOnce.{StepsAtOnce}
use Rattle.icn_machine.proofs.AtOnceAnswers.{failing_is, stepped_failing}
use Rattle.icn_machine.proofs.at_once.all_at_once.Goals as goal

pub due_at_once-done-requires-clause-firsts : goal.due_at_once-done-requires-clause-firsts
due_at_once-done-requires-clause-firsts g c = c.requires.firsts

pub due_at_once-done-requires-clause-ready : goal.due_at_once-done-requires-clause-ready
due_at_once-done-requires-clause-ready g c = c.requires.ready

pub fail_through_at_once-requires : goal.fail_through_at_once-requires
fail_through_at_once-requires g c =
    let t = tables_of c.args.code.now in
    let fails = failing_is c.due_at_once-done.result (sym c.fails_at_once.ensures ∙ c.if-fails_at_once.true) in
    (t, (subst (λ (d : AtOnce). StepsAtOnce t c.args.m.now c.due_at_once-done.new.m d) fails c.due_at_once-done.ensures).ready)

pub returns-then-fails_at_once : goal.returns-then-fails_at_once
returns-then-fails_at_once g c =
    let t = tables_of c.args.code.now in
    let fails = failing_is c.due_at_once-done.result (sym c.fails_at_once.ensures ∙ c.if-fails_at_once.true) in
    let due = subst (λ (d : AtOnce). StepsAtOnce t c.args.m.now c.due_at_once-done.new.m d) fails c.due_at_once-done.ensures in
    stepped_failing t c.args.m.now c.due_at_once-done.new.m c.fail_through_at_once.new.m c.fail_through_at_once.result due
    (c.fail_through_at_once.ensures t due.ready)

pub returns : goal.returns
returns g c = c.due_at_once-done.ensures
