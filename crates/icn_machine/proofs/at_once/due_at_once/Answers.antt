use Rattle.std.proofs.Common.{◌∙◌, ap, sym}
use Rattle.icn_code.specs.CodeTables.{tables_of}
use Rattle.icn_coexp.specs.Transfers.{CoexpTable}
use Rattle.icn_machine.proofs.AtOnceAnswers.{back_same, done_due, not_is, not_stepped}
use Rattle.icn_machine.proofs.at_once.due_at_once.Goals as goal

pub next_instr-instr-requires : goal.next_instr-instr-requires
next_instr-instr-requires g c = record { ready = c.requires.ready }

pub do_at_once-done-requires-clause-firsts : goal.do_at_once-done-requires-clause-firsts
do_at_once-done-requires-clause-firsts g c = c.requires.firsts

pub do_at_once-done-requires-clause-doing : goal.do_at_once-done-requires-clause-doing
do_at_once-done-requires-clause-doing g c = c.next_instr-instr.ensures.doing

pub step_back-requires : goal.step_back-requires
step_back-requires g c =
    let past = c.next_instr-instr.ensures.past in
    let same = c.do_at_once-done.ensures.not_done (not_is c.do_at_once-done.result (sym c.is_not.ensures ∙ c.if-is_not.true)) in
    (past.was, ap (λ (t : CoexpTable). t.running) (same.table ∙ past.table))

pub returns-then-is_not : goal.returns-then-is_not
returns-then-is_not g c =
    let past = c.next_instr-instr.ensures.past in
    let none = not_is c.do_at_once-done.result (sym c.is_not.ensures ∙ c.if-is_not.true) in
    let same = c.do_at_once-done.ensures.not_done none in
    not_stepped (tables_of c.args.code.now) c.args.m.now c.next_instr-instr.new.m c.step_back.new.m c.next_instr-instr.result
    c.next_instr-instr.ensures.instr
    (back_same c.args.m.now c.next_instr-instr.new.m c.do_at_once-done.new.m c.step_back.new.m past same
    (c.step_back.ensures.table past.was (ap (λ (t : CoexpTable). t.running) (same.table ∙ past.table))) c.step_back.ensures.world c.step_back.ensures.turns
    c.step_back.ensures.begun c.step_back.ensures.limits)
    (c.do_at_once-done.ensures.off_stack none)

pub returns : goal.returns
returns g c =
    done_due (tables_of c.args.code.now) c.args.m.now c.next_instr-instr.new.m c.do_at_once-done.new.m c.next_instr-instr.result c.do_at_once-done.result
    c.next_instr-instr.ensures.instr c.next_instr-instr.ensures.step c.next_instr-instr.ensures.limits (sym c.is_not.ensures ∙ c.if-is_not.false)
    c.do_at_once-done.ensures
