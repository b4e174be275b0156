use Rattle.std.proofs.Common.{refl, subst, sym}
use Rattle.icn_code.specs.CodeTables.{tables_of}
use Rattle.icn_code.specs.declared.instr.Instr.{Instr}
use Rattle.icn_machine.specs.AnsweredAtOnce.{DoneAtOnce}
use Rattle.icn_machine.specs.Stepping.{IsDoing}
use Rattle.icn_machine.proofs.at_once.do_at_once.Goals as goal

pub stack_at_once-requires-clause-firsts : goal.stack_at_once-requires-clause-firsts
stack_at_once-requires-clause-firsts g c = c.requires.firsts

pub stack_at_once-requires-clause-group : goal.stack_at_once-requires-clause-group
stack_at_once-requires-clause-group g c = c.is_on_stack.ensures.on c.if-is_on_stack.true

pub stack_at_once-requires-clause-doing : goal.stack_at_once-requires-clause-doing
stack_at_once-requires-clause-doing g c = c.requires.doing

pub returns-then-is_on_stack : goal.returns-then-is_on_stack
returns-then-is_on_stack g c = c.stack_at_once.ensures

pub op_at_once-requires-clause-is : goal.op_at_once-requires-clause-is
op_at_once-requires-clause-is g c = refl

pub op_at_once-requires-clause-doing : goal.op_at_once-requires-clause-doing
op_at_once-requires-clause-doing g c = subst (λ (i : Instr). IsDoing (tables_of c.args.code.now) c.args.m.now i) c.in-Op.is c.requires.doing

pub returns-in-Op : goal.returns-in-Op
returns-in-Op g c =
    subst (λ (i : Instr). DoneAtOnce (tables_of c.args.code.now) i c.args.m.now c.op_at_once.new.m c.op_at_once.result) (sym c.in-Op.is)
    c.op_at_once.ensures

pub invoke_at_once-requires-clause-is : goal.invoke_at_once-requires-clause-is
invoke_at_once-requires-clause-is g c = refl

pub invoke_at_once-requires-clause-doing : goal.invoke_at_once-requires-clause-doing
invoke_at_once-requires-clause-doing g c = subst (λ (i : Instr). IsDoing (tables_of c.args.code.now) c.args.m.now i) c.in-Invoke.is c.requires.doing

pub returns-in-Invoke : goal.returns-in-Invoke
returns-in-Invoke g c =
    subst (λ (i : Instr). DoneAtOnce (tables_of c.args.code.now) i c.args.m.now c.invoke_at_once.new.m c.invoke_at_once.result) (sym c.in-Invoke.is)
    c.invoke_at_once.ensures

pub unmark_at_once-requires-clause-is : goal.unmark_at_once-requires-clause-is
unmark_at_once-requires-clause-is g c = c.in-Unmark.is

pub unmark_at_once-requires-clause-doing : goal.unmark_at_once-requires-clause-doing
unmark_at_once-requires-clause-doing g c = c.requires.doing

pub returns-in-Unmark : goal.returns-in-Unmark
returns-in-Unmark g c = c.unmark_at_once.ensures

pub efail_at_once-requires-clause-is : goal.efail_at_once-requires-clause-is
efail_at_once-requires-clause-is g c = c.in-Efail.is

pub efail_at_once-requires-clause-doing : goal.efail_at_once-requires-clause-doing
efail_at_once-requires-clause-doing g c = c.requires.doing

pub returns-in-Efail : goal.returns-in-Efail
returns-in-Efail g c = c.efail_at_once.ensures

pub loop_at_once-requires-clause-is : goal.loop_at_once-requires-clause-is
loop_at_once-requires-clause-is g c = refl

pub loop_at_once-requires-clause-doing : goal.loop_at_once-requires-clause-doing
loop_at_once-requires-clause-doing g c = subst (λ (i : Instr). IsDoing (tables_of c.args.code.now) c.args.m.now i) c.in-Loop.is c.requires.doing

pub returns-in-Loop : goal.returns-in-Loop
returns-in-Loop g c =
    subst (λ (i : Instr). DoneAtOnce (tables_of c.args.code.now) i c.args.m.now c.loop_at_once.new.m c.loop_at_once.result) (sym c.in-Loop.is)
    c.loop_at_once.ensures

pub lsusp_at_once-requires-clause-is : goal.lsusp_at_once-requires-clause-is
lsusp_at_once-requires-clause-is g c = c.in-Lsusp.is

pub lsusp_at_once-requires-clause-doing : goal.lsusp_at_once-requires-clause-doing
lsusp_at_once-requires-clause-doing g c = c.requires.doing

pub returns-in-Lsusp : goal.returns-in-Lsusp
returns-in-Lsusp g c = c.lsusp_at_once.ensures

pub other_at_once-requires-clause-off_stack : goal.other_at_once-requires-clause-off_stack
other_at_once-requires-clause-off_stack g c = c.is_on_stack.ensures.off c.if-is_on_stack.false

pub other_at_once-requires-clause-doing : goal.other_at_once-requires-clause-doing
other_at_once-requires-clause-doing g c = c.requires.doing

pub returns-in_default : goal.returns-in_default
returns-in_default g c = c.other_at_once.ensures

pub string_at_once-requires-clause-is : goal.string_at_once-requires-clause-is
string_at_once-requires-clause-is g c = refl

pub string_at_once-requires-clause-doing : goal.string_at_once-requires-clause-doing
string_at_once-requires-clause-doing g c = subst (λ (i : Instr). IsDoing (tables_of c.args.code.now) c.args.m.now i) c.in-Str.is c.requires.doing

pub returns-in-Str : goal.returns-in-Str
returns-in-Str g c =
    subst (λ (i : Instr). DoneAtOnce (tables_of c.args.code.now) i c.args.m.now c.string_at_once.new.m c.string_at_once.result) (sym c.in-Str.is)
    c.string_at_once.ensures

pub keyword_at_once-requires-clause-is : goal.keyword_at_once-requires-clause-is
keyword_at_once-requires-clause-is g c = refl

pub keyword_at_once-requires-clause-doing : goal.keyword_at_once-requires-clause-doing
keyword_at_once-requires-clause-doing g c = subst (λ (i : Instr). IsDoing (tables_of c.args.code.now) c.args.m.now i) c.in-Keywd.is c.requires.doing

pub returns-in-Keywd : goal.returns-in-Keywd
returns-in-Keywd g c =
    subst (λ (i : Instr). DoneAtOnce (tables_of c.args.code.now) i c.args.m.now c.keyword_at_once.new.m c.keyword_at_once.result) (sym c.in-Keywd.is)
    c.keyword_at_once.ensures

pub scan_left_at_once-requires-clause-is : goal.scan_left_at_once-requires-clause-is
scan_left_at_once-requires-clause-is g c = c.in-Escan.is

pub scan_left_at_once-requires-clause-doing : goal.scan_left_at_once-requires-clause-doing
scan_left_at_once-requires-clause-doing g c = c.requires.doing

pub returns-in-Escan : goal.returns-in-Escan
returns-in-Escan g c = c.scan_left_at_once.ensures

pub scan_opened_at_once-requires-clause-is : goal.scan_opened_at_once-requires-clause-is
scan_opened_at_once-requires-clause-is g c = c.in-Bscan.is

pub scan_opened_at_once-requires-clause-doing : goal.scan_opened_at_once-requires-clause-doing
scan_opened_at_once-requires-clause-doing g c = c.requires.doing

pub returns-in-Bscan : goal.returns-in-Bscan
returns-in-Bscan g c = c.scan_opened_at_once.ensures
