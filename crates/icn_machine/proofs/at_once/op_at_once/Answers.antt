use Rattle.std.proofs.Common.{◌≡◌, ◌∙◌, Option, Some, ap, false, refl, sym, true}
use Rattle.icn_code.specs.CodeTables.{tables_of}
use Rattle.icn_code.specs.declared.instr.Instr.TheVariants as Instrs
use Rattle.icn_control.specs.declared.machine.RunState.{RunState}
use Rattle.icn_instructions.specs.Groups.{group_of}
use Rattle.icn_machine.specs.Stepping.{is_whole}
use Rattle.icn_machine.proofs.AtOnceAnswers.{off_op, placed_done}
use Rattle.icn_machine.proofs.AtOnceSteps.{doing_alike, done_as, operation_ready}
use Rattle.icn_machine.proofs.DoingSteps.{calls_as}
use Rattle.icn_machine.proofs.NextSteps.{op_operands}
use Rattle.icn_machine.proofs.TurnSteps.{done_alike}
use Rattle.icn_machine.proofs.at_once.op_at_once.Goals as goal

pub operate_at_once-requires-clause-stands : goal.operate_at_once-requires-clause-stands
operate_at_once-requires-clause-stands g c = record { runs = c.requires.doing.runs; sound = ((tables_of c.args.code.now), c.requires.doing.sound) }

pub operate_at_once-requires-clause-operands : goal.operate_at_once-requires-clause-operands
operate_at_once-requires-clause-operands g c = op_operands (tables_of c.args.code.now) c.args.m.now c.args.instr c.args.op c.requires.is c.requires.doing

pub returns-in-Some : goal.returns-in-Some
returns-in-Some g c =
    let t = tables_of c.args.code.now in
    let r : Option RunState = Some c.in-Some.stage in
    let d = done_as t c.args.instr (Instrs.Op c.args.op) c.args.m.now c.operate_at_once.new.m r c.requires.is (c.in-Some.ensures t) in
    rw c.done_at.ensures
    (placed_done t c.args.m.now c.operate_at_once.new.m c.args.instr r d
    (operation_ready t c.steps_keep_names.ensures.kept c.steps_keep_sizes.ensures.kept c.args.m.now c.operate_at_once.new.m c.args.instr r
    (calls_as c.args.instr (Instrs.Op c.args.op) c.requires.is (λ h. h)) c.requires.doing d)
    (λ w. let bad : true ≡ false = sym w ∙ ap is_whole c.requires.is in absurd (cc)) (λ q. off_op c.args.op (sym (ap group_of c.requires.is) ∙ q)))

pub operation_at_once-requires-clause-is : goal.operation_at_once-requires-clause-is
operation_at_once-requires-clause-is g c = c.requires.is

pub operation_at_once-requires-clause-doing : goal.operation_at_once-requires-clause-doing
operation_at_once-requires-clause-doing g c =
    doing_alike c.args.m.now c.operate_at_once.new.m ((c.in-None.ensures (tables_of c.args.code.now)).not_done refl) (tables_of c.args.code.now) c.args.instr
    c.requires.doing

pub returns-in-None : goal.returns-in-None
returns-in-None g c =
    done_alike (tables_of c.args.code.now) c.args.m.now c.operate_at_once.new.m c.operation_at_once.new.m c.args.instr c.operation_at_once.result
    ((c.in-None.ensures (tables_of c.args.code.now)).not_done refl) c.operation_at_once.ensures

pub texts_at_once-requires-clause-is : goal.texts_at_once-requires-clause-is
texts_at_once-requires-clause-is g c = c.requires.is

pub texts_at_once-requires-clause-doing : goal.texts_at_once-requires-clause-doing
texts_at_once-requires-clause-doing g c = c.requires.doing

pub returns-then-is_of_texts : goal.returns-then-is_of_texts
returns-then-is_of_texts g c = c.texts_at_once.ensures
