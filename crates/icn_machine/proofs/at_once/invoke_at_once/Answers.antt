use Rattle.std.proofs.Common.{◌≡◌, ◌∙◌, Option, Some, ap, false, refl, sym, true}
use Rattle.icn_code.specs.CodeTables.{tables_of}
use Rattle.icn_code.specs.declared.instr.Instr.TheVariants as Instrs
use Rattle.icn_control.specs.declared.machine.RunState.{RunState}
use Rattle.icn_run.specs.Step.{all_names}
use Rattle.icn_instructions.specs.Groups.{group_of}
use Rattle.icn_machine.specs.Stepping.{is_whole}
use Rattle.icn_machine.proofs.AtOnceAnswers.{off_invoke, placed_done}
use Rattle.icn_machine.proofs.AtOnceSteps.{call_ready, doing_alike, done_as}
use Rattle.icn_machine.proofs.NextSteps.{invoke_operands}
use Rattle.icn_machine.proofs.TurnSteps.{done_alike}
use Rattle.icn_machine.proofs.at_once.invoke_at_once.Goals as goal

pub call_at_once-requires-clause-stands : goal.call_at_once-requires-clause-stands
call_at_once-requires-clause-stands g c = record { runs = c.requires.doing.runs; sound = ((tables_of c.args.code.now), c.requires.doing.sound) }

pub call_at_once-requires-clause-operands : goal.call_at_once-requires-clause-operands
call_at_once-requires-clause-operands g c = invoke_operands (tables_of c.args.code.now) c.args.m.now c.args.instr c.args.count c.requires.is c.requires.doing

pub returns-in-Some : goal.returns-in-Some
returns-in-Some g c =
    let t = tables_of c.args.code.now in
    let r : Option RunState = Some c.in-Some.stage in
    let d = done_as t c.args.instr (Instrs.Invoke c.args.count) c.args.m.now c.call_at_once.new.m r c.requires.is c.in-Some.ensures.done in
    rw c.done_at.ensures
    (placed_done t c.args.m.now c.call_at_once.new.m c.args.instr r d
    (call_ready t c.args.m.now c.call_at_once.new.m c.args.instr r c.requires.doing c.call_at_once.ensures.world
    c.call_at_once.ensures.coexps (c.in-Some.ensures.named (all_names t) c.requires.doing.stack_named) d)
    (λ w. let bad : true ≡ false = sym w ∙ ap is_whole c.requires.is in absurd (cc)) (λ q. off_invoke c.args.count (sym (ap group_of c.requires.is) ∙ q)))

pub function_at_once-requires-clause-is : goal.function_at_once-requires-clause-is
function_at_once-requires-clause-is g c = c.requires.is

pub function_at_once-requires-clause-doing : goal.function_at_once-requires-clause-doing
function_at_once-requires-clause-doing g c =
    doing_alike c.args.m.now c.call_at_once.new.m (c.in-None.ensures.done.not_done refl) (tables_of c.args.code.now) c.args.instr c.requires.doing

pub returns-in-None : goal.returns-in-None
returns-in-None g c =
    done_alike (tables_of c.args.code.now) c.args.m.now c.call_at_once.new.m c.function_at_once.new.m c.args.instr c.function_at_once.result
    (c.in-None.ensures.done.not_done refl) c.function_at_once.ensures
