use Rattle.std.proofs.Common.{◌≡◌, ◌∙◌, [], ap, false, refl, subst, sym, true}
use Rattle.icn_value.specs.Store.{bare_outside}
use Rattle.icn_code.specs.CodeTables.{tables_of}
use Rattle.icn_code.specs.declared.instr.Instr.{Instr}
use Rattle.icn_code.specs.declared.instr.Instr.TheVariants as Instrs
use Rattle.icn_control.specs.Machines.{extent, store_seen, world_reach}
use Rattle.icn_control.specs.StackAndWorld.{RunsWith}
use Rattle.icn_control.specs.StackViews.{instruction_state}
use Rattle.icn_control.proofs.LiteralSteps.{running_live}
use Rattle.icn_instructions.proofs.ArmSteps.{lacks_as}
use Rattle.icn_instructions.proofs.LackSteps.{string_lacks}
use Rattle.icn_instructions.proofs.LiftSteps.{done_lacks}
use Rattle.icn_machine.specs.Stepping.{is_applied, is_whole}
use Rattle.icn_machine.proofs.AtOnceAnswers.{lacks_memory}
use Rattle.icn_machine.proofs.NextSteps.{calls_none}
use Rattle.icn_machine.proofs.WorldAtOnce.{grown_done, in_both}
use Rattle.icn_machine.proofs.at_once.string_at_once.Goals as goal

pub frames-requires : goal.frames-requires
frames-requires g c = c.requires.doing.runs

pub push_string-requires-clause-index : goal.push_string-requires-clause-index
push_string-requires-clause-index g c =
    let t = tables_of c.args.code.now in
    let m = c.args.m.now in
    let f = c.frames.result.now.flat in
    let st = store_seen t bare_outside m in
    string_lacks (extent m) t f c.args.place st
    (lacks_as (extent m) t c.args.instr (Instrs.Str c.args.place) f st c.requires.is
    (done_lacks t (extent m) m.stacks.table f c.args.instr st c.frames.ensures.running (c.requires.doing.always bare_outside []).goes_on))

pub push_string-requires-clause-live : goal.push_string-requires-clause-live
push_string-requires-clause-live g c =
    let t = tables_of c.args.code.now in
    let m = c.args.m.now in
    (t, running_live t (world_reach m) m.stacks.table c.frames.result.now.flat c.frames.ensures.running c.requires.doing.sound.stacks)

pub returns-in-Ok : goal.returns-in-Ok
returns-in-Ok g c =
    let t = tables_of c.args.code.now in
    let m = c.args.m.now in
    let f = c.frames.result.now.flat in
    let v = c.push_string.new.world in
    let s = c.push_string.new.frames in
    grown_done t c.steps_keep_names.ensures.kept c.steps_keep_sizes.ensures.kept m v s c.args.instr f c.frames.ensures.running
    (calls_none c.args.instr (ap is_applied c.requires.is)) c.requires.doing c.push_string.ensures.kept c.push_string.ensures.heap
    (λ st same. subst (λ (i : Instr). RunsWith (instruction_state (extent m) t i f st) st v s.flat) (sym c.requires.is) (c.in-Ok.ensures.step st same))
    (c.in-Ok.ensures.live t)

pub returns-in-Err : goal.returns-in-Err
returns-in-Err g c =
    let m = c.args.m.now in
    lacks_memory (tables_of c.args.code.now) m (in_both m c.push_string.new.world c.push_string.new.frames) c.args.instr
    (λ w. let bad : true ≡ false = sym w ∙ ap is_whole c.requires.is in absurd (cc)) refl
