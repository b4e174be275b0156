use Rattle.std.proofs.Common.{◌≡◌, ◌∙◌, [], ap, false, refl, subst, sym, true}
use Rattle.icn_value.specs.Store.{bare_outside}
use Rattle.icn_heap.specs.Heaps.{heap_of}
use Rattle.icn_code.specs.CodeTables.{tables_of}
use Rattle.icn_code.specs.declared.instr.Instr.{Instr}
use Rattle.icn_code.specs.declared.instr.Instr.TheVariants as Instrs
use Rattle.icn_control.specs.Machines.{extent, store_seen, world_reach}
use Rattle.icn_control.specs.StackAndWorld.{RunsWith}
use Rattle.icn_control.specs.StackViews.{instruction_state}
use Rattle.icn_control.proofs.LiteralSteps.{running_live}
use Rattle.icn_instructions.proofs.ArmSteps.{lacks_as}
use Rattle.icn_instructions.proofs.LackSteps.{escan_scan, pop_there}
use Rattle.icn_instructions.proofs.LiftSteps.{done_lacks, reach_keeps}
use Rattle.icn_machine.specs.Stepping.{is_applied, is_whole}
use Rattle.icn_machine.proofs.AtOnceAnswers.{lacks_memory}
use Rattle.icn_machine.proofs.NextSteps.{calls_none}
use Rattle.icn_machine.proofs.WorldAtOnce.{grown_done, in_both}
use Rattle.icn_machine.proofs.at_once.scan_left_at_once.Goals as goal

pub frames-requires : goal.frames-requires
frames-requires g c = c.requires.doing.runs

pub scan_left-requires-clause-operand : goal.scan_left-requires-clause-operand
scan_left-requires-clause-operand g c =
    let t = tables_of c.args.code.now in
    let m = c.args.m.now in
    let f = c.frames.result.now.flat in
    let st = store_seen t bare_outside m in
    pop_there (extent m) f _
    (lacks_as (extent m) t c.args.instr Instrs.Escan f st c.requires.is
    (done_lacks t (extent m) m.stacks.table f c.args.instr st c.frames.ensures.running (c.requires.doing.always bare_outside []).goes_on))

pub scan_left-requires-clause-scan : goal.scan_left-requires-clause-scan
scan_left-requires-clause-scan g c =
    let t = tables_of c.args.code.now in
    let m = c.args.m.now in
    let f = c.frames.result.now.flat in
    let st = store_seen t bare_outside m in
    escan_scan (extent m) t f st
    (lacks_as (extent m) t c.args.instr Instrs.Escan f st c.requires.is
    (done_lacks t (extent m) m.stacks.table f c.args.instr st c.frames.ensures.running (c.requires.doing.always bare_outside []).goes_on))

pub scan_left-requires-clause-live : goal.scan_left-requires-clause-live
scan_left-requires-clause-live g c =
    let t = tables_of c.args.code.now in
    let m = c.args.m.now in
    (t, running_live t (world_reach m) m.stacks.table c.frames.result.now.flat c.frames.ensures.running c.requires.doing.sound.stacks)

pub returns-in-Ok : goal.returns-in-Ok
returns-in-Ok g c =
    let t = tables_of c.args.code.now in
    let m = c.args.m.now in
    let f = c.frames.result.now.flat in
    let v = c.scan_left.new.world in
    let s = c.scan_left.new.frames in
    grown_done t c.steps_keep_names.ensures.kept c.steps_keep_sizes.ensures.kept m v s c.args.instr f c.frames.ensures.running
    (calls_none c.args.instr (ap is_applied c.requires.is)) c.requires.doing (reach_keeps m.world v c.scan_left.ensures.same.reach)
    (ap heap_of c.scan_left.ensures.same.heap)
    (λ st same. subst (λ (i : Instr). RunsWith (instruction_state (extent m) t i f st) st v s.flat) (sym c.requires.is) (c.in-Ok.ensures.step t st same))
    (λ l. c.in-Ok.ensures.live t l)

pub returns-in-Err : goal.returns-in-Err
returns-in-Err g c =
    let m = c.args.m.now in
    lacks_memory (tables_of c.args.code.now) m (in_both m c.scan_left.new.world c.scan_left.new.frames) c.args.instr
    (λ w. let bad : true ≡ false = sym w ∙ ap is_whole c.requires.is in absurd (cc)) refl
