use Rattle.std.proofs.Common.{[], ap}
use Rattle.icn_value.specs.Store.{bare_outside}
use Rattle.icn_code.specs.CodeTables.{tables_of}
use Rattle.icn_code.specs.declared.instr.Instr.TheVariants as Instrs
use Rattle.icn_control.specs.Machines.{extent, store_seen, world_reach}
use Rattle.icn_control.proofs.LiteralSteps.{running_live}
use Rattle.icn_instructions.proofs.ArmSteps.{lacks_as}
use Rattle.icn_instructions.proofs.LackSteps.{pop_there}
use Rattle.icn_instructions.proofs.LiftSteps.{done_lacks}
use Rattle.icn_machine.specs.Stepping.{is_applied}
use Rattle.icn_machine.proofs.MatchSteps.{one_taken_there}
use Rattle.icn_machine.proofs.NextSteps.{calls_none}
use Rattle.icn_machine.proofs.OpenedAtOnce.{opened_done}
use Rattle.icn_machine.proofs.at_once.scan_opened_at_once.Goals as goal

pub frames-requires : goal.frames-requires
frames-requires g c = c.requires.doing.runs

pub open_in_place-requires-clause-operands : goal.open_in_place-requires-clause-operands
open_in_place-requires-clause-operands g c =
    let t = tables_of c.args.code.now in
    let m = c.args.m.now in
    let f = c.frames.result.now.flat in
    let st = store_seen t bare_outside m in
    one_taken_there f (pop_there (extent m) f _
    (lacks_as (extent m) t c.args.instr Instrs.Bscan f st c.requires.is
    (done_lacks t (extent m) m.stacks.table f c.args.instr st c.frames.ensures.running (c.requires.doing.always bare_outside []).goes_on)))

pub open_in_place-requires-clause-live : goal.open_in_place-requires-clause-live
open_in_place-requires-clause-live g c =
    let t = tables_of c.args.code.now in
    let m = c.args.m.now in
    (t, running_live t (world_reach m) m.stacks.table c.frames.result.now.flat c.frames.ensures.running c.requires.doing.sound.stacks)

pub returns : goal.returns
returns g c =
    opened_done (tables_of c.args.code.now) c.steps_keep_names.ensures.kept c.steps_keep_sizes.ensures.kept c.args.m.now c.open_in_place.new.world
    c.open_in_place.new.frames c.args.instr c.frames.result.now.flat c.frames.ensures.running c.requires.is
    (calls_none c.args.instr (ap is_applied c.requires.is)) c.requires.doing c.open_in_place.result c.open_in_place.ensures
