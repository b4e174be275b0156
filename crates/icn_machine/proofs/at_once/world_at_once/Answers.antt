use Rattle.std.proofs.Common.{[], refl}
use Rattle.icn_value.specs.Store.{bare_outside}
use Rattle.icn_code.specs.CodeTables.{tables_of}
use Rattle.icn_control.specs.Machines.{extent, store_seen, world_reach}
use Rattle.icn_control.proofs.LiteralSteps.{running_live}
use Rattle.icn_instructions.proofs.LiftSteps.{done_lacks}
use Rattle.icn_machine.proofs.WorldAtOnce.{world_placed}
use Rattle.icn_machine.proofs.at_once.world_at_once.Goals as goal

pub frames-requires : goal.frames-requires
frames-requires g c = c.requires.runs

pub do_world_at_once-requires-clause-goes_on : goal.do_world_at_once-requires-clause-goes_on
do_world_at_once-requires-clause-goes_on g c =
    let t = tables_of c.args.code.now in
    let m = c.args.m.now in (
      t,
      (
        store_seen t bare_outside m,
        (
          refl,
          done_lacks t (extent m) m.stacks.table c.frames.result.now.flat c.args.instr (store_seen t bare_outside m) c.frames.ensures.running
              (c.requires.always bare_outside []).goes_on,
        ),
      ),
    )

pub do_world_at_once-requires-clause-live : goal.do_world_at_once-requires-clause-live
do_world_at_once-requires-clause-live g c =
    let t = tables_of c.args.code.now in
    let m = c.args.m.now in
    (t, running_live t (world_reach m) m.stacks.table c.frames.result.now.flat c.frames.ensures.running c.requires.sound.stacks)

pub returns : goal.returns
returns g c =
    let t = tables_of c.args.code.now in
    world_placed t c.args.m.now c.do_world_at_once.new.world c.do_world_at_once.new.frames c.args.instr c.frames.result.now.flat c.do_world_at_once.result
    c.frames.ensures.running c.requires (c.do_world_at_once.ensures t)
