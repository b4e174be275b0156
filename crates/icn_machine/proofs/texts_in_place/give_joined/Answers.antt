use Rattle.std.proofs.Common.{◌++◌}
use Rattle.icn_text.specs.declared.op.Op.TheVariants as Ops
use Rattle.icn_defs.specs.Rows.{builds}
use Rattle.icn_heap.specs.Extents.{text_in}
use Rattle.icn_heap.specs.Heaps.{extent_of}
use Rattle.icn_code.specs.declared.instr.Instr.TheVariants as Instrs
use Rattle.icn_machine.proofs.PlainCallSteps.{operands_there}
use Rattle.icn_machine.proofs.RowsAtOnce.{does_lack}
use Rattle.icn_machine.proofs.TextsAtOnce.{joined_row, left, text_done, texts_live}
use Rattle.icn_machine.proofs.texts_in_place.give_joined.Goals as goal

pub drop_with-requires : goal.drop_with-requires
drop_with-requires g c = operands_there 1 c.args.frames.now.flat c.requires.operands

pub joined-requires-clause-first : goal.joined-requires-clause-first
joined-requires-clause-first g c =
    (texts_live c.requires.live.0 c.args.world.now c.args.frames.now.flat c.drop_with.new.self.flat c.drop_with.ensures.drops c.args.a c.args.b
    c.requires.first c.requires.second c.requires.live.0 c.requires.live.1).0

pub joined-requires-clause-second : goal.joined-requires-clause-second
joined-requires-clause-second g c =
    (texts_live c.requires.live.0 c.args.world.now c.args.frames.now.flat c.drop_with.new.self.flat c.drop_with.ensures.drops c.args.a c.args.b
    c.requires.first c.requires.second c.requires.live.0 c.requires.live.1).1

pub returns-in-Ok : goal.returns-in-Ok
returns-in-Ok g c t =
    let w = c.args.world.now in
    let m = c.args.frames.now.flat in
    let k = c.drop_with.new.self.flat in
    let d = c.drop_with.ensures.drops in
    let live = c.requires.live in
    let bytes = text_in (extent_of w.heap) c.args.a ++ text_in (extent_of w.heap) c.args.b in
    text_done t live.0 w c.joined.new.world m k c.give_text.new.frames.flat c.in-Ok.text (builds bytes)
    (left t w m k d c.args.a c.args.b c.requires.first c.requires.second live.0 live.1) c.local_count.ensures.same c.in-Ok.ensures
    (Instrs.Op Ops.Concatenate) c.give_text.result (left t w m k d c.args.a c.args.b c.requires.first c.requires.second t)
    (joined_row t w m k d c.args.a c.args.b c.requires.first c.requires.second) c.give_text.ensures

pub returns-in-Err : goal.returns-in-Err
returns-in-Err g c t =
    does_lack t (Instrs.Op Ops.Concatenate) c.args.world.now c.joined.new.world c.args.frames.now.flat c.drop_with.new.self.flat
