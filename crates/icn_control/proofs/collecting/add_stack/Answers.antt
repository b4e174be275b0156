use Rattle.std.proofs.Common.{◌≡◌, ◌<◌, length, arith}
use Rattle.icn_control.proofs.NeededCells.{cells_none, cells_more, cells_all}
use Rattle.icn_control.proofs.collecting.add_stack.Goals as goal

pub loop-i-init : goal.loop-i-init
loop-i-init g c = record { high = omega arith; so_far = cells_none c.args.needed.now c.args.frames.now.flat.cells }

pub content_at-requires : goal.content_at-requires
content_at-requires g c = omega (arith, c.loop-i-test.true, c.len-len.ensures)

pub loop-i-preserved : goal.loop-i-preserved
loop-i-preserved g c =
    let within : c.loop-i.i < length c.args.frames.now.flat.cells = omega (arith, c.loop-i-test.true, c.len-len.ensures) in
    record {
      high = omega (arith, c.loop-i-test.true);
      so_far = cells_more c.args.frames.now.flat.cells c.loop-i.i c.content_at.result within c.content_at.ensures c.loop-i.invariant.so_far
          c.in_ok-add_content.ensures;
    }

pub returns : goal.returns
returns g c =
    let all : c.loop-i.i ≡ length c.args.frames.now.flat.cells = omega (arith, c.loop-i-test.false, c.loop-i.invariant.high, c.len-len.ensures) in
    cells_all c.args.frames.now.flat.cells c.loop-i.i all c.loop-i.invariant.so_far
