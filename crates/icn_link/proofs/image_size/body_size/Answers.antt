use Rattle.std.proofs.Common.{refl}
use Rattle.icn_link.specs.ImageSizes.{body_size}
use Rattle.icn_link.proofs.ToldCounts.{told_all}
use Rattle.icn_link.proofs.image_size.body_size.Goals as goal

pub returns : goal.returns
returns c = told_all body_size c.args.instrs.now c.loop-instr.instr-index c.loop-instr.size _ refl c.loop-instr-test.false c.loop-instr.invariant.fits
    c.loop-instr.invariant.sum
