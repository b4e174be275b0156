use Rattle.std.proofs.Common.{refl}
use Rattle.icn_link.specs.ImageSizes.{strings_size}
use Rattle.icn_link.proofs.ToldCounts.{told_all}
use Rattle.icn_link.proofs.image_size.strings_size.Goals as goal

pub returns : goal.returns
returns c =
    told_all strings_size c.args.strings.now c.loop-string.string-index c.loop-string.size _ refl c.loop-string-test.false c.loop-string.invariant.fits
    c.loop-string.invariant.sum
