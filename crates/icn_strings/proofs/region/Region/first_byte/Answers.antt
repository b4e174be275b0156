use Rattle.std.proofs.Common.{◌<◌, length, sym, subst}
use Rattle.icn_strings.proofs.PieceLengths.{first_there}
use Rattle.icn_strings.proofs.region.Region.first_byte.Goals as goal

pub bounds-bytes-0 : goal.bounds-bytes-0
bounds-bytes-0 c =
    subst (λ ys. 0 < length ys) (sym c.bytes.ensures)
    (first_there c.args.self.now c.args.origin.now c.in-Held.range c.in-Held.is c.requires.origin c.requires.some)
