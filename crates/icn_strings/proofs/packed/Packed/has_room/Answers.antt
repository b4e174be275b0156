use Rattle.std.proofs.Common.{arith}
use Rattle.icn_strings.proofs.PackedBytes.{size_is}
use Rattle.icn_strings.proofs.packed.Packed.has_room.Goals as goal

pub returns : goal.returns
returns c = λ is.
    let size = size_is c.self.inside.bytes.items c.self.inside.runs.items c.args.self.now c.self.invariant c.self.view_is in
    let few = c.fits.ensures is in
    omega (arith, size, few, c.len.ensures, c.self.inside.bytes.ok)
