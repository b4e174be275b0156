use Rattle.std.proofs.Common.{sym}
use Rattle.icn_segments.proofs.Segmented.{segmented, length_to}
use Rattle.icn_segments.proofs.raw_stack.RawStackStack.len.Goals as goal

pub returns : goal.returns
returns g c =
    let s = c.args.self.now in
    let t = segmented s.segments.items s.len s.whole s.filled s.within s.few in
    sym (length_to s.segments.items s.len t.filled)
