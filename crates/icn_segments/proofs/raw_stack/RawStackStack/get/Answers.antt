use Rattle.std.proofs.Common.{◌<◌, ◌∙◌, arith}
use Rattle.icn_segments.proofs.Segmented.{segmented, length_to, put_within, value_is}
use Rattle.icn_segments.proofs.raw_stack.RawStackStack.get.Goals as goal

pub value_at-requires-clause-within : goal.value_at-requires-clause-within
value_at-requires-clause-within g c =
    let s = c.args.self.now in
    let t = segmented s.segments.items s.len s.whole s.filled s.within s.few in
    (put_within s.segments.items s.len c.args.i t (omega (arith, c.requires, s.within, length_to s.segments.items s.len t.filled))).0

pub value_at-requires-clause-filled : goal.value_at-requires-clause-filled
value_at-requires-clause-filled g c =
    let s = c.args.self.now in
    let t = segmented s.segments.items s.len s.whole s.filled s.within s.few in
    t.filled c.args.i (omega (arith, c.requires, length_to s.segments.items s.len t.filled))

pub returns : goal.returns
returns g c =
    let s = c.args.self.now in
    let t = segmented s.segments.items s.len s.whole s.filled s.within s.few in
    let i : c.args.i < s.len = omega (arith, c.requires, length_to s.segments.items s.len t.filled) in
    value_is s.segments.items s.len c.args.i t i ∙ c.value_at.ensures
