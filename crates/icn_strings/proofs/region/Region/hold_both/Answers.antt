use Rattle.std.proofs.Common.{◌≡◌, ◌≤◌, ◌+◌, length, refl, arith}
use Rattle.icn_strings.specs.Regions.{bytes_of}
use Rattle.icn_strings.proofs.AddedBytes.{last_ends}
use Rattle.icn_strings.proofs.KeptRegions.{is_of, adjacent_bytes}
use Rattle.icn_strings.proofs.region.Region.hold_both.Goals as goal

pub returns-then-has_both-clause-of : goal.returns-then-has_both-clause-of
returns-then-has_both-clause-of c =
    let region = c.args.self.now in
    let both = c.has_both.ensures in
    let next : c.args.a.start + c.args.a.len ≡ c.args.b.start = both.next c.if-has_both.true in
    let to : c.args.b.start + c.args.b.len ≤ region.last.first + length region.last.bytes.items = both.to c.if-has_both.true in
    is_of _ _ (both.from c.if-has_both.true) (omega (arith, next, to, last_ends region.written.bytes region.last region.sound.ends))

pub returns-then-has_both-clause-bytes : goal.returns-then-has_both-clause-bytes
unfolding bytes_of
returns-then-has_both-clause-bytes c =
    adjacent_bytes c.args.self.now c.args.a c.args.b _ (c.has_both.ensures.next c.if-has_both.true) refl refl
