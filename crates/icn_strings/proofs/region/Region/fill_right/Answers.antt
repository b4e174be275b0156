use Rattle.std.proofs.Common.{◌≡◌, ◌∙◌, ◌*◌, length, sym, ap, subst, arith}
use Rattle.icn_strings.specs.RepeatedBytes.{filled_right}
use Rattle.icn_strings.specs.Pieces.{origin_bytes, origin_length}
use Rattle.icn_strings.specs.WrittenBytes.{Writes}
use Rattle.icn_strings.proofs.Fillings.{one_from_right}
use Rattle.icn_strings.proofs.PieceLengths.{origin_long}
use Rattle.icn_strings.proofs.RegionWrites.{can_less, writes_none}
use Rattle.icn_strings.proofs.region.Region.fill_right.Goals as goal

pub returns-then-count-eq0 : goal.returns-then-count-eq0
returns-then-count-eq0 c =
    let region = c.args.self.now in
    subst (λ n. Writes region region (filled_right n (origin_bytes region c.args.origin.now))) (sym c.if-count-eq0.true) (writes_none region)

pub add_copies-requires-clause-can : goal.add_copies-requires-clause-can
add_copies-requires-clause-can c =
    let all : c.args.count * origin_length c.args.origin.now ≡ c.args.count * 1 =
    ap (λ n. c.args.count * n) (sym c.len-unit.ensures ∙ c.if-unit-eq1.true) in
    can_less (c.args.count * origin_length c.args.origin.now) c.args.count (omega (arith, all)) c.requires.can

pub returns-then-unit-eq1 : goal.returns-then-unit-eq1
returns-then-unit-eq1 c =
    let bytes = origin_bytes c.args.self.now c.args.origin.now in
    let one : length bytes ≡ 1 =
    origin_long c.args.self.now c.args.origin.now c.requires.origin ∙ (sym c.len-unit.ensures ∙ c.if-unit-eq1.true) in
    subst (λ ys. Writes c.args.self.now c.add_copies.new.self ys) (one_from_right c.args.count bytes one) c.add_copies.ensures
