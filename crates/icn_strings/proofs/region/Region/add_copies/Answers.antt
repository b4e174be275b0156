use Rattle.std.proofs.Common.{◌≡◌, ◌∙◌, ◌*◌, length, replicate, sym, ap, subst, arith}
use Rattle.icn_strings.specs.RepeatedBytes.{copies}
use Rattle.icn_strings.specs.Pieces.{origin_bytes, origin_length}
use Rattle.icn_strings.specs.WrittenBytes.{Writes}
use Rattle.icn_strings.proofs.Fillings.{copies_of_none, copies_of_one}
use Rattle.icn_strings.proofs.PieceLengths.{origin_long}
use Rattle.icn_strings.proofs.RegionWrites.{can_less, writes_none}
use Rattle.icn_strings.proofs.region.Region.add_copies.Goals as goal

pub returns-then-unit-eq0 : goal.returns-then-unit-eq0
returns-then-unit-eq0 c =
    let region = c.args.self.now in
    let bytes = origin_bytes region c.args.origin.now in
    let none : length bytes ≡ 0 = origin_long region c.args.origin.now c.requires.origin ∙ (sym c.len-unit.ensures ∙ c.if-unit-eq0.true) in
    subst (λ ys. Writes region region ys) (sym (copies_of_none c.args.count bytes none)) (writes_none region)

pub returns-then-count-eq0 : goal.returns-then-count-eq0
returns-then-count-eq0 c =
    let region = c.args.self.now in
    subst (λ n. Writes region region (copies n (origin_bytes region c.args.origin.now))) (sym c.if-count-eq0.true) (writes_none region)

pub add_byte-requires : goal.add_byte-requires
add_byte-requires c =
    let all : c.args.count * origin_length c.args.origin.now ≡ c.args.count * 1 =
    ap (λ n. c.args.count * n) (sym c.len-unit.ensures ∙ c.if-unit-eq1.true) in
    can_less c.args.count (c.args.count * origin_length c.args.origin.now) (omega (arith, all)) c.requires.can

pub returns-then-unit-eq1 : goal.returns-then-unit-eq1
returns-then-unit-eq1 c =
    let bytes = origin_bytes c.args.self.now c.args.origin.now in
    let one : length bytes ≡ 1 =
    origin_long c.args.self.now c.args.origin.now c.requires.origin ∙ (sym c.len-unit.ensures ∙ c.if-unit-eq1.true) in
    subst (λ ys. Writes c.args.self.now c.add_byte.new.self ys)
    (ap (replicate c.args.count) c.first_byte-byte.ensures ∙ sym (copies_of_one c.args.count bytes one)) c.add_byte.ensures
