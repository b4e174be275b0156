use Rattle.std.proofs.Common.{◌≡◌, ◌∙◌, ◌*◌, ◌/◌, ◌<◌, length, sym, subst, arith}
use Rattle.icn_strings.specs.RepeatedBytes.{copies}
use Rattle.icn_strings.specs.Pieces.{origin_bytes, origin_length}
use Rattle.icn_strings.specs.WrittenBytes.{Writes}
use Rattle.icn_strings.proofs.Fillings.{filled_from_right, rest_below, whole_and_part}
use Rattle.icn_strings.proofs.PieceLengths.{origin_long}
use Rattle.icn_strings.proofs.RegionWrites.{can_less, can_then, origin_kept, origin_stays, writes_keep, writes_then}
use Rattle.icn_strings.proofs.region.Region.put_from_right.Goals as goal

pub part_of-part-requires-clause-within : goal.part_of-part-requires-clause-within
part_of-part-requires-clause-within c =
    omega (arith, c.requires.unit, rest_below c.args.count c.args.unit c.requires.some)

pub add_origin-requires-clause-can : goal.add_origin-requires-clause-can
add_origin-requires-clause-can c =
    can_less _ c.args.count
    (omega (arith, whole_and_part c.args.count c.args.unit (origin_length c.args.origin.now) c.requires.unit, c.part_of-part.ensures.len))
    c.requires.can

pub add_copies-requires-clause-origin : goal.add_copies-requires-clause-origin
add_copies-requires-clause-origin c = origin_stays c.args.origin.now (writes_keep c.add_origin.ensures) c.requires.origin

pub add_copies-requires-clause-can : goal.add_copies-requires-clause-can
add_copies-requires-clause-can c =
    let part : origin_length c.part_of-part.result ≡ length (origin_bytes c.args.self.now c.part_of-part.result) =
    sym (origin_long c.args.self.now c.part_of-part.result c.part_of-part.ensures.origin) in
    can_then (origin_length c.part_of-part.result) ((c.args.count / c.args.unit) * origin_length c.args.origin.now) part
    (can_less _ c.args.count
    (omega (arith, whole_and_part c.args.count c.args.unit (origin_length c.args.origin.now) c.requires.unit, c.part_of-part.ensures.len))
    c.requires.can) c.add_origin.ensures

pub returns : goal.returns
returns c =
    let old = c.args.self.now in
    let mid = c.add_origin.new.self in
    let new = c.add_copies.new.self in
    let bytes = origin_bytes old c.args.origin.now in
    let same : c.args.unit ≡ length bytes = c.requires.unit ∙ sym (origin_long old c.args.origin.now c.requires.origin) in
    let some : 0 < c.args.unit = c.requires.some in
    let kept : origin_bytes mid c.args.origin.now ≡ bytes = origin_kept c.args.origin.now (writes_keep c.add_origin.ensures) c.requires.origin in
    subst (λ ys. Writes old new ys) (filled_from_right bytes c.args.count c.args.unit same some)
    (writes_then (subst (λ ys. Writes old mid ys) c.part_of-part.ensures.bytes c.add_origin.ensures)
    (subst (λ ys. Writes mid new (copies (c.args.count / c.args.unit) ys)) kept c.add_copies.ensures))
