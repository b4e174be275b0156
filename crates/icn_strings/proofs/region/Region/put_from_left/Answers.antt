use Rattle.std.proofs.Common.{◌≡◌, ◌∙◌, ◌*◌, ◌/◌, ◌%◌, ◌<◌, length, take, drop, sym, ap, subst, arith}
use Rattle.icn_strings.specs.RepeatedBytes.{copies}
use Rattle.icn_strings.specs.Pieces.{origin_bytes, origin_length}
use Rattle.icn_strings.specs.WrittenBytes.{Writes}
use Rattle.icn_strings.proofs.Fillings.{filled_from_left, length-copies, rest_below, whole_and_part}
use Rattle.icn_strings.proofs.PieceLengths.{origin_long}
use Rattle.icn_strings.proofs.RegionWrites.{can_less, can_then, origin_kept, origin_stays, writes_keep, writes_then}
use Rattle.icn_strings.proofs.region.Region.put_from_left.Goals as goal

pub part_of-part-requires-clause-within : goal.part_of-part-requires-clause-within
part_of-part-requires-clause-within c =
    omega (arith, c.requires.unit, rest_below c.args.count c.args.unit c.requires.some)

pub add_copies-requires-clause-can : goal.add_copies-requires-clause-can
add_copies-requires-clause-can c =
    can_less _ c.args.count (omega (arith, whole_and_part c.args.count c.args.unit (origin_length c.args.origin.now) c.requires.unit)) c.requires.can

pub add_origin-requires-clause-origin : goal.add_origin-requires-clause-origin
add_origin-requires-clause-origin c = origin_stays c.part_of-part.result (writes_keep c.add_copies.ensures) c.part_of-part.ensures.origin

pub add_origin-requires-clause-can : goal.add_origin-requires-clause-can
add_origin-requires-clause-can c =
    let bytes = origin_bytes c.args.self.now c.args.origin.now in
    let whole = c.args.count / c.args.unit in
    let long : whole * origin_length c.args.origin.now ≡ length (copies whole bytes) =
    ap (λ n. whole * n) (sym (origin_long c.args.self.now c.args.origin.now c.requires.origin)) ∙ sym (length-copies whole bytes) in
    can_then (whole * origin_length c.args.origin.now) (origin_length c.part_of-part.result) long
    (can_less _ c.args.count
    (omega (arith, whole_and_part c.args.count c.args.unit (origin_length c.args.origin.now) c.requires.unit, c.part_of-part.ensures.len))
    c.requires.can) c.add_copies.ensures

pub returns : goal.returns
returns c =
    let old = c.args.self.now in
    let bytes = origin_bytes old c.args.origin.now in
    let same : c.args.unit ≡ length bytes = c.requires.unit ∙ sym (origin_long old c.args.origin.now c.requires.origin) in
    let some : 0 < c.args.unit = c.requires.some in
    let part : origin_bytes c.add_copies.new.self c.part_of-part.result ≡ take (c.args.count % c.args.unit) (drop 0 bytes) =
    origin_kept c.part_of-part.result (writes_keep c.add_copies.ensures) c.part_of-part.ensures.origin ∙ c.part_of-part.ensures.bytes in
    subst (λ ys. Writes old c.add_origin.new.self ys) (filled_from_left bytes c.args.count c.args.unit same some)
    (writes_then c.add_copies.ensures (subst (λ ys. Writes c.add_copies.new.self c.add_origin.new.self ys) part c.add_origin.ensures))
