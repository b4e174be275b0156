use Rattle.std.proofs.Common.{◌<◌, ◌^◌, rules}
use Rattle.icn_strings.proofs.PieceLengths.{none_allowed, so_many, too_many}
use Rattle.icn_strings.proofs.region.Region.allowed_length.Goals as goal

pub returns-in_err-size : goal.returns-in_err-size
returns-in_err-size c =
    let small : c.room-most.result < 2 ^ 64 = search rules in
    none_allowed c.args.self.now c.args.pieces.now c.requires c.room-most.result c.room-most.ensures small _ c.from_residual.ensures c.in_err-size.ensures

pub returns-then-size-most : goal.returns-then-size-most
returns-then-size-most c =
    let small : c.room-most.result < 2 ^ 64 = search rules in
    so_many c.args.self.now c.args.pieces.now c.requires c.room-most.result c.room-most.ensures small _ c.in_ok-size.ensures.1 c.if-size-most.true

pub returns-else-size-most : goal.returns-else-size-most
returns-else-size-most c =
    let small : c.room-most.result < 2 ^ 64 = search rules in
    too_many c.args.self.now c.args.pieces.now c.requires c.room-most.result c.room-most.ensures small _ c.in_ok-size.ensures.1 c.if-size-most.false
