use Rattle.std.proofs.Common.{◌∙◌, refl, arith}
use Rattle.icn_strings.proofs.KeptRegions.{is_new, keeps_then, new_bytes}
use Rattle.icn_strings.proofs.RegionWrites.{can_made, writes_charge, writes_keep}
use Rattle.icn_strings.proofs.region.Region.hold.Goals as goal

pub add-requires : goal.add-requires
add-requires c = can_made c.args.self.now _ c.in_ok-make_room.ensures.written c.in_ok-make_room.ensures.room (omega (arith, c.end-start.ensures.end, c.end-start.ensures.short))

pub returns-clause-of : goal.returns-clause-of
returns-clause-of c =
    is_new c.args.self.now c.make_room.new.self c.add.new.self _ c.args.bytes.now c.in_ok-make_room.ensures.written c.add.ensures.first
    c.add.ensures.written c.end-start.ensures.end refl

pub returns-clause-bytes : goal.returns-clause-bytes
returns-clause-bytes c =
    new_bytes c.args.self.now c.make_room.new.self c.add.new.self _ c.args.bytes.now c.in_ok-make_room.ensures.written
    c.add.ensures.written c.end-start.ensures.end refl

pub returns-clause-sum : goal.returns-clause-sum
returns-clause-sum c = writes_charge c.add.ensures ∙ c.in_ok-make_room.ensures.sum

pub returns-clause-kept : goal.returns-clause-kept
returns-clause-kept c = keeps_then c.in_ok-make_room.ensures.kept (writes_keep c.add.ensures)
