use Rattle.std.proofs.Common.{◌∙◌, ◌++◌, ◌+◌, sym, arith}
use Rattle.icn_strings.specs.Regions.{bytes_of}
use Rattle.icn_strings.proofs.KeptRegions.{keeps_then, bytes_are, is_new, new_bytes, both_written, both_bytes, both_length}
use Rattle.icn_strings.proofs.RegionWrites.{writes_charge, writes_keep, can_less, can_then, can_made}
use Rattle.icn_strings.proofs.region.Region.hold_anew.Goals as goal

pub add_copy-requires-clause-of : goal.add_copy-requires-clause-of
add_copy-requires-clause-of c = c.in_ok-make_room.ensures.kept.of c.args.a c.requires.first

pub add_copy-requires-clause-can : goal.add_copy-requires-clause-can
add_copy-requires-clause-can c =
    let made = c.in_ok-make_room.ensures in
    can_less c.args.a.len (c.args.a.len + c.args.b.len) (omega arith) (can_made c.args.self.now (c.args.a.len + c.args.b.len) made.written made.room c.requires.short)

pub add_copy-requires-2-clause-of : goal.add_copy-requires-2-clause-of
add_copy-requires-2-clause-of c = (writes_keep c.add_copy.ensures).of c.args.b (c.in_ok-make_room.ensures.kept.of c.args.b c.requires.second)

pub add_copy-requires-2-clause-can : goal.add_copy-requires-2-clause-can
add_copy-requires-2-clause-can c =
    let one = c.make_room.new.self in
    let made = c.in_ok-make_room.ensures in
    can_then c.args.a.len c.args.b.len (sym (bytes_are one c.args.a (made.kept.of c.args.a c.requires.first)))
    (can_made c.args.self.now (c.args.a.len + c.args.b.len) made.written made.room c.requires.short) c.add_copy.ensures

pub returns-clause-of : goal.returns-clause-of
returns-clause-of c =
    let old = c.args.self.now in
    let one = c.make_room.new.self in
    let two = c.add_copy.new.self in
    let new = c.add_copy-2.new.self in
    let made = c.in_ok-make_room.ensures in
    is_new old one new _ (bytes_of one c.args.a ++ bytes_of two c.args.b) made.written (c.add_copy-2.ensures.first ∙ c.add_copy.ensures.first)
    (both_written one two new c.args.a c.args.b c.add_copy.ensures.written c.add_copy-2.ensures.written) c.end-start.ensures.end
    (both_length old one two c.args.a c.args.b c.requires.first c.requires.second made.kept (writes_keep c.add_copy.ensures))

pub returns-clause-bytes : goal.returns-clause-bytes
returns-clause-bytes c =
    let old = c.args.self.now in
    let one = c.make_room.new.self in
    let two = c.add_copy.new.self in
    let new = c.add_copy-2.new.self in
    let made = c.in_ok-make_room.ensures in
    new_bytes old one new _ (bytes_of one c.args.a ++ bytes_of two c.args.b) made.written
    (both_written one two new c.args.a c.args.b c.add_copy.ensures.written c.add_copy-2.ensures.written) c.end-start.ensures.end
    (both_length old one two c.args.a c.args.b c.requires.first c.requires.second made.kept (writes_keep c.add_copy.ensures))
    ∙ both_bytes old one two c.args.a c.args.b c.requires.first c.requires.second made.kept (writes_keep c.add_copy.ensures)

pub returns-clause-kept : goal.returns-clause-kept
returns-clause-kept c = keeps_then c.in_ok-make_room.ensures.kept (keeps_then (writes_keep c.add_copy.ensures) (writes_keep c.add_copy-2.ensures))

pub returns-clause-sum : goal.returns-clause-sum
returns-clause-sum c = writes_charge c.add_copy-2.ensures ∙ (writes_charge c.add_copy.ensures ∙ c.in_ok-make_room.ensures.sum)
