use Rattle.std.proofs.Common.{◌≡◌, ◌∙◌, ◌+◌, length, refl, sym, arith}
use Rattle.icn_strings.proofs.AddedBytes.{last_ends}
use Rattle.icn_strings.proofs.KeptRegions.{is_of, added_length, joined_bytes, bytes_are}
use Rattle.icn_strings.proofs.RegionWrites.{writes_charge, writes_keep}
use Rattle.icn_strings.proofs.region.Region.hold_behind.Goals as goal

pub returns-clause-of : goal.returns-clause-of
returns-clause-of c =
    let old = c.args.self.now in
    let long = added_length old c.add_copy.new.self c.args.b c.requires.second c.add_copy.ensures.written in
    let ends = last_ends old.written.bytes old.last old.sound.ends in
    let to : c.args.a.start + c.args.a.len ≡ old.last.first + length old.last.bytes.items = c.requires.to in
    is_of c.add_copy.new.self _ (omega (arith, c.add_copy.ensures.first, c.requires.from)) (omega (arith, long, ends, to))

pub returns-clause-bytes : goal.returns-clause-bytes
returns-clause-bytes c =
    let old = c.args.self.now in
    joined_bytes old c.add_copy.new.self c.args.a c.args.b _ c.add_copy.ensures.written refl
    (c.requires.to ∙ last_ends old.written.bytes old.last old.sound.ends) refl (sym (bytes_are old c.args.b c.requires.second))

pub add_copy-requires-clause-can : goal.add_copy-requires-clause-can
add_copy-requires-clause-can c = record { room = c.requires.room; short = omega (arith, c.requires.short) }

pub returns-clause-sum : goal.returns-clause-sum
returns-clause-sum c = writes_charge c.add_copy.ensures

pub returns-clause-kept : goal.returns-clause-kept
returns-clause-kept c = writes_keep c.add_copy.ensures
