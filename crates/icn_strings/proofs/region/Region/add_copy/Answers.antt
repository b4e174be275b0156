use Rattle.std.proofs.Common.{◌≡◌, ◌∙◌, ◌++◌, refl, arith}
use Rattle.icn_strings.specs.Regions.{IsHeld, bytes_of}
use Rattle.icn_strings.proofs.AddedBytes.{written_more, sound_more}
use Rattle.icn_strings.proofs.KeptRegions.{bytes_are}
use Rattle.icn_strings.proofs.region.Region.add_copy.Goals as goal

pub copy_behind-requires-clause-held : goal.copy_behind-requires-clause-held
unfolding IsHeld
copy_behind-requires-clause-held c = c.requires.of.held

pub invariant_of-self : goal.invariant_of-self
unfolding bytes_of
invariant_of-self c =
    let old = c.args.self.now in
    let new = c.copy_behind.new.last in
    let more = bytes_of old c.args.range in
    let bytes : new.bytes.items ≡ old.last.bytes.items ++ more = c.copy_behind.ensures.bytes old.written.bytes old.sound.agree old.sound.ends in
    let whole : c.up_to-self.result.bytes ≡ old.written.bytes ++ more =
    c.up_to-self.ensures ∙ written_more old.written.bytes more old.last new old.sound.ends c.copy_behind.ensures.first bytes in
    record {
      sound =
          sound_more old.written.bytes c.up_to-self.result.bytes more old.closed old.last new old.sum old.limit old.sound
          c.copy_behind.ensures.first bytes whole (omega (arith, bytes_are old c.args.range c.requires.of, c.requires.can.short));
      counted = old.counted;
    }

pub returns : goal.returns
unfolding bytes_of
returns c =
    let old = c.args.self.now in
    let more = bytes_of old c.args.range in
    let bytes : c.copy_behind.new.last.bytes.items ≡ old.last.bytes.items ++ more =
    c.copy_behind.ensures.bytes old.written.bytes old.sound.agree old.sound.ends in
    record {
      closed = refl;
      first = c.copy_behind.ensures.first;
      bytes = bytes;
      written = c.up_to-self.ensures ∙ written_more old.written.bytes more old.last c.copy_behind.new.last old.sound.ends c.copy_behind.ensures.first bytes;
      room = λ count room. c.copy_behind.ensures.room count (omega (arith, room, bytes_are old c.args.range c.requires.of));
      sum = refl;
      limit = refl;
    }
