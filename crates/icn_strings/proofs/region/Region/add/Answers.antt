use Rattle.std.proofs.Common.{◌≡◌, ◌∙◌, ◌++◌, refl}
use Rattle.icn_strings.proofs.AddedBytes.{written_more, sound_more}
use Rattle.icn_strings.proofs.region.Region.add.Goals as goal

pub invariant_of-self : goal.invariant_of-self
invariant_of-self c =
    let old = c.args.self.now in
    let new = c.add.new.self in
    let whole : c.up_to-self.result.bytes ≡ old.written.bytes ++ c.args.bytes.now =
    c.up_to-self.ensures ∙ written_more old.written.bytes c.args.bytes.now old.last new old.sound.ends c.add.ensures.first c.add.ensures.bytes in
    record {
      sound =
          sound_more old.written.bytes c.up_to-self.result.bytes c.args.bytes.now old.closed old.last new old.sum old.limit old.sound
          c.add.ensures.first c.add.ensures.bytes whole c.requires.short;
      counted = old.counted;
    }

pub returns : goal.returns
returns c =
    let old = c.args.self.now in
    record {
      closed = refl;
      first = c.add.ensures.first;
      bytes = c.add.ensures.bytes;
      written =
          c.up_to-self.ensures
          ∙ written_more old.written.bytes c.args.bytes.now old.last c.add.new.self old.sound.ends c.add.ensures.first c.add.ensures.bytes;
      room = c.add.ensures.room;
      sum = refl;
      limit = refl;
    }
