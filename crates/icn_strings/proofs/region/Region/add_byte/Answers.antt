use Rattle.std.proofs.Common.{◌≡◌, ◌∙◌, ◌++◌, ℕ, List, replicate, refl, arith}
use Rattle.std.proofs.lemmas.List.{length-replicate}
use Rattle.icn_strings.proofs.AddedBytes.{written_more, sound_more}
use Rattle.icn_strings.proofs.region.Region.add_byte.Goals as goal

pub invariant_of-self : goal.invariant_of-self
invariant_of-self c =
    let old = c.args.self.now in
    let new = c.fill.new.self in
    let more : List ℕ = replicate c.args.count c.args.byte in
    let whole : c.up_to-self.result.bytes ≡ old.written.bytes ++ more =
    c.up_to-self.ensures ∙ written_more old.written.bytes more old.last new old.sound.ends c.fill.ensures.first c.fill.ensures.bytes in
    record {
      sound =
          sound_more old.written.bytes c.up_to-self.result.bytes more old.closed old.last new old.sum old.limit old.sound
          c.fill.ensures.first c.fill.ensures.bytes whole (omega (arith, length-replicate c.args.count c.args.byte, c.requires.short));
      counted = old.counted;
    }

pub returns : goal.returns
returns c =
    let old = c.args.self.now in
    let more : List ℕ = replicate c.args.count c.args.byte in
    record {
      closed = refl;
      first = c.fill.ensures.first;
      bytes = c.fill.ensures.bytes;
      written =
          c.up_to-self.ensures ∙ written_more old.written.bytes more old.last c.fill.new.self old.sound.ends c.fill.ensures.first c.fill.ensures.bytes;
      room = λ count room. c.fill.ensures.room count (omega (arith, length-replicate c.args.count c.args.byte, room));
      sum = refl;
      limit = refl;
    }
