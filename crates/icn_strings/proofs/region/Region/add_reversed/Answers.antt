use Rattle.std.proofs.Common.{◌≡◌, ◌∙◌, ◌++◌, ℕ, List, length, reverse, arith}
use Rattle.icn_strings.specs.Pieces.{origin_bytes, origin_length}
use Rattle.icn_strings.specs.WrittenBytes.{Writes}
use Rattle.std.proofs.lemmas.List.{length-reverse}
use Rattle.icn_strings.proofs.PieceLengths.{origin_long}
use Rattle.icn_strings.proofs.RegionWrites.{changed_behind, changed_end, kept_within, sound_changed}
use Rattle.icn_strings.proofs.region.Region.add_reversed.Goals as goal

pub reverse_behind-requires : goal.reverse_behind-requires
reverse_behind-requires c =
    kept_within c.args.self.now c.add_origin.new.self (origin_bytes c.args.self.now c.args.origin.now) c.last_len-kept.result c.add_origin.ensures
    c.last_len-kept.ensures

pub invariant_of-self : goal.invariant_of-self
invariant_of-self c =
    let old = c.args.self.now in
    let mid = c.add_origin.new.self in
    let bytes = origin_bytes old c.args.origin.now in
    let more : List ℕ = reverse bytes in
    let now = changed_end old mid bytes c.last_len-kept.result c.add_origin.ensures c.last_len-kept.ensures (λ (ys : List ℕ). reverse ys) c.reverse_behind.new.self c.reverse_behind.ensures.bytes in
    let long : length more ≡ origin_length c.args.origin.now = length-reverse bytes ∙ origin_long old c.args.origin.now c.requires.origin in
    let whole : c.up_to-self.result.bytes ≡ old.written.bytes ++ more =
    c.up_to-self.ensures ∙ changed_behind old mid bytes more c.reverse_behind.new.self c.add_origin.ensures c.reverse_behind.ensures.first now in
    record {
      sound = sound_changed old mid bytes more _ c.reverse_behind.new.self c.add_origin.ensures c.reverse_behind.ensures.first now whole (omega (arith, long, c.requires.can.short));
      counted = mid.counted;
    }

pub returns : goal.returns
returns c =
    let old = c.args.self.now in
    let mid = c.add_origin.new.self in
    let bytes = origin_bytes old c.args.origin.now in
    let more : List ℕ = reverse bytes in
    let is : Writes old mid bytes = c.add_origin.ensures in
    let now = changed_end old mid bytes c.last_len-kept.result is c.last_len-kept.ensures (λ (ys : List ℕ). reverse ys) c.reverse_behind.new.self c.reverse_behind.ensures.bytes in
    let long : length more ≡ length bytes = length-reverse bytes in
    record {
      closed = is.closed;
      first = c.reverse_behind.ensures.first ∙ is.first;
      bytes = now;
      written = c.up_to-self.ensures ∙ changed_behind old mid bytes more c.reverse_behind.new.self is c.reverse_behind.ensures.first now;
      room = λ count room. c.reverse_behind.ensures.room count (is.room count (omega (arith, long, room)));
      sum = is.sum;
      limit = is.limit;
    }
