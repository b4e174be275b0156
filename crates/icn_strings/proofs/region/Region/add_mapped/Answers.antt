use Rattle.std.proofs.Common.{◌≡◌, ◌∙◌, ◌++◌, ℕ, List, length, map, arith}
use Rattle.icn_strings.specs.Pieces.{origin_bytes, origin_length}
use Rattle.icn_strings.specs.WrittenBytes.{Writes}
use Rattle.std.specs.Prelude.{slice_index}
use Rattle.std.proofs.lemmas.List.{length-map}
use Rattle.icn_strings.proofs.PieceLengths.{origin_long}
use Rattle.icn_strings.proofs.RegionWrites.{changed_behind, changed_end, kept_within, sound_changed}
use Rattle.icn_strings.proofs.region.Region.add_mapped.Goals as goal

pub map_behind-requires : goal.map_behind-requires
map_behind-requires c =
    kept_within c.args.self.now c.add_origin.new.self (origin_bytes c.args.self.now c.args.origin.now) c.last_len-kept.result c.add_origin.ensures
    c.last_len-kept.ensures

pub invariant_of-self : goal.invariant_of-self
invariant_of-self c =
    let old = c.args.self.now in
    let mid = c.add_origin.new.self in
    let bytes = origin_bytes old c.args.origin.now in
    let more : List ℕ = map (slice_index c.args.images.now) bytes in
    let now = changed_end old mid bytes c.last_len-kept.result c.add_origin.ensures c.last_len-kept.ensures (λ (ys : List ℕ). map (slice_index c.args.images.now) ys) c.map_behind.new.self c.map_behind.ensures.bytes in
    let long : length more ≡ origin_length c.args.origin.now = length-map bytes (slice_index c.args.images.now) ∙ origin_long old c.args.origin.now c.requires.origin in
    let whole : c.up_to-self.result.bytes ≡ old.written.bytes ++ more =
    c.up_to-self.ensures ∙ changed_behind old mid bytes more c.map_behind.new.self c.add_origin.ensures c.map_behind.ensures.first now in
    record {
      sound = sound_changed old mid bytes more _ c.map_behind.new.self c.add_origin.ensures c.map_behind.ensures.first now whole (omega (arith, long, c.requires.can.short));
      counted = mid.counted;
    }

pub returns : goal.returns
returns c =
    let old = c.args.self.now in
    let mid = c.add_origin.new.self in
    let bytes = origin_bytes old c.args.origin.now in
    let more : List ℕ = map (slice_index c.args.images.now) bytes in
    let is : Writes old mid bytes = c.add_origin.ensures in
    let now = changed_end old mid bytes c.last_len-kept.result is c.last_len-kept.ensures (λ (ys : List ℕ). map (slice_index c.args.images.now) ys) c.map_behind.new.self c.map_behind.ensures.bytes in
    let long : length more ≡ length bytes = length-map bytes (slice_index c.args.images.now) in
    record {
      closed = is.closed;
      first = c.map_behind.ensures.first ∙ is.first;
      bytes = now;
      written = c.up_to-self.ensures ∙ changed_behind old mid bytes more c.map_behind.new.self is c.map_behind.ensures.first now;
      room = λ count room. c.map_behind.ensures.room count (is.room count (omega (arith, long, room)));
      sum = is.sum;
      limit = is.limit;
    }
