use Rattle.std.proofs.Common.{◌≡◌, ◌∙◌, ◌-◌, ◌*◌, List, ℕ, length, ap, arith}
use Rattle.icn_strings.specs.RepeatedBytes.{copies}
use Rattle.icn_strings.specs.Pieces.{origin_bytes, origin_length}
use Rattle.icn_strings.specs.WrittenBytes.{Writes}
use Rattle.icn_strings.proofs.Fillings.{length-copies, one_less}
use Rattle.icn_strings.proofs.PieceLengths.{origin_long}
use Rattle.icn_strings.proofs.RegionWrites.{behind_long, can_less, changed_behind, changed_end, kept_within, sound_changed}
use Rattle.icn_strings.proofs.region.Region.repeat.Goals as goal

pub add_origin-requires-clause-can : goal.add_origin-requires-clause-can
add_origin-requires-clause-can c =
    let len = origin_length c.args.origin.now in
    can_less len (c.args.count * len) (omega (arith, one_less c.args.count len c.requires.some)) c.requires.can

pub repeat_behind-requires-clause-kept : goal.repeat_behind-requires-clause-kept
repeat_behind-requires-clause-kept c =
    kept_within c.args.self.now c.add_origin.new.self (origin_bytes c.args.self.now c.args.origin.now) c.last_len-kept.result c.add_origin.ensures
    c.last_len-kept.ensures

pub repeat_behind-requires-clause-room : goal.repeat_behind-requires-clause-room
repeat_behind-requires-clause-room c =
    let old = c.args.self.now in
    let mid = c.add_origin.new.self in
    let bytes = origin_bytes old c.args.origin.now in
    let len = origin_length c.args.origin.now in
    let is : Writes old mid bytes = c.add_origin.ensures in
    let kept : c.last_len-kept.result ≡ length old.last.bytes.items = c.last_len-kept.ensures in
    let long : length bytes ≡ len = origin_long old c.args.origin.now c.requires.origin in
    let behind : length mid.last.bytes.items - c.last_len-kept.result ≡ len = behind_long old mid bytes c.last_len-kept.result is kept ∙ long in
    let rest : (c.args.count - 1) * (length mid.last.bytes.items - c.last_len-kept.result) ≡ (c.args.count - 1) * len =
    ap (λ n. (c.args.count - 1) * n) behind in
    is.room _ (omega (arith, rest, long, c.requires.can.room, one_less c.args.count len c.requires.some))

pub invariant_of-self : goal.invariant_of-self
invariant_of-self c =
    let old = c.args.self.now in
    let mid = c.add_origin.new.self in
    let bytes = origin_bytes old c.args.origin.now in
    let len = origin_length c.args.origin.now in
    let is : Writes old mid bytes = c.add_origin.ensures in
    let kept : c.last_len-kept.result ≡ length old.last.bytes.items = c.last_len-kept.ensures in
    let long : length bytes ≡ len = origin_long old c.args.origin.now c.requires.origin in
    let more : List ℕ = copies c.args.count bytes in
    let all : length more ≡ c.args.count * len = length-copies c.args.count bytes ∙ ap (λ n. c.args.count * n) long in
    let now = changed_end old mid bytes c.last_len-kept.result is kept (copies c.args.count) c.repeat_behind.new.self c.repeat_behind.ensures.bytes in
    let whole = c.up_to-self.ensures ∙ changed_behind old mid bytes more c.repeat_behind.new.self is c.repeat_behind.ensures.first now in
    record {
      sound =
          sound_changed old mid bytes more _ c.repeat_behind.new.self is c.repeat_behind.ensures.first now whole
          (omega (arith, all, c.requires.can.short));
      counted = mid.counted;
    }

pub returns : goal.returns
returns c =
    let old = c.args.self.now in
    let mid = c.add_origin.new.self in
    let bytes = origin_bytes old c.args.origin.now in
    let len = origin_length c.args.origin.now in
    let is : Writes old mid bytes = c.add_origin.ensures in
    let kept : c.last_len-kept.result ≡ length old.last.bytes.items = c.last_len-kept.ensures in
    let long : length bytes ≡ len = origin_long old c.args.origin.now c.requires.origin in
    let behind : length mid.last.bytes.items - c.last_len-kept.result ≡ len = behind_long old mid bytes c.last_len-kept.result is kept ∙ long in
    let rest : (c.args.count - 1) * (length mid.last.bytes.items - c.last_len-kept.result) ≡ (c.args.count - 1) * len =
    ap (λ n. (c.args.count - 1) * n) behind in
    let more : List ℕ = copies c.args.count bytes in
    let all : length more ≡ c.args.count * len = length-copies c.args.count bytes ∙ ap (λ n. c.args.count * n) long in
    let now = changed_end old mid bytes c.last_len-kept.result is kept (copies c.args.count) c.repeat_behind.new.self c.repeat_behind.ensures.bytes in
    record {
      closed = is.closed;
      first = c.repeat_behind.ensures.first ∙ is.first;
      bytes = now;
      written = c.up_to-self.ensures ∙ changed_behind old mid bytes more c.repeat_behind.new.self is c.repeat_behind.ensures.first now;
      room = λ count room.
          c.repeat_behind.ensures.room count (is.room _ (omega (arith, room, rest, long, all, one_less c.args.count len c.requires.some)));
      sum = is.sum;
      limit = is.limit;
    }
