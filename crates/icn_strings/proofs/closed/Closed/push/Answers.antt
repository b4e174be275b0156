use Rattle.std.proofs.Common.{◌≡◌, ◌∙◌, [], sym}
use Rattle.icn_strings.specs.Parts.{part}
use Rattle.icn_strings.specs.Chunks.{parts_of_chunks}
use Rattle.icn_strings.proofs.ClosedParts.{on_ok, with_behind, with_front}
use Rattle.icn_strings.proofs.closed.Closed.push.Goals as goal

pub push-requires : goal.push-requires
push-requires c = c.has_room.ensures.room c.if-has_room.true

pub returns-then-has_room : goal.returns-then-has_room
returns-then-has_room c =
    let none : c.self.inside.chunks.items ≡ [] = sym c.deref.ensures.value ∙ c.has_room.ensures.none c.if-has_room.true in
    on_ok c.push.result
    (λ added. with_front c.self.inside.packed _ c.args.self.now c.self.inside.chunks.items (part c.args.first c.args.bytes.now) none c.self.view_is added)
    c.push.ensures.added

pub returns : goal.returns
returns c =
    on_ok c.push_chunk.result
    (λ added. with_behind c.self.inside.packed (parts_of_chunks c.self.inside.chunks.items) _ c.args.self.now (part c.args.first c.args.bytes.now)
    c.self.view_is added)
    c.push_chunk.ensures
