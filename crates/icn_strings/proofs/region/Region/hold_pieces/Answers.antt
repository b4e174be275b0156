use Rattle.std.proofs.Common.{◌≡◌, ◌∙◌, List, ℕ, length, sym, ap, subst, arith}
use Rattle.icn_strings.specs.Pieces.{made_of}
use Rattle.icn_strings.specs.WrittenBytes.{CanWrite}
use Rattle.icn_strings.proofs.KeptRegions.{is_new, keeps_then, new_bytes}
use Rattle.icn_strings.proofs.PieceLengths.{made_long}
use Rattle.icn_strings.proofs.RegionWrites.{all_stay, can_made, made_kept, writes_charge, writes_keep}
use Rattle.icn_strings.proofs.region.Region.hold_pieces.Goals as goal

pub add_pieces-requires-clause-pieces : goal.add_pieces-requires-clause-pieces
add_pieces-requires-clause-pieces c = all_stay c.args.pieces.now c.in_ok-make_room.ensures.kept c.requires.pieces

pub add_pieces-requires-clause-can : goal.add_pieces-requires-clause-can
add_pieces-requires-clause-can c =
    let made = c.in_ok-make_room.ensures in
    subst (λ n. CanWrite c.make_room.new.self n) (c.requires.len ∙ made_long c.args.self.now c.args.pieces.now c.requires.pieces)
    (can_made c.args.self.now c.args.len made.written made.room (omega (arith, c.end-start.ensures.end, c.end-start.ensures.short)))

pub returns-clause-of : goal.returns-clause-of
returns-clause-of c =
    let made = c.in_ok-make_room.ensures in
    let long : c.args.len ≡ length (made_of c.make_room.new.self c.args.pieces.now) =
    c.requires.len ∙ ap (λ (ys : List ℕ). length ys) (sym (made_kept c.args.pieces.now made.kept c.requires.pieces)) in
    is_new c.args.self.now c.make_room.new.self c.add_pieces.new.self _ (made_of c.make_room.new.self c.args.pieces.now) made.written
    c.add_pieces.ensures.first c.add_pieces.ensures.written c.end-start.ensures.end long

pub returns-clause-bytes : goal.returns-clause-bytes
returns-clause-bytes c =
    let made = c.in_ok-make_room.ensures in
    let same = made_kept c.args.pieces.now made.kept c.requires.pieces in
    let long : c.args.len ≡ length (made_of c.make_room.new.self c.args.pieces.now) =
    c.requires.len ∙ ap (λ (ys : List ℕ). length ys) (sym same) in
    new_bytes c.args.self.now c.make_room.new.self c.add_pieces.new.self _ (made_of c.make_room.new.self c.args.pieces.now) made.written
    c.add_pieces.ensures.written c.end-start.ensures.end long
    ∙ same

pub returns-clause-sum : goal.returns-clause-sum
returns-clause-sum c = writes_charge c.add_pieces.ensures ∙ c.in_ok-make_room.ensures.sum

pub returns-clause-kept : goal.returns-clause-kept
returns-clause-kept c = keeps_then c.in_ok-make_room.ensures.kept (writes_keep c.add_pieces.ensures)
