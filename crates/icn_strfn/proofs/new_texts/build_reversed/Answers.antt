-- The piece makes the row's text.
use Rattle.std.proofs.Common.{List, ℕ, reverse, ap}
use Rattle.icn_strings.specs.declared.piece.StringPiece.TheVariants.{Reversed}
use Rattle.icn_heap.specs.Extents.{text_in}
use Rattle.icn_heap.specs.Heaps.{extent_of, heap_of}
use Rattle.icn_strfn.proofs.MadePieces.{gives_as, one_is, one_made, refuses_as}
use Rattle.icn_strfn.proofs.new_texts.build_reversed.Goals as goal

pub build_pieces-requires-clause-pieces : goal.build_pieces-requires-clause-pieces
build_pieces-requires-clause-pieces g c =
    let all = extent_of c.args.w.now.heap in one_is all.strings (Reversed c.held.result) (c.held.ensures.of all c.requires.text) tt

pub returns-clause-row : goal.returns-clause-row
returns-clause-row g c =
    let all = extent_of c.args.w.now.heap in
    let text : List ℕ = text_in all c.args.span in
    gives_as c.args.w.now c.build_pieces.new.w (g.L.Locals.items c.args.l.now) _ _ c.build_pieces.result
    (one_made all.strings (Reversed c.held.result) (reverse text) (ap (λ (ys : List ℕ). reverse ys) (c.held.ensures.bytes all)))
    c.build_pieces.ensures.row

pub returns-clause-limits : goal.returns-clause-limits
returns-clause-limits g c =
    let all = extent_of c.args.w.now.heap in
    let text : List ℕ = text_in all c.args.span in
    refuses_as (heap_of c.args.w.now.heap) _ _ c.build_pieces.result
    (one_made all.strings (Reversed c.held.result) (reverse text) (ap (λ (ys : List ℕ). reverse ys) (c.held.ensures.bytes all)))
    c.build_pieces.ensures.limits
