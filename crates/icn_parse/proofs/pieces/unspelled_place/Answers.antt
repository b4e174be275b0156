use Rattle.std.proofs.Common.{subst}
use Rattle.icn_tree.specs.Phrases.{place_of}
use Rattle.icn_parse.specs.Views.{DecidesTree, UnspelledAt}
use Rattle.icn_parse.proofs.FirstUnspelled.{left_more, place_first, unspelled_here}
use Rattle.icn_parse.proofs.pieces.unspelled_place.Goals as goal

pub returns-then-not-branch : goal.returns-then-not-branch
returns-then-not-branch c =
    let treeless = subst (DecidesTree c.split_piece.result.0.now) c.if-not-branch.true c.in_ok-has_tree.ensures in
    subst (UnspelledAt c.args.tokens.now)
    (place_first c.split_piece.result.0.now c.index-piece-0.result c.index-piece-0-then-not-branch.result c.split_piece.ensures.kept)
    (c.pieces.invariant.behind (place_of c.split_piece.result.0.now)
    (unspelled_here c.pieces.rest.now c.split_piece.result.0.now c.split_piece.result.1.now c.split_piece.ensures.cut treeless))

pub pieces-preserved : goal.pieces-preserved
pieces-preserved c =
    left_more c.args.tokens.now c.pieces.rest.now c.split_piece.result.0.now c.split_piece.result.1.now c.split_piece.ensures.cut c.split_piece.ensures.alone
    (subst (DecidesTree c.split_piece.result.0.now) c.if-not-branch.false c.in_ok-has_tree.ensures) c.pieces.invariant
