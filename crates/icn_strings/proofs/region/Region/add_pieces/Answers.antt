use Rattle.std.proofs.Common.{subst}
use Rattle.std.proofs.lemmas.List.{take_all}
use Rattle.icn_strings.specs.Pieces.{made_of}
use Rattle.icn_strings.specs.WrittenBytes.{Writes}
use Rattle.icn_strings.proofs.RegionWrites.{can_piece, piece_stays, writes_keep, writes_none, writes_piece}
use Rattle.icn_strings.proofs.region.Region.add_pieces.Goals as goal

pub loop-piece-init : goal.loop-piece-init
loop-piece-init c = writes_none c.args.self.now

pub add_piece-requires-clause-piece : goal.add_piece-requires-clause-piece
add_piece-requires-clause-piece c =
    piece_stays _ (writes_keep c.loop-piece.invariant) (c.requires.pieces c.loop-piece.piece-index _ c.loop-piece-test.true)

pub add_piece-requires-clause-can : goal.add_piece-requires-clause-can
add_piece-requires-clause-can c =
    can_piece c.args.pieces.now c.loop-piece.piece-index _ c.loop-piece-test.true c.requires.pieces c.requires.can c.loop-piece.invariant

pub loop-piece-preserved : goal.loop-piece-preserved
loop-piece-preserved c =
    writes_piece c.args.pieces.now c.loop-piece.piece-index _ c.loop-piece-test.true c.requires.pieces c.loop-piece.invariant c.add_piece.ensures

pub returns : goal.returns
returns c =
    subst (λ ps. Writes c.args.self.now c.loop-piece.self (made_of c.args.self.now ps))
    (take_all c.loop-piece.piece-index c.args.pieces.now c.loop-piece-test.false) c.loop-piece.invariant
