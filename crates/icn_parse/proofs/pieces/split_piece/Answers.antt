use Rattle.icn_parse.proofs.FirstUnspelled.{piece_alone, piece_cut}
use Rattle.icn_parse.proofs.pieces.split_piece.Goals as goal

pub returns-clause-cut : goal.returns-clause-cut
returns-clause-cut c =
    rw (c.split_at.ensures.front, c.split_at.ensures.back) (piece_cut c.args.tokens.now c.plain_len.result c.requires.some c.plain_len.ensures.counted)

pub returns-clause-alone : goal.returns-clause-alone
returns-clause-alone c = rw c.split_at.ensures.front (piece_alone c.args.tokens.now c.plain_len.result c.requires.some c.plain_len.ensures.counted)
