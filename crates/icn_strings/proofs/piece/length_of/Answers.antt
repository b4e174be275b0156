use Rattle.std.proofs.Common.{◌≡◌, ◌∙◌, ◌+◌, ◌^◌, ◌<◌, ap, refl, subst, sym, arith}
use Rattle.std.specs.List.{sum_by}
use Rattle.std.proofs.lemmas.List.{take_all}
use Rattle.icn_strings.specs.Pieces.{piece_length}
use Rattle.icn_strings.proofs.PieceLengths.{none_past, piece_past, sum_past, sum_step}
use Rattle.icn_strings.proofs.piece.length_of.Goals as goal

pub returns-in_err-more : goal.returns-in_err-more
returns-in_err-more c =
    none_past c.args.pieces.now _ c.from_residual.ensures
    (piece_past c.args.pieces.now c.loop-piece.piece-index c.loop-piece.sum _ c.loop-piece-test.true c.loop-piece.invariant.so_far c.in_err-more.ensures)

pub returns-in_err-sum : goal.returns-in_err-sum
returns-in_err-sum c =
    none_past c.args.pieces.now _ c.from_residual-in_err-sum.ensures
    (sum_past c.args.pieces.now c.loop-piece.piece-index c.loop-piece.sum _ c.loop-piece-test.true c.loop-piece.invariant.so_far _ c.in_ok-more.ensures.1
    c.in_err-sum.ensures)

pub loop-piece-init : goal.loop-piece-init
loop-piece-init c = record { so_far = refl; small = omega arith }

pub loop-piece-preserved : goal.loop-piece-preserved
loop-piece-preserved c = record {
  so_far =
      c.in_ok-sum.ensures.1
      ∙ (ap (λ n. c.loop-piece.sum + n) c.in_ok-more.ensures.1
      ∙ sum_step c.args.pieces.now c.loop-piece.piece-index c.loop-piece.sum _ c.loop-piece-test.true c.loop-piece.invariant.so_far);
  small = subst (λ n. n < 2 ^ 64) (sym c.in_ok-sum.ensures.1) c.in_ok-sum.ensures.0;
}

pub returns : goal.returns
returns c =
    let all : c.loop-piece.sum ≡ sum_by piece_length c.args.pieces.now =
    c.loop-piece.invariant.so_far
    ∙ ap (λ ps. sum_by piece_length ps) (take_all c.loop-piece.piece-index c.args.pieces.now c.loop-piece-test.false) in
    (subst (λ n. n < 2 ^ 64) all c.loop-piece.invariant.small, all)
