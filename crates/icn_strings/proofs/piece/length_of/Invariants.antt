use Rattle.std.proofs.Common.{◌≡◌, ◌<◌, ◌^◌, take}
use Rattle.std.specs.List.{sum_by}
use Rattle.icn_strings.specs.Pieces.{piece_length}
use Rattle.icn_strings.proofs.piece.length_of.Given as goal

-- the lengths so far, which are a number of 64 bits
abbrev pub invariant-loop-piece : goal.invariant-loop-piece
invariant-loop-piece l = record {
  so_far : l.sum ≡ sum_by piece_length (take l.piece-index l.pieces);
  small : l.sum < 2 ^ 64;
}
