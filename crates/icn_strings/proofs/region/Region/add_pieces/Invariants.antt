use Rattle.std.proofs.Common.{take}
use Rattle.icn_strings.specs.Pieces.{made_of}
use Rattle.icn_strings.specs.WrittenBytes.{Writes}
use Rattle.icn_strings.proofs.region.Region.add_pieces.Given as goal

-- the pieces so far are written
abbrev pub invariant-loop-piece : goal.invariant-loop-piece
invariant-loop-piece l = Writes l.initial.self l.self (made_of l.initial.self (take l.piece-index l.pieces))
