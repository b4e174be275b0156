use Rattle.std.proofs.Common.{length}
use Rattle.icn_parse.proofs.FirstUnspelled.{Left}
use Rattle.icn_parse.proofs.pieces.unspelled_place.Given as goal

-- what is left has no tree, and where its first piece stands that spells no declaration, that of all tokens does
abbrev pub invariant-pieces : goal.invariant-pieces
invariant-pieces l = Left l.tokens l.rest

abbrev pub decreases-pieces : goal.decreases-pieces
decreases-pieces l = length l.rest
