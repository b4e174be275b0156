use Rattle.std.proofs.Common.{subst, sym}
use Rattle.icn_structs.specs.Turns.{IsNumbering}
use Rattle.icn_structs.proofs.StandingNumbers.{standing_numbers}
use Rattle.icn_structs.proofs.turns.Turns.remove.Goals as goal

pub returns-then-len-clause-numbering : goal.returns-then-len-clause-numbering
returns-then-len-clause-numbering c =
    subst IsNumbering (sym c.close.ensures.same) (standing_numbers c.take_out.new.places.items c.take_out.new.order c.take_out.ensures.standing)

pub returns-else-len-clause-numbering : goal.returns-else-len-clause-numbering
returns-else-len-clause-numbering c = standing_numbers c.take_out.new.places.items c.take_out.new.order c.take_out.ensures.standing
