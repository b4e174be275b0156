use Rattle.std.proofs.Common.{subst}
use Rattle.icn_structs.specs.Turns.{IsNumbering}
use Rattle.icn_structs.proofs.StandingNumbers.{standing_numbers}
use Rattle.icn_structs.proofs.turns.Turns.len.Goals as goal

pub returns-clause-numbering : goal.returns-clause-numbering
returns-clause-numbering c = subst IsNumbering c.self.view_is (standing_numbers c.self.inside.places.items c.self.inside.order c.self.invariant)
