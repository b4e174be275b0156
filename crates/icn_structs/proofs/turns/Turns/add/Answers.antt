use Rattle.icn_structs.proofs.StandingNumbers.{standing_numbers}
use Rattle.icn_structs.proofs.turns.Turns.add.Goals as goal

pub returns-clause-numbering : goal.returns-clause-numbering
returns-clause-numbering c = standing_numbers c.put_behind.new.places.items c.put_behind.new.order c.put_behind.ensures.standing
