-- A world with another scanning pair.
use Rattle.std.specs.Prelude.{Option, None, Some}
use Rattle.icn_value.specs.Store.{World}
use Rattle.icn_run.specs.Calls.{Pair}

-- the world with another subject and position
abbrev pub world_with_pair : Pair → World → World
world_with_pair pair world = record world { subject = pair.subject; position = pair.position }

-- the same, where a pair comes back
abbrev pub maybe_paired : Option Pair → World → World
maybe_paired (Some pair) world = world_with_pair pair world
maybe_paired None world = world
