-- Each code is that of its files, by computing.
use Rattle.std.proofs.Common.{refl}
use Rattle.std.specs.List.{AllByRecursion}
use Rattle.cases_programs.specs.Joinings.{HasItsCode, joinings}

pub joinings_hold : AllByRecursion HasItsCode joinings
joinings_hold = (record { csets = refl; others = refl }, (record { csets = refl; others = refl }, tt))
