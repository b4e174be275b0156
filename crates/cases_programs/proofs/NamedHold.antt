-- Each case of the table holds, by computing.
use Rattle.std.proofs.Common.{refl}
use Rattle.std.specs.Fmt.{digits}
use Rattle.std.specs.List.{AllByRecursion}
use Rattle.cases_programs.specs.Cases.{Holds}
use Rattle.cases_programs.specs.Named.{named_calls}

pub named_calls_hold : AllByRecursion Holds named_calls
unfolding digits
named_calls_hold = (refl, (refl, (refl, (refl, (refl, tt)))))
