-- Each case of the table holds, by computing.
use Rattle.std.proofs.Common.{refl}
use Rattle.std.specs.Fmt.{digits}
use Rattle.std.specs.List.{AllByRecursion}
use Rattle.cases_programs.specs.Cases.{Holds}
use Rattle.cases_programs.specs.Failures.{failures}

pub failures_hold : AllByRecursion Holds failures
unfolding digits
failures_hold = (refl, (refl, (refl, (refl, (refl, (refl, (refl, (refl, (refl, (refl, (refl, (refl, (refl, (refl, (refl, (refl, tt))))))))))))))))
