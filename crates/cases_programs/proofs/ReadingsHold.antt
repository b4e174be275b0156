-- Each case of the table holds, by computing.
use Rattle.std.proofs.Common.{refl}
use Rattle.std.specs.Char.{encode_utf8}
use Rattle.std.specs.Fmt.{digits}
use Rattle.std.specs.List.{AllByRecursion}
use Rattle.std.specs.Str.{chars, is_utf8}
use Rattle.cases_programs.specs.Readings.{Reads, readings}

pub readings_hold : AllByRecursion Reads readings
unfolding chars digits encode_utf8 is_utf8
readings_hold = (refl, (refl, (refl, (refl, tt))))
