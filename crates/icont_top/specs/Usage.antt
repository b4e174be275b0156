-- The usage line of the command.
use Rattle.std.specs.Prelude.{ℕ, List, codes}

-- the usage line
abbrev pub usage : List ℕ
usage = codes "usage: icont [-c] [-o name] [-n turns] [-g number] file ... [-x argument ...]\n"
