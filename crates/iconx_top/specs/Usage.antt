-- The usage line of the command.
use Rattle.std.specs.Prelude.{ℕ, List, codes}

-- the usage line
abbrev pub usage : List ℕ
usage = codes "usage: iconx [-n turns] [-s bytes] [-b cells] [-l levels] image [argument ...] | iconx -m new image\n"
