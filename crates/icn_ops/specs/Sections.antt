-- How the second position of a section is made of its two integers.
use Rattle.std.specs.Prelude.{ℤ, Result, Ok}
use Rattle.icn_text.specs.declared.arithmetic.Arith.{Arith}
use Rattle.icn_text.specs.IntegerArithmetic.{sum, difference}
use Rattle.icn_ops.specs.declared.sections.Second.{Second}
use Rattle.icn_ops.specs.declared.sections.Second.TheVariants.{Whole, Ahead, Back}

-- the second integer itself, or the first one and that many more or fewer
abbrev pub second_of : Second → ℤ → ℤ → Result ℤ Arith
second_of Whole = λ m n. Ok n
second_of Ahead = sum
second_of Back = difference
