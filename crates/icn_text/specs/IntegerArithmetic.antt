-- Arithmetic on integers of 64 bits.
use Rattle.std.specs.Prelude.{ℕ, ℤ, pos, negsuc, ◌+◌, ◌+ℤ◌, ◌-ℤ◌, ◌*ℤ◌, ◌&&◌, int_le, int_div, int_rem, Bool, Option, None, Some, Result, Ok, Err, ok_or, if◌then◌else◌}
use Rattle.std.specs.Int.{int_pow}
use Rattle.std.specs.Ordering.{int_eq}
use Rattle.icn_profile.specs.Numbers.{greatest_integer}
use Rattle.icn_text.specs.declared.arithmetic.Arith.{Arith}
use Rattle.icn_text.specs.declared.arithmetic.Arith.TheVariants.{Overflow, DivideByZero, RemainderByZero}

-- whether 64 bits hold it
abbrev pub fits : ℤ → Bool
fits n = int_le (negsuc greatest_integer) n && int_le n (pos greatest_integer)

-- an integer that 64 bits hold
abbrev pub if_fits : ℤ → Option ℤ
if_fits n = if fits n then Some n else None

-- an integer that 64 bits hold, else it overflows
abbrev pub within_64_bits : ℤ → Result ℤ Arith
within_64_bits n = ok_or (if_fits n) Overflow

-- the sum of two integers, or that it does not fit 64 bits
abbrev pub sum : ℤ → ℤ → Result ℤ Arith
sum m n = within_64_bits (m +ℤ n)

-- the difference of two integers, or that it does not fit 64 bits
abbrev pub difference : ℤ → ℤ → Result ℤ Arith
difference m n = within_64_bits (m -ℤ n)

-- the product of two integers, or that it does not fit 64 bits
abbrev pub product : ℤ → ℤ → Result ℤ Arith
product m n = within_64_bits (m *ℤ n)

-- the quotient, truncated toward zero
abbrev pub quotient : ℤ → ℤ → Result ℤ Arith
quotient m n = if int_eq n (pos 0) then Err DivideByZero else within_64_bits (int_div m n)

-- the remainder, with the sign of the dividend
abbrev pub remainder : ℤ → ℤ → Result ℤ Arith
remainder m n = if int_eq n (pos 0) then Err RemainderByZero else within_64_bits (int_rem m n)

-- to an exponent below 0, which is -(e + 1): 1 gives 1, -1 gives 1 or -1 by its parity, 0 divides by zero,
-- and others give 0
abbrev pub inverse_power : ℤ → ℕ → Result ℤ Arith
inverse_power m e =
    if int_eq m (pos 0) then Err DivideByZero
    else (if int_eq m (pos 1) then Ok (pos 1)
    else (if int_eq m (negsuc 0) then Ok (int_pow m (e + 1)) else Ok (pos 0)))

-- to the exponent 0 every integer gives 1
abbrev pub power : ℤ → ℤ → Result ℤ Arith
power m (pos e) = within_64_bits (int_pow m e)
power m (negsuc e) = inverse_power m e
