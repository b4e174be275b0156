-- Arithmetic, comparisons of numbers, and counting.
use Rattle.std.specs.Prelude.{ℤ, pos, ◌+ℤ◌, neg_ℤ, int_le, Bool, not, Option, None, Some, Result, if◌then◌else◌}
use Rattle.std.specs.Int.{is_positive}
use Rattle.std.specs.Ordering.{int_cmp, int_eq, is_lt, is_le, is_eq, is_ge, is_gt, is_ne}
use Rattle.icn_text.specs.declared.arithmetic.Arith.{Arith}
use Rattle.icn_text.specs.IntegerArithmetic.{if_fits, within_64_bits, sum, difference, product, quotient, remainder, power}
use Rattle.icn_value.specs.Values.{Integer, Item, Val}
use Rattle.icn_defs.specs.Rows.{◌>>=◌, ◌>>◌, Row, Counting, fails, gives_value, suspends, check, number_or_error, fails_unless}
use Rattle.icn_defs.specs.ReadAndAssign.{the_value}
use Rattle.icn_defs.specs.Arguments.{number, integer}

-- `+n`: the integer
abbrev pub number_row : Item → Row
number_row x = do
  v ← the_value x
  n ← number v
  gives_value (Integer n)

-- `-n`: 203 past 64 bits
abbrev pub negate_row : Item → Row
negate_row x = do
  v ← the_value x
  n ← number v
  result ← number_or_error (within_64_bits (neg_ℤ n))
  gives_value (Integer result)

-- `x + y` and the like
abbrev pub arithmetic_row : (ℤ → ℤ → Result ℤ Arith) → Item → Item → Row
arithmetic_row operation x y = do
  v ← the_value x
  w ← the_value y
  m ← number v
  n ← number w
  result ← number_or_error (operation m n)
  gives_value (Integer result)

-- `m + n`
abbrev pub add_row : Item → Item → Row
add_row x y = arithmetic_row sum x y

-- `m - n`
abbrev pub subtract_row : Item → Item → Row
subtract_row x y = arithmetic_row difference x y

-- `m * n`
abbrev pub multiply_row : Item → Item → Row
multiply_row x y = arithmetic_row product x y

-- `m / n`: 201 by zero
abbrev pub divide_row : Item → Item → Row
divide_row x y = arithmetic_row quotient x y

-- `m % n`: 202 by zero
abbrev pub remainder_row : Item → Item → Row
remainder_row x y = arithmetic_row remainder x y

-- `m ^ n`
abbrev pub power_row : Item → Item → Row
power_row x y = arithmetic_row power x y

-- Comparisons

-- `m < n` and the like: the right integer, or it fails
abbrev pub number_comparison_row : (ℤ → ℤ → Bool) → Item → Item → Row
number_comparison_row test x y = do
  v ← the_value x
  w ← the_value y
  m ← number v
  n ← number w
  fails_unless (test m n)
  gives_value (Integer n)

-- `m < n`
abbrev pub less_row : Item → Item → Row
less_row x y = number_comparison_row (λ m n. is_lt (int_cmp m n)) x y

-- `m <= n`
abbrev pub less_or_equal_row : Item → Item → Row
less_or_equal_row x y = number_comparison_row (λ m n. is_le (int_cmp m n)) x y

-- `m = n`
abbrev pub equal_row : Item → Item → Row
equal_row x y = number_comparison_row (λ m n. is_eq (int_cmp m n)) x y

-- `m >= n`
abbrev pub greater_or_equal_row : Item → Item → Row
greater_or_equal_row x y = number_comparison_row (λ m n. is_ge (int_cmp m n)) x y

-- `m > n`
abbrev pub greater_row : Item → Item → Row
greater_row x y = number_comparison_row (λ m n. is_gt (int_cmp m n)) x y

-- `m ~= n`
abbrev pub not_equal_row : Item → Item → Row
not_equal_row x y = number_comparison_row (λ m n. is_ne (int_cmp m n)) x y

-- Counting

-- whether a count with this step has not passed its end
abbrev pub counts_on : ℤ → ℤ → ℤ → Bool
counts_on step last n = if is_positive step then int_le n last else int_le last n

-- the next integer of a count, if there is one that has not passed the end
abbrev pub count_from : ℤ → ℤ → Option ℤ → Row
count_from last step None = fails
count_from last step (Some n) = do
  fails_unless (counts_on step last n)
  suspends (Val (Integer n)) (Counting n last step)

-- `i to j by k`; it ends silently at the end of 64 bits
abbrev pub to_by_row : Item → Item → Item → Row
to_by_row x y z = do
  u ← the_value x
  v ← the_value y
  w ← the_value z
  first ← integer u
  last ← integer v
  step ← integer w
  check (not (int_eq step (pos 0))) 211 None
  count_from last step (Some first)

-- resumed, the count goes on by its step
abbrev pub counting_again : ℤ → ℤ → ℤ → Row
counting_again n last step = count_from last step (if_fits (n +ℤ step))
