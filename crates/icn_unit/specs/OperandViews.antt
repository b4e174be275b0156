-- How contracts see the parts of operands.
use Rattle.std.specs.Prelude.{◌==◌, ℕ, ◌+◌, ◌*◌, Bool, true, false, ◌&&◌, nat_le, nat_lt, List, [], ◌∷◌, Option, Some, None, if◌then◌else◌}
use Rattle.icn_profile.specs.Numbers.{greatest_integer}
use Rattle.icn_unit.specs.declared.fault.UnitStop.{UnitStop}
use Rattle.icn_unit.specs.declared.fault.UnitStop.TheVariants.{Broken as StopBroken, NoMemory as StopNoMemory}
use Rattle.icn_unit.specs.declared.fault.UcodeFault.{UcodeFault}
use Rattle.icn_unit.specs.declared.fault.UcodeFault.TheVariants.{Broken, NoMemory}
use Rattle.icn_unit.specs.UnitOperands.{value_from, is_hexadecimal, hexadecimal_value}

-- a number, unless it is above the greatest integer
abbrev pub within_limit : ℕ → Option ℕ
within_limit n = if nat_le n greatest_integer then Some n else None

-- the number that decimal digits write, unless it is above the greatest integer
abbrev pub value_limited : List ℕ → Option ℕ
value_limited text = within_limit (value_from 0 text)

-- the byte that two lower-case hexadecimal digits write
abbrev pub byte_item : ℕ → ℕ → Option ℕ
byte_item a b = if is_hexadecimal a && is_hexadecimal b
    then Some (hexadecimal_value a * 16 + hexadecimal_value b) else None

-- a byte is below the first of some, if there is one
abbrev pub below_first : ℕ → List ℕ → Bool
below_first b [] = true
below_first b (c ∷ rest) = nat_lt b c

-- a byte that can stand in a line: any but the newline
abbrev pub is_in_line : ℕ → Bool
is_in_line b = if b == 10 then false else true

-- why the first or the second text of a unit could not be read
abbrev pub fault_in : Bool → UnitStop → UcodeFault
fault_in second (StopBroken rule) = Broken rule second
fault_in second StopNoMemory = NoMemory
