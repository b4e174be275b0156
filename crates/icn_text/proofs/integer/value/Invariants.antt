use Rattle.std.proofs.Common.{◌≡◌, ◌<◌, ◌^◌, drop}
use Rattle.std.specs.Str.Parse.{digits_value, digits_value_after}
use Rattle.icn_text.proofs.integer.value.Given as goal

-- what is left writes the rest of the number
abbrev pub invariant-loop-digit : goal.invariant-loop-digit
invariant-loop-digit l = (digits_value_after l.radix l.value (drop l.digit-index l.digits) ≡ digits_value l.radix l.digits) × (l.value < 2 ^ 64)
