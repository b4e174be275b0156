-- What calls say that read variables.
use Rattle.std.specs.Prelude.{◌≡◌, Option, None, ⊤}
use Rattle.icn_value.specs.Values.{Value}
use Rattle.icn_vars.specs.declared.stop.Stop.{Stop}
use Rattle.icn_vars.specs.declared.stop.Stop.TheVariants.{Error, NoMemory}

-- there is no value, which is error 205, or memory was wanting
abbrev pub IsGone : Option Value → Stop → Type 0
IsGone found (Error number offending) = (number ≡ 205) × (offending ≡ None) × (found ≡ None)
IsGone found NoMemory = ⊤
