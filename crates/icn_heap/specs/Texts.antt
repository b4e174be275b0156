-- Which values are texts.
use Rattle.std.specs.Prelude.{Bool, true, false}
use Rattle.icn_value.specs.declared.val.Val.{Val}
use Rattle.icn_value.specs.declared.val.Val.TheVariants.{Text as TextVal}

-- whether a value is a text, so that a key of it takes a copy
abbrev pub is_text : Val → Bool
is_text (TextVal span) = true
is_text val = false
