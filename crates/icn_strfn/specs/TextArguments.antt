-- Texts that are arguments, and those that stand for arguments that are null.
use Rattle.std.specs.Prelude.{ℕ, List, codes, ⊤}
use Rattle.icn_value.specs.Values.{Value, Text}
use Rattle.icn_defs.specs.Arguments.{value_or}
use Rattle.icn_defs.specs.Images.{lcase, ucase}
use Rattle.icn_heap.specs.Extents.{Extent, IsText, text_in}
use Rattle.icn_strfn.specs.declared.text_arguments.DefaultText.{DefaultText}
use Rattle.icn_strfn.specs.declared.text_arguments.DefaultText.TheVariants.{Blank, Upper, Lower}
use Rattle.icn_strfn.specs.declared.text_arguments.TextArgument.{TextArgument}
use Rattle.icn_strfn.specs.declared.text_arguments.TextArgument.TheVariants.{Held, Missing}

-- the bytes that stand for an argument that is null
abbrev pub default_bytes : DefaultText → List ℕ
default_bytes Blank = codes " "
default_bytes Upper = ucase
default_bytes Lower = lcase

-- a value, or its default where it is null
abbrev pub or_default : DefaultText → Value → Value
or_default default value = value_or (Text (default_bytes default)) value

-- the bytes of an argument
abbrev pub argument_bytes : Extent → TextArgument → List ℕ
argument_bytes all (Held span) = text_in all span
argument_bytes all (Missing default) = default_bytes default

-- its text is of the heap, or a default
abbrev pub IsArgument : Extent → TextArgument → Type 0
IsArgument all (Held span) = IsText all span
IsArgument all (Missing default) = ⊤
