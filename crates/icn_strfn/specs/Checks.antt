-- What the checks of a row find.
use Rattle.std.specs.Prelude.{◌≡◌, ℕ, ℤ, pos, negsuc, length, List, Option, Some, None, ⊤}
use Rattle.std.specs.Option.{option_map}
use Rattle.icn_value.specs.Store.{Setting}
use Rattle.icn_value.specs.Values.{Value}
use Rattle.icn_defs.specs.Arguments.{arg, arg_or}
use Rattle.icn_defs.specs.Conversions.{integer_of}
use Rattle.icn_defs.specs.Rows.{Row, Error as ErrorOutcome}
use Rattle.icn_defs.specs.Strings.{one}
use Rattle.icn_heap.specs.Extents.{Extent, value_in}
use Rattle.icn_vars.specs.declared.stop.Stop.{Stop}
use Rattle.icn_vars.specs.declared.stop.Stop.TheVariants.{Error, NoMemory}
use Rattle.icn_args.specs.RowWords.{HasText, the_text}
use Rattle.icn_strfn.specs.declared.text_arguments.DefaultText.TheVariants.{Blank, Upper, Lower}
use Rattle.icn_strfn.specs.TextArguments.{or_default}

-- an integer at or above 0
abbrev pub natural_in : ℤ → Option ℕ
natural_in (pos n) = Some n
natural_in (negsuc n) = None

-- the row stops with this, and changes nothing; of want of memory this says nothing
abbrev pub StopsRow : Extent → Row → Setting → Stop → Type 0
StopsRow all row setting (Error number offending) =
    row setting ≡ ErrorOutcome number (option_map (value_in all) offending) setting
StopsRow all row setting NoMemory = ⊤

-- a text can be laid out in a field of so many bytes
pub record IsField (args : List Value) (width : ℕ) : Type 0 where
  pub text : HasText (arg args 0)
  pub count : integer_of (arg_or one args 1) ≡ Some (pos width)
  pub fill : HasText (or_default Blank (arg args 2))

-- the bytes of a text can become others
pub record IsMapping (args : List Value) : Type 0 where
  pub text : HasText (arg args 0)
  pub from : HasText (or_default Upper (arg args 1))
  pub to : HasText (or_default Lower (arg args 2))
  pub alike : length (the_text (or_default Upper (arg args 1)))
      ≡ length (the_text (or_default Lower (arg args 2)))
