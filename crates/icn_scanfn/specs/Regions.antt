-- A text and two positions in it, as arguments give them and as a search has them.
use Rattle.std.specs.Prelude.{ℕ, List}
use Rattle.icn_value.specs.Values.{Value}
use Rattle.icn_defs.specs.Arguments.{arg}
use Rattle.icn_defs.specs.Rows.{◌>>=◌, ◌>>◌, Finds, costs_text}
use Rattle.icn_defs.specs.Scanning.{SearchedText, region_from}
use Rattle.icn_heap.specs.Extents.{Extent, text_in, value_in}
use Rattle.icn_args.specs.RowWords.{the_text}
use Rattle.icn_scanfn.specs.declared.regions.Given.{Given}
use Rattle.icn_scanfn.specs.declared.regions.Searched.{Searched}

-- the text of a value that was given, and the positions
abbrev pub given_in : Extent → Given → SearchedText
given_in all given =
    record { text = the_text (value_in all given.val); first = given.first; last = given.last }

-- a text of the heap, and the positions
abbrev pub searched_in : Extent → Searched → SearchedText
searched_in all searched =
    record { text = text_in all searched.text; first = searched.first; last = searched.last }

-- the arguments from this one on as a text and two positions, once the text is charged
abbrev pub charged_region : List Value → ℕ → Finds SearchedText
charged_region args n next = do
  region ← region_from args n
  costs_text (arg args n)
  next region
