-- What each keyword gives.
use Rattle.std.specs.Prelude.{ℕ, pos, Option, None, Some}
use Rattle.std.specs.Option.{option_map}
use Rattle.std.specs.List.{range_with_len}
use Rattle.icn_text.specs.declared.keyword.Keyword.{Keyword as AnyKeyword}
use Rattle.icn_text.specs.declared.keyword.Keyword.TheVariants as Keywords
use Rattle.icn_value.specs.Values.{Value, Null, Integer, Chars, Std, ACoexp, Input, Output, Errout, KeywordVariable, Subject, Position, Random, ErrorCount, Keyword, Whole, Text, Item, Val, Var}
use Rattle.icn_value.specs.Store.{KeptError}
use Rattle.icn_defs.specs.Errors.{error_text}
use Rattle.icn_defs.specs.Images.{ucase, lcase, letters, digit_bytes}

-- the level of the procedure at hand, the co-expression that is active, and its activator; `&main` is
-- number 0; and the error that is kept
pub record Standing : Type 0 where
  pub level : ℕ
  pub current : ℕ
  pub source : ℕ
  pub kept : Option KeptError

-- a keyword gives this value
abbrev pub value_item : Value → Option Item
value_item value = Some (Val value)

-- a keyword gives this variable
abbrev pub word : KeywordVariable → Option Item
word variable = Some (Var (Whole (Keyword variable)))

-- what the keywords of errors give of the one that is kept, if there is one
abbrev pub kept_number : Option KeptError → Option Item
kept_number None = None
kept_number (Some error) = value_item (Integer (pos error.number))

-- the value that it is about, if any
abbrev pub kept_value : Option KeptError → Option Item
kept_value None = None
kept_value (Some error) = option_map Val error.value

-- the text that a report has for its number, without a charge
abbrev pub kept_text : Option KeptError → Option Item
kept_text None = None
kept_text (Some error) = value_item (Text (error_text error.number))

-- where a keyword gives nothing, it fails: `&fail`, and those of errors where none is kept
abbrev pub keyword_item : Standing → AnyKeyword → Option Item
keyword_item standing Keywords.Ascii = value_item (Chars (range_with_len 0 128))
keyword_item standing Keywords.Cset = value_item (Chars (range_with_len 0 256))
keyword_item standing Keywords.Current = value_item (ACoexp standing.current)
keyword_item standing Keywords.Digits = value_item (Chars digit_bytes)
keyword_item standing Keywords.Errout = value_item (Std Errout)
keyword_item standing Keywords.Fail = None
keyword_item standing Keywords.Input = value_item (Std Input)
keyword_item standing Keywords.Lcase = value_item (Chars lcase)
keyword_item standing Keywords.Letters = value_item (Chars letters)
keyword_item standing Keywords.Level = value_item (Integer (pos standing.level))
keyword_item standing Keywords.Main = value_item (ACoexp 0)
keyword_item standing Keywords.Null = value_item Null
keyword_item standing Keywords.Output = value_item (Std Output)
keyword_item standing Keywords.Pos = word Position
keyword_item standing Keywords.Random = word Random
keyword_item standing Keywords.Source = value_item (ACoexp standing.source)
keyword_item standing Keywords.Subject = word Subject
keyword_item standing Keywords.Ucase = value_item (Chars ucase)
keyword_item standing Keywords.Error = word ErrorCount
keyword_item standing Keywords.ErrorNumber = kept_number standing.kept
keyword_item standing Keywords.ErrorValue = kept_value standing.kept
keyword_item standing Keywords.ErrorText = kept_text standing.kept
