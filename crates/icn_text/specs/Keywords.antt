-- The names and the numbers of the keywords.
use Rattle.std.specs.Prelude.{ℕ, List as Bytes, codes}
use Rattle.icn_text.specs.declared.keyword.Keyword.{Keyword}
use Rattle.icn_text.specs.declared.keyword.Keyword.TheVariants.{Ascii, Cset, Current, Digits, Errout, Fail, Input, Lcase, Letters, Level, Main, Null, Output, Pos, Random, Source, Subject, Ucase, Error, ErrorNumber, ErrorValue, ErrorText}

-- the name of a keyword, without its `&`
abbrev pub keyword_name : Keyword → Bytes ℕ
keyword_name Ascii = codes "ascii"
keyword_name Cset = codes "cset"
keyword_name Current = codes "current"
keyword_name Digits = codes "digits"
keyword_name Errout = codes "errout"
keyword_name Fail = codes "fail"
keyword_name Input = codes "input"
keyword_name Lcase = codes "lcase"
keyword_name Letters = codes "letters"
keyword_name Level = codes "level"
keyword_name Main = codes "main"
keyword_name Null = codes "null"
keyword_name Output = codes "output"
keyword_name Pos = codes "pos"
keyword_name Random = codes "random"
keyword_name Source = codes "source"
keyword_name Subject = codes "subject"
keyword_name Ucase = codes "ucase"
keyword_name Error = codes "error"
keyword_name ErrorNumber = codes "errornumber"
keyword_name ErrorValue = codes "errorvalue"
keyword_name ErrorText = codes "errortext"

-- the number of a keyword, by which an image has it
abbrev pub keyword_number : Keyword → ℕ
keyword_number Ascii = 1
keyword_number Cset = 2
keyword_number Current = 3
keyword_number Digits = 4
keyword_number Errout = 5
keyword_number Fail = 6
keyword_number Input = 7
keyword_number Lcase = 8
keyword_number Letters = 9
keyword_number Level = 10
keyword_number Main = 11
keyword_number Null = 12
keyword_number Output = 13
keyword_number Pos = 14
keyword_number Random = 15
keyword_number Source = 16
keyword_number Subject = 17
keyword_number Ucase = 18
keyword_number Error = 19
keyword_number ErrorNumber = 20
keyword_number ErrorValue = 21
keyword_number ErrorText = 22
