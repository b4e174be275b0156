-- The reports of run-time errors, and what keywords give.
use Rattle.std.specs.Prelude.{◌≡◌, ℕ, pos, List, [], ◌∷◌, codes, Option, None, Some}
use Rattle.std.specs.List.{range_with_len}
use Rattle.icn_text.specs.declared.keyword.Keyword.{Keyword as AnyKeyword}
use Rattle.icn_text.specs.declared.keyword.Keyword.TheVariants as K
use Rattle.icn_value.specs.Values.{Value, Null, Integer, Text, Chars, AList, ACoexp, Std, Input, Output, Errout, Subject, Position, Random, ErrorCount, Keyword, Whole, Item, Val, Var}
use Rattle.icn_defs.specs.Errors.{error_report}
use Rattle.icn_defs.specs.Keywords.{Standing, keyword_item}
use Rattle.cases_rows.specs.Cases.{names, heap}

-- an error by its number and perhaps a value, and its report
pub record Report : Type 0 where
  pub number : ℕ
  pub offending : Option Value
  pub text : List ℕ

-- the report of the error is this text
pub record IsReported (report : Report) : Type 0 where
  pub is : error_report names heap report.number report.offending ≡ report.text

-- the report of an error about a value
abbrev of : ℕ → Value → List ℕ → Report
of number value text = record { number = number; offending = Some value; text = text }

-- the report of an error about no value
abbrev alone : ℕ → List ℕ → Report
alone number text = record { number = number; offending = None; text = text }

-- an error of each number, with its report
abbrev pub reports : List Report
reports =
    of 101 (Text (codes "x"))
    (codes "Run-time error 101\ninteger expected or out of range\noffending value: \"x\"\n") ∷
    of 102 Null (codes "Run-time error 102\nnumeric expected\noffending value: &null\n") ∷
    of 103 (AList 0) (codes "Run-time error 103\nstring expected\noffending value: list_1(4)\n") ∷
    of 104 Null (codes "Run-time error 104\ncset expected\noffending value: &null\n") ∷
    of 105 (Integer (pos 7)) (codes "Run-time error 105\nfile expected\noffending value: 7\n") ∷
    of 106 Null (codes "Run-time error 106\nprocedure or integer expected\noffending value: &null\n") ∷
    of 107 Null (codes "Run-time error 107\nrecord expected\noffending value: &null\n") ∷
    of 108 Null (codes "Run-time error 108\nlist expected\noffending value: &null\n") ∷
    of 109 Null (codes "Run-time error 109\nstring or file expected\noffending value: &null\n") ∷
    of 110 Null (codes "Run-time error 110\nstring or list expected\noffending value: &null\n") ∷
    of 111 Null (codes "Run-time error 111\nvariable expected\noffending value: &null\n") ∷
    of 112 Null (codes "Run-time error 112\ninvalid type to size operation\noffending value: &null\n") ∷
    of 113 Null (codes "Run-time error 113\ninvalid type to random operation\noffending value: &null\n") ∷
    of 114 Null (codes "Run-time error 114\ninvalid type to subscript operation\noffending value: &null\n") ∷
    of 115 Null (codes "Run-time error 115\nstructure expected\noffending value: &null\n") ∷
    of 116 Null (codes "Run-time error 116\ninvalid type to element generator\noffending value: &null\n") ∷
    alone 117 (codes "Run-time error 117\nmissing main procedure\n") ∷
    of 118 Null (codes "Run-time error 118\nco-expression expected\noffending value: &null\n") ∷
    of 119 Null (codes "Run-time error 119\nset expected\noffending value: &null\n") ∷
    of 120 Null (codes "Run-time error 120\ntwo csets or two sets expected\noffending value: &null\n") ∷
    of 122 Null (codes "Run-time error 122\nset or table expected\noffending value: &null\n") ∷
    of 124 Null (codes "Run-time error 124\ntable expected\noffending value: &null\n") ∷
    of 126 Null (codes "Run-time error 126\nlist or record expected\noffending value: &null\n") ∷
    alone 201 (codes "Run-time error 201\ndivision by zero\n") ∷
    alone 202 (codes "Run-time error 202\nremaindering by zero\n") ∷
    alone 203 (codes "Run-time error 203\ninteger overflow\n") ∷
    alone 205 (codes "Run-time error 205\ninvalid value\n") ∷
    of 207 Null (codes "Run-time error 207\ninvalid field name\noffending value: &null\n") ∷
    alone 208 (codes "Run-time error 208\nsecond and third arguments to map of unequal length\n") ∷
    alone 211 (codes "Run-time error 211\nby value equal to zero\n") ∷
    of 212 (Std Output)
    (codes "Run-time error 212\nattempt to read file not open for reading\noffending value: &output\n") ∷
    of 213 (Std Input)
    (codes "Run-time error 213\nattempt to write file not open for writing\noffending value: &input\n") ∷
    of 215 (ACoexp 0)
    (codes "Run-time error 215\nattempt to refresh &main\noffending value: co-expression_1(0)\n") ∷
    alone 301 (codes "Run-time error 301\nevaluation stack overflow\n") ∷
    alone 306 (codes "Run-time error 306\ninadequate space in string region\n") ∷
    alone 307 (codes "Run-time error 307\ninadequate space in block region\n") ∷ []

-- what keywords tell of a run: level 4, co-expression 2, entered from 1, and an error that is kept
abbrev pub case_standing : Standing
case_standing = record {
  level = 4;
  current = 2;
  source = 1;
  kept = Some (record { number = 103; value = Some (AList 0) });
}

-- a keyword, and what it gives at level 4 of co-expression 2, which co-expression 1 activated, where error 103 over
-- list 0 is kept
pub record KeywordCase : Type 0 where
  pub keyword : AnyKeyword
  pub item : Option Item

-- the keyword gives this item
pub record IsGiven (word : KeywordCase) : Type 0 where
  pub is : keyword_item case_standing word.keyword ≡ word.item

-- a keyword that gives a value
abbrev value : AnyKeyword → Value → KeywordCase
value keyword held = record { keyword = keyword; item = Some (Val held) }

-- each keyword with what it gives
abbrev pub words : List KeywordCase
words =
    value K.Ascii (Chars (range_with_len 0 128)) ∷
    value K.Cset (Chars (range_with_len 0 256)) ∷
    value K.Current (ACoexp 2) ∷
    value K.Digits (Chars (codes "0123456789")) ∷
    value K.Errout (Std Errout) ∷
    record { keyword = K.Fail; item = None } ∷
    value K.Input (Std Input) ∷
    value K.Lcase (Chars (codes "abcdefghijklmnopqrstuvwxyz")) ∷
    value K.Letters (Chars (codes "ABCDEFGHIJKLMNOPQRSTUVWXYZabcdefghijklmnopqrstuvwxyz")) ∷
    value K.Level (Integer (pos 4)) ∷
    value K.Main (ACoexp 0) ∷
    value K.Null Null ∷
    value K.Output (Std Output) ∷
    record { keyword = K.Pos; item = Some (Var (Whole (Keyword Position))) } ∷
    record { keyword = K.Random; item = Some (Var (Whole (Keyword Random))) } ∷
    value K.Source (ACoexp 1) ∷
    record { keyword = K.Subject; item = Some (Var (Whole (Keyword Subject))) } ∷
    value K.Ucase (Chars (codes "ABCDEFGHIJKLMNOPQRSTUVWXYZ")) ∷
    record { keyword = K.Error; item = Some (Var (Whole (Keyword ErrorCount))) } ∷
    value K.ErrorNumber (Integer (pos 103)) ∷
    value K.ErrorValue (AList 0) ∷
    value K.ErrorText (Text (codes "string expected")) ∷ []
