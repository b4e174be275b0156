-- What literals, keywords and operators are translated to.
use Rattle.std.specs.Prelude.{Option, None, Some}
use Rattle.icn_text.specs.declared.keyword.Keyword.{Keyword}
use Rattle.icn_text.specs.declared.keyword.Keyword.TheVariants as K
use Rattle.icn_text.specs.declared.op.Op.{Op}
use Rattle.icn_text.specs.declared.op.Op.TheVariants as O
use Rattle.icn_tree.specs.declared.token.Operator.{Operator}
use Rattle.icn_tree.specs.declared.token.Operator.TheVariants as S
use Rattle.icn_tree.specs.declared.tree.Literal.{Literal}
use Rattle.icn_tree.specs.declared.tree.Literal.TheVariants.{Integer, Text, Cset}
use Rattle.icn_tree.specs.declared.tree.SectionKind.{SectionKind}
use Rattle.icn_tree.specs.declared.tree.SectionKind.TheVariants.{Between, Forward, Backward}
use Rattle.icn_unit.specs.declared.unit.UnitInstr.{UnitInstr}
use Rattle.icn_unit.specs.declared.unit.UnitInstr.TheVariants as I
use Rattle.icn_translate.specs.declared.forms.InfixForm.{InfixForm}
use Rattle.icn_translate.specs.declared.forms.InfixForm.TheVariants.{Both, Scanning, Either, Limiting, Activating, Spreading, Operating}
use Rattle.icn_translate.specs.declared.forms.UpdateForm.{UpdateForm}
use Rattle.icn_translate.specs.declared.forms.UpdateForm.TheVariants.{Both as UpdatesBoth, Scanning as UpdatesScanning, Activating as UpdatesActivating, Operating as UpdatesOperating}
use Rattle.icn_translate.specs.declared.forms.PrefixForm.{PrefixForm}
use Rattle.icn_translate.specs.declared.forms.PrefixForm.TheVariants.{Activation, Repetition, Operation}

-- the instruction that a literal is translated to
abbrev pub literal_instr : Literal → UnitInstr
literal_instr (Integer n) = I.Int n
literal_instr (Text bytes) = I.Str bytes
literal_instr (Cset members) = I.Cset members

-- the instruction that a keyword is translated to; `&fail` fails
abbrev pub keyword_instr : Keyword → UnitInstr
keyword_instr K.Ascii = I.Keywd K.Ascii
keyword_instr K.Cset = I.Keywd K.Cset
keyword_instr K.Current = I.Keywd K.Current
keyword_instr K.Digits = I.Keywd K.Digits
keyword_instr K.Errout = I.Keywd K.Errout
keyword_instr K.Fail = I.Efail
keyword_instr K.Input = I.Keywd K.Input
keyword_instr K.Lcase = I.Keywd K.Lcase
keyword_instr K.Letters = I.Keywd K.Letters
keyword_instr K.Level = I.Keywd K.Level
keyword_instr K.Main = I.Keywd K.Main
keyword_instr K.Null = I.Keywd K.Null
keyword_instr K.Output = I.Keywd K.Output
keyword_instr K.Pos = I.Keywd K.Pos
keyword_instr K.Random = I.Keywd K.Random
keyword_instr K.Source = I.Keywd K.Source
keyword_instr K.Subject = I.Keywd K.Subject
keyword_instr K.Ucase = I.Keywd K.Ucase
keyword_instr K.Error = I.Keywd K.Error
keyword_instr K.ErrorNumber = I.Keywd K.ErrorNumber
keyword_instr K.ErrorValue = I.Keywd K.ErrorValue
keyword_instr K.ErrorText = I.Keywd K.ErrorText

-- the operation of a section
abbrev pub section_op : SectionKind → Op
section_op Between = O.Section
section_op Forward = O.SectionPlus
section_op Backward = O.SectionMinus

-- an operator between operands; `.` and `~` never stand there
abbrev pub infix_form : Operator → Option InfixForm
infix_form S.Bang = Some Spreading
infix_form S.At = Some Activating
infix_form S.Ampersand = Some Both
infix_form S.Star = Some (Operating O.Multiply)
infix_form S.StarStar = Some (Operating O.Intersection)
infix_form S.Plus = Some (Operating O.Add)
infix_form S.PlusPlus = Some (Operating O.Union)
infix_form S.Minus = Some (Operating O.Subtract)
infix_form S.MinusMinus = Some (Operating O.Difference)
infix_form S.Slash = Some (Operating O.Divide)
infix_form S.Percent = Some (Operating O.Remainder)
infix_form S.Backslash = Some Limiting
infix_form S.Caret = Some (Operating O.Power)
infix_form S.Bar = Some Either
infix_form S.BarBar = Some (Operating O.Concatenate)
infix_form S.BarBarBar = Some (Operating O.ConcatenateLists)
infix_form S.Dot = None
infix_form S.Question = Some Scanning
infix_form S.Tilde = None
infix_form S.Equal = Some (Operating O.Equal)
infix_form S.NotEqual = Some (Operating O.NotEqual)
infix_form S.EqualEqual = Some (Operating O.LexicallyEqual)
infix_form S.NotEqualEqual = Some (Operating O.LexicallyNotEqual)
infix_form S.EqualEqualEqual = Some (Operating O.Equivalent)
infix_form S.NotEqualEqualEqual = Some (Operating O.NotEquivalent)
infix_form S.Less = Some (Operating O.Less)
infix_form S.LessEqual = Some (Operating O.LessOrEqual)
infix_form S.Greater = Some (Operating O.Greater)
infix_form S.GreaterEqual = Some (Operating O.GreaterOrEqual)
infix_form S.LessLess = Some (Operating O.LexicallyLess)
infix_form S.LessLessEqual = Some (Operating O.LexicallyLessOrEqual)
infix_form S.GreaterGreater = Some (Operating O.LexicallyGreater)
infix_form S.GreaterGreaterEqual = Some (Operating O.LexicallyGreaterOrEqual)
infix_form S.Assign = Some (Operating O.Assign)
infix_form S.Swap = Some (Operating O.Swap)
infix_form S.ReversibleAssign = Some (Operating O.ReversibleAssign)
infix_form S.ReversibleSwap = Some (Operating O.ReversibleSwap)

-- an operator with `:=` behind it; those that are `None` never stand there
abbrev pub update_form : Operator → Option UpdateForm
update_form S.Bang = None
update_form S.At = Some UpdatesActivating
update_form S.Ampersand = Some UpdatesBoth
update_form S.Star = Some (UpdatesOperating O.Multiply)
update_form S.StarStar = Some (UpdatesOperating O.Intersection)
update_form S.Plus = Some (UpdatesOperating O.Add)
update_form S.PlusPlus = Some (UpdatesOperating O.Union)
update_form S.Minus = Some (UpdatesOperating O.Subtract)
update_form S.MinusMinus = Some (UpdatesOperating O.Difference)
update_form S.Slash = Some (UpdatesOperating O.Divide)
update_form S.Percent = Some (UpdatesOperating O.Remainder)
update_form S.Backslash = None
update_form S.Caret = Some (UpdatesOperating O.Power)
update_form S.Bar = None
update_form S.BarBar = Some (UpdatesOperating O.Concatenate)
update_form S.BarBarBar = Some (UpdatesOperating O.ConcatenateLists)
update_form S.Dot = None
update_form S.Question = Some UpdatesScanning
update_form S.Tilde = None
update_form S.Equal = Some (UpdatesOperating O.Equal)
update_form S.NotEqual = Some (UpdatesOperating O.NotEqual)
update_form S.EqualEqual = Some (UpdatesOperating O.LexicallyEqual)
update_form S.NotEqualEqual = Some (UpdatesOperating O.LexicallyNotEqual)
update_form S.EqualEqualEqual = Some (UpdatesOperating O.Equivalent)
update_form S.NotEqualEqualEqual = Some (UpdatesOperating O.NotEquivalent)
update_form S.Less = Some (UpdatesOperating O.Less)
update_form S.LessEqual = Some (UpdatesOperating O.LessOrEqual)
update_form S.Greater = Some (UpdatesOperating O.Greater)
update_form S.GreaterEqual = Some (UpdatesOperating O.GreaterOrEqual)
update_form S.LessLess = Some (UpdatesOperating O.LexicallyLess)
update_form S.LessLessEqual = Some (UpdatesOperating O.LexicallyLessOrEqual)
update_form S.GreaterGreater = Some (UpdatesOperating O.LexicallyGreater)
update_form S.GreaterGreaterEqual = Some (UpdatesOperating O.LexicallyGreaterOrEqual)
update_form S.Assign = None
update_form S.Swap = None
update_form S.ReversibleAssign = None
update_form S.ReversibleSwap = None

-- an operator before its operand; those of the last lines never stand there
abbrev pub prefix_form : Operator → Option PrefixForm
prefix_form S.Bang = Some (Operation O.Elements)
prefix_form S.At = Some Activation
prefix_form S.Star = Some (Operation O.Size)
prefix_form S.Plus = Some (Operation O.Number)
prefix_form S.Minus = Some (Operation O.Negate)
prefix_form S.Slash = Some (Operation O.IsNull)
prefix_form S.Backslash = Some (Operation O.IsNotNull)
prefix_form S.Caret = Some (Operation O.Refresh)
prefix_form S.Bar = Some Repetition
prefix_form S.Dot = Some (Operation O.Dereference)
prefix_form S.Question = Some (Operation O.Random)
prefix_form S.Tilde = Some (Operation O.Complement)
prefix_form S.Equal = Some (Operation O.TabMatch)
prefix_form S.Ampersand = None
prefix_form S.StarStar = None
prefix_form S.PlusPlus = None
prefix_form S.MinusMinus = None
prefix_form S.Percent = None
prefix_form S.BarBar = None
prefix_form S.BarBarBar = None
prefix_form S.NotEqual = None
prefix_form S.EqualEqual = None
prefix_form S.NotEqualEqual = None
prefix_form S.EqualEqualEqual = None
prefix_form S.NotEqualEqualEqual = None
prefix_form S.Less = None
prefix_form S.LessEqual = None
prefix_form S.Greater = None
prefix_form S.GreaterEqual = None
prefix_form S.LessLess = None
prefix_form S.LessLessEqual = None
prefix_form S.GreaterGreater = None
prefix_form S.GreaterGreaterEqual = None
prefix_form S.Assign = None
prefix_form S.Swap = None
prefix_form S.ReversibleAssign = None
prefix_form S.ReversibleSwap = None
