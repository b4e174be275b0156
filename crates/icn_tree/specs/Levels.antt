-- How tightly each form holds its parts. Level 0 is an expression that may be empty, 1 any other expression, 1 to 11 those
-- of the operators between two operands, 12 that of an operator before its operand, 13 that of whatever else there is.
use Rattle.std.specs.Prelude.{◌==◌, ℕ, suc, Bool, true, false, ◌||◌, nat_le, is_some, Option, Some, None, if◌then◌else◌}
use Rattle.icn_tree.specs.declared.token.Kind.{Kind}
use Rattle.icn_tree.specs.declared.token.Kind.TheVariants.{Identifier as IdentifierKind, Integer as IntegerKind, Text as TextKind, Cset as CsetKind, Word as WordKind, Operator as OperatorKind, Augmented as AugmentedKind, Punctuation as PunctuationKind}
use Rattle.icn_tree.specs.declared.token.Word.{Word}
use Rattle.icn_tree.specs.declared.token.Word.TheVariants as Words
use Rattle.icn_tree.specs.declared.token.Operator.{Operator}
use Rattle.icn_tree.specs.declared.token.Operator.TheVariants.{Bang, At, Ampersand, Star, StarStar, Plus, PlusPlus, Minus, MinusMinus, Slash, Percent, Backslash, Caret, Bar, BarBar, BarBarBar, Dot, Question, Tilde, Equal, NotEqual, EqualEqual, NotEqualEqual, EqualEqualEqual, NotEqualEqualEqual, Less, LessEqual, Greater, GreaterEqual, LessLess, LessLessEqual, GreaterGreater, GreaterGreaterEqual, Assign, Swap, ReversibleAssign, ReversibleSwap}
use Rattle.icn_tree.specs.declared.token.Punctuation.{Punctuation}
use Rattle.icn_tree.specs.declared.token.Punctuation.TheVariants.{OpenParenthesis, OpenBracket, OpenBrace}
use Rattle.icn_tree.specs.declared.tree.Infix.{Infix}
use Rattle.icn_tree.specs.declared.tree.Infix.TheVariants.{Plain, Augmented}
use Rattle.icn_tree.specs.Trees.{Tree, Empty, Prefix, Not, Binary, To}

-- the level of an operator between two operands, and 0 for one that never stands there
abbrev pub operator_level : Operator → ℕ
operator_level Ampersand = 1
operator_level Question = 2
operator_level Assign = 3
operator_level Swap = 3
operator_level ReversibleAssign = 3
operator_level ReversibleSwap = 3
operator_level Bar = 5
operator_level Less = 6
operator_level LessEqual = 6
operator_level Equal = 6
operator_level GreaterEqual = 6
operator_level Greater = 6
operator_level NotEqual = 6
operator_level LessLess = 6
operator_level LessLessEqual = 6
operator_level EqualEqual = 6
operator_level GreaterGreaterEqual = 6
operator_level GreaterGreater = 6
operator_level NotEqualEqual = 6
operator_level EqualEqualEqual = 6
operator_level NotEqualEqualEqual = 6
operator_level BarBar = 7
operator_level BarBarBar = 7
operator_level Plus = 8
operator_level Minus = 8
operator_level PlusPlus = 8
operator_level MinusMinus = 8
operator_level Star = 9
operator_level Slash = 9
operator_level Percent = 9
operator_level StarStar = 9
operator_level Caret = 10
operator_level Backslash = 11
operator_level At = 11
operator_level Bang = 11
operator_level Dot = 0
operator_level Tilde = 0

-- the level of an operator between two operands; an augmented assignment has that of `:=`
abbrev pub infix_level : Infix → ℕ
infix_level (Plain operator) = operator_level operator
infix_level (Augmented operator) = 3

-- the kind of the token that is an operator between operands
abbrev pub infix_kind : Infix → Kind
infix_kind (Plain operator) = OperatorKind operator
infix_kind (Augmented operator) = AugmentedKind operator

-- assignments, alternation, powers and operators before their operand group to the right, the others to the left
abbrev pub groups_right : ℕ → Bool
groups_right level = level == 3 || level == 5 || level == 10 || level == 12

-- the least levels of an operator's operands
abbrev pub left_level : ℕ → ℕ
left_level level = if groups_right level then suc level else level

-- the least level of the right operand: the operator's own where it groups to the right, else the next one
abbrev pub right_level : ℕ → ℕ
right_level level = if groups_right level then level else suc level

-- the level of a tree: how tightly its form holds its parts
abbrev pub level_of : Tree → ℕ
level_of Empty = 0
level_of (Binary place operator left right) = infix_level operator
level_of (To place from to by) = 4
level_of (Prefix place operator operand) = 12
level_of (Not place operand) = 12
level_of _ = 13

-- an expression that is not empty
abbrev pub is_present : Tree → Bool
is_present Empty = false
is_present _ = true

-- the first operator before an operand that these characters are, which has one character, and the operator that the other
-- characters are
abbrev pub prefix_of : Operator → Option (Operator × Option Operator)
prefix_of Dot = Some (Dot, None)
prefix_of Bang = Some (Bang, None)
prefix_of At = Some (At, None)
prefix_of Bar = Some (Bar, None)
prefix_of Plus = Some (Plus, None)
prefix_of Minus = Some (Minus, None)
prefix_of Star = Some (Star, None)
prefix_of Slash = Some (Slash, None)
prefix_of Backslash = Some (Backslash, None)
prefix_of Caret = Some (Caret, None)
prefix_of Tilde = Some (Tilde, None)
prefix_of Equal = Some (Equal, None)
prefix_of Question = Some (Question, None)
prefix_of BarBar = Some (Bar, Some Bar)
prefix_of BarBarBar = Some (Bar, Some BarBar)
prefix_of PlusPlus = Some (Plus, Some Plus)
prefix_of MinusMinus = Some (Minus, Some Minus)
prefix_of StarStar = Some (Star, Some Star)
prefix_of NotEqual = Some (Tilde, Some Equal)
prefix_of NotEqualEqual = Some (Tilde, Some EqualEqual)
prefix_of NotEqualEqualEqual = Some (Tilde, Some EqualEqualEqual)
prefix_of EqualEqual = Some (Equal, Some Equal)
prefix_of EqualEqualEqual = Some (Equal, Some EqualEqual)
prefix_of _ = None

-- What a token can do

-- a word that can begin an expression
abbrev pub word_begins : Word → Bool
word_begins Words.Break = true
word_begins Words.Case = true
word_begins Words.Create = true
word_begins Words.Every = true
word_begins Words.Fail = true
word_begins Words.If = true
word_begins Words.Next = true
word_begins Words.Not = true
word_begins Words.Repeat = true
word_begins Words.Return = true
word_begins Words.Suspend = true
word_begins Words.Until = true
word_begins Words.While = true
word_begins _ = false

-- an operator that can begin an expression: it stands before an operand, or begins a keyword
abbrev pub operator_begins : Operator → Bool
operator_begins Ampersand = true
operator_begins operator = is_some (prefix_of operator)

-- a mark that can begin an expression: an opening parenthesis, bracket or brace
abbrev pub punctuation_begins : Punctuation → Bool
punctuation_begins OpenParenthesis = true
punctuation_begins OpenBracket = true
punctuation_begins OpenBrace = true
punctuation_begins _ = false

-- a token that can begin an expression
abbrev pub kind_begins : Kind → Bool
kind_begins (IdentifierKind text) = true
kind_begins (IntegerKind n) = true
kind_begins (TextKind text) = true
kind_begins (CsetKind set) = true
kind_begins (WordKind word) = word_begins word
kind_begins (OperatorKind operator) = operator_begins operator
kind_begins (AugmentedKind operator) = false
kind_begins (PunctuationKind mark) = punctuation_begins mark

-- the level of the form that a token makes with what stands before it, and 0 where it makes none
abbrev pub operator_goes_on : Operator → ℕ
operator_goes_on Dot = 13
operator_goes_on operator = operator_level operator

-- the level of the form that a word makes with what stands before it, and 0 where it makes none
abbrev pub word_goes_on : Word → ℕ
word_goes_on Words.To = 4
word_goes_on _ = 0

-- the level of the form that a mark makes with what stands before it, and 0 where it makes none
abbrev pub punctuation_goes_on : Punctuation → ℕ
punctuation_goes_on OpenParenthesis = 13
punctuation_goes_on OpenBracket = 13
punctuation_goes_on OpenBrace = 13
punctuation_goes_on _ = 0

-- the level of the form that a token of any kind makes with what stands before it, and 0 where it makes none
abbrev pub kind_goes_on : Kind → ℕ
kind_goes_on (WordKind word) = word_goes_on word
kind_goes_on (OperatorKind operator) = operator_goes_on operator
kind_goes_on (AugmentedKind operator) = 3
kind_goes_on (PunctuationKind mark) = punctuation_goes_on mark
kind_goes_on _ = 0

-- The same of the token that stands next, `None` where there is none

-- the token that stands next can begin an expression
abbrev pub begins : Option Kind → Bool
begins None = false
begins (Some kind) = kind_begins kind

-- the next token can go on with an expression of this level
abbrev pub goes_on : ℕ → Option Kind → Bool
goes_on level None = false
goes_on level (Some kind) = nat_le level (kind_goes_on kind)

-- the word is `else`
abbrev pub is_word_else : Word → Bool
is_word_else Words.Else = true
is_word_else _ = false

-- the word is `do`
abbrev pub is_word_do : Word → Bool
is_word_do Words.Do = true
is_word_do _ = false

-- the word is `by`
abbrev pub is_word_by : Word → Bool
is_word_by Words.By = true
is_word_by _ = false

-- the word `else` stands next
abbrev pub is_else : Option Kind → Bool
is_else (Some (WordKind word)) = is_word_else word
is_else _ = false

-- the word `do` stands next
abbrev pub is_do : Option Kind → Bool
is_do (Some (WordKind word)) = is_word_do word
is_do _ = false

-- the word `by` stands next
abbrev pub is_by : Option Kind → Bool
is_by (Some (WordKind word)) = is_word_by word
is_by _ = false
