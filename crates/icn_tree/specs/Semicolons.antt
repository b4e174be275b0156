-- The semicolons that the ends of lines stand for.
use Rattle.std.specs.Prelude.{Bool, true, false, ◌&&◌, List, [], ◌∷◌, ◌++◌, if◌then◌else◌}
use Rattle.icn_tree.specs.declared.token.Kind.{Kind}
use Rattle.icn_tree.specs.declared.token.Kind.TheVariants.{Identifier, Integer, Text, Cset, Word as WordKind, Operator as OperatorKind, Augmented, Punctuation as PunctuationKind}
use Rattle.icn_tree.specs.declared.token.Word.{Word}
use Rattle.icn_tree.specs.declared.token.Word.TheVariants.{Break, Case, Create, Default, End, Every, Fail, If, Initial, Local, Next, Not, Repeat, Return, Static, Suspend, Until, While}
use Rattle.icn_tree.specs.declared.token.Operator.{Operator}
use Rattle.icn_tree.specs.declared.token.Operator.TheVariants.{Bang, At, Ampersand, Star, StarStar, Plus, PlusPlus, Minus, MinusMinus, Slash, Backslash, Caret, Bar, BarBar, BarBarBar, Dot, Question, Tilde, Equal, NotEqual, EqualEqual, NotEqualEqual, EqualEqualEqual, NotEqualEqualEqual}
use Rattle.icn_tree.specs.declared.token.Punctuation.{Punctuation}
use Rattle.icn_tree.specs.declared.token.Punctuation.TheVariants.{OpenParenthesis, CloseParenthesis, OpenBracket, CloseBracket, OpenBrace, CloseBrace, Semicolon}
use Rattle.icn_tree.specs.declared.token.Token.{Token}

-- a token, and whether it is the first on its line, so that a newline lies between it and the token before
pub record LineToken : Type 0 where
  pub token : Token
  pub is_first : Bool

-- a word that can end an expression
abbrev pub word_ends : Word → Bool
word_ends Break = true
word_ends Fail = true
word_ends Next = true
word_ends Return = true
word_ends Suspend = true
word_ends _ = false

-- a mark that can end an expression
abbrev pub mark_ends : Punctuation → Bool
mark_ends CloseParenthesis = true
mark_ends CloseBracket = true
mark_ends CloseBrace = true
mark_ends _ = false

-- a token that can end an expression
unfoldable pub is_ender : Kind → Bool
is_ender (Identifier name) = true
is_ender (Integer n) = true
is_ender (Text bytes) = true
is_ender (Cset set) = true
is_ender (WordKind word) = word_ends word
is_ender (OperatorKind operator) = false
is_ender (Augmented operator) = false
is_ender (PunctuationKind mark) = mark_ends mark

-- a word that can begin an expression or another part of a procedure
abbrev pub word_begins : Word → Bool
word_begins Break = true
word_begins Case = true
word_begins Create = true
word_begins Default = true
word_begins End = true
word_begins Every = true
word_begins Fail = true
word_begins If = true
word_begins Initial = true
word_begins Local = true
word_begins Next = true
word_begins Not = true
word_begins Repeat = true
word_begins Return = true
word_begins Static = true
word_begins Suspend = true
word_begins Until = true
word_begins While = true
word_begins _ = false

-- an operator that can begin an expression
abbrev pub operator_begins : Operator → Bool
operator_begins Dot = true
operator_begins Bang = true
operator_begins At = true
operator_begins Bar = true
operator_begins BarBar = true
operator_begins BarBarBar = true
operator_begins Plus = true
operator_begins PlusPlus = true
operator_begins Minus = true
operator_begins MinusMinus = true
operator_begins Star = true
operator_begins StarStar = true
operator_begins Slash = true
operator_begins Backslash = true
operator_begins Caret = true
operator_begins Tilde = true
operator_begins NotEqual = true
operator_begins NotEqualEqual = true
operator_begins NotEqualEqualEqual = true
operator_begins Equal = true
operator_begins EqualEqual = true
operator_begins EqualEqualEqual = true
operator_begins Question = true
operator_begins Ampersand = true
operator_begins _ = false

-- a mark that can begin an expression
abbrev pub mark_begins : Punctuation → Bool
mark_begins OpenParenthesis = true
mark_begins OpenBracket = true
mark_begins OpenBrace = true
mark_begins _ = false

-- a token that can begin an expression, a declaration inside a procedure or a clause `default`, or that ends a procedure
unfoldable pub is_beginner : Kind → Bool
is_beginner (Identifier name) = true
is_beginner (Integer n) = true
is_beginner (Text bytes) = true
is_beginner (Cset set) = true
is_beginner (WordKind word) = word_begins word
is_beginner (OperatorKind operator) = operator_begins operator
is_beginner (Augmented operator) = false
is_beginner (PunctuationKind mark) = mark_begins mark

-- the semicolon that has the place of a token
abbrev pub semicolon_at : Token → Token
semicolon_at token = record { kind = PunctuationKind Semicolon; line = token.line; file = token.file }

-- what stands between two neighbours: a semicolon exactly where a newline lies between them, the first is an ender and
-- the second a beginner
abbrev pub between : Token → LineToken → List Token
between a b = if b.is_first && is_ender a.kind && is_beginner b.token.kind then semicolon_at a ∷ [] else []

-- the tokens, with the semicolons that the ends of lines stand for
abbrev pub with_semicolons : List LineToken → List Token
with_semicolons [] = []
with_semicolons (a ∷ []) = a.token ∷ []
with_semicolons (a ∷ b ∷ rest) = a.token ∷ between a.token b ++ with_semicolons (b ∷ rest)
