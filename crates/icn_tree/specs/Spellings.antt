-- How words, operators and punctuation marks are spelled.
use Rattle.std.specs.Prelude.{◌==◌, ℕ, List, [], ◌∷◌, Option, Some, None, codes, unwrap_or, if◌then◌else◌}
use Rattle.std.specs.Option.{option_map}
use Rattle.std.specs.Str.{bytes_eq}
use Rattle.icn_tree.specs.declared.token.Kind.{Kind}
use Rattle.icn_tree.specs.declared.token.Kind.TheVariants.{Identifier, Word as WordKind, Operator, Augmented, Punctuation}
use Rattle.icn_tree.specs.declared.token.Word.{Word}
use Rattle.icn_tree.specs.declared.token.Word.TheVariants.{Break, By, Case, Create, Default, Do, Else, End, Every, Fail, Global, If, Initial, Invocable, Link, Local, Next, Not, Of, Procedure, Record, Repeat, Return, Static, Suspend, Then, To, Until, While}
use Rattle.icn_tree.specs.declared.token.Operator.TheVariants.{Bang, At, Ampersand, Star, StarStar, Plus, PlusPlus, Minus, MinusMinus, Slash, Percent, Backslash, Caret, Bar, BarBar, BarBarBar, Question, Tilde, Equal, NotEqual, EqualEqual, NotEqualEqual, EqualEqualEqual, NotEqualEqualEqual, Less, LessEqual, Greater, GreaterEqual, LessLess, LessLessEqual, GreaterGreater, GreaterGreaterEqual, Assign, Swap, ReversibleAssign, ReversibleSwap}
use Rattle.icn_tree.specs.declared.token.Punctuation.TheVariants.{OpenParenthesis, CloseParenthesis, OpenBracket, CloseBracket, OpenBrace, CloseBrace, Comma, Semicolon, Colon, PlusColon, MinusColon}

-- what a text stands for in a list of spellings
abbrev pub lookup_text : {A : Type 0} → List (List ℕ × A) → List ℕ → Option A
lookup_text [] text = None
lookup_text (row ∷ rows) text = if bytes_eq text row.0 then Some row.1 else lookup_text rows text

-- the reserved words that begin with a letter
unfoldable pub words_of : ℕ → List (List ℕ × Word)
words_of b =
    if b == 98 then (codes "break", Break) ∷ (codes "by", By) ∷ [] else (
    if b == 99 then (codes "case", Case) ∷ (codes "create", Create) ∷ [] else (
    if b == 100 then (codes "default", Default) ∷ (codes "do", Do) ∷ [] else (
    if b == 101 then (codes "else", Else) ∷ (codes "end", End) ∷ (codes "every", Every) ∷ [] else (
    if b == 102 then (codes "fail", Fail) ∷ [] else (
    if b == 103 then (codes "global", Global) ∷ [] else (
    if b == 105 then (codes "if", If) ∷ (codes "initial", Initial) ∷ (codes "invocable", Invocable) ∷ []
    else (
    if b == 108 then (codes "link", Link) ∷ (codes "local", Local) ∷ [] else (
    if b == 110 then (codes "next", Next) ∷ (codes "not", Not) ∷ [] else (
    if b == 111 then (codes "of", Of) ∷ [] else (
    if b == 112 then (codes "procedure", Procedure) ∷ [] else (
    if b == 114 then (codes "record", Record) ∷ (codes "repeat", Repeat) ∷ (codes "return", Return) ∷ []
    else (
    if b == 115 then (codes "static", Static) ∷ (codes "suspend", Suspend) ∷ [] else (
    if b == 116 then (codes "then", Then) ∷ (codes "to", To) ∷ [] else (
    if b == 117 then (codes "until", Until) ∷ [] else (
    if b == 119 then (codes "while", While) ∷ [] else [])))))))))))))))

-- the reserved word that a text spells, if it spells one
abbrev pub word_of : List ℕ → Option Word
word_of [] = None
word_of (b ∷ rest) = lookup_text (words_of b) (b ∷ rest)

-- a reserved word, or an identifier
abbrev pub name_of : List ℕ → Kind
name_of text = unwrap_or (option_map WordKind (word_of text)) (Identifier text)

-- The operators and punctuation marks that begin with a byte, but for the dot. `X:=` is there for each operator X that can
-- be augmented.
unfoldable pub marks_of : ℕ → List (List ℕ × Kind)
marks_of b =
    if b == 33 then (codes "!", Operator Bang) ∷ [] else (
    if b == 36 then (codes "$<", Punctuation OpenBracket) ∷ (codes "$>", Punctuation CloseBracket)
    ∷ (codes "$(", Punctuation OpenBrace) ∷ (codes "$)", Punctuation CloseBrace) ∷ [] else (
    if b == 37 then (codes "%:=", Augmented Percent) ∷ (codes "%", Operator Percent) ∷ [] else (
    if b == 38 then (codes "&:=", Augmented Ampersand) ∷ (codes "&", Operator Ampersand) ∷ [] else (
    if b == 40 then (codes "(", Punctuation OpenParenthesis) ∷ [] else (
    if b == 41 then (codes ")", Punctuation CloseParenthesis) ∷ [] else (
    if b == 42 then (codes "**:=", Augmented StarStar) ∷ (codes "*:=", Augmented Star)
    ∷ (codes "**", Operator StarStar) ∷ (codes "*", Operator Star) ∷ [] else (
    if b == 43 then (codes "++:=", Augmented PlusPlus) ∷ (codes "+:=", Augmented Plus)
    ∷ (codes "++", Operator PlusPlus) ∷ (codes "+:", Punctuation PlusColon) ∷ (codes "+", Operator Plus)
    ∷ [] else (
    if b == 44 then (codes ",", Punctuation Comma) ∷ [] else (
    if b == 45 then (codes "--:=", Augmented MinusMinus) ∷ (codes "-:=", Augmented Minus)
    ∷ (codes "--", Operator MinusMinus) ∷ (codes "-:", Punctuation MinusColon)
    ∷ (codes "-", Operator Minus) ∷ [] else (
    if b == 47 then (codes "/:=", Augmented Slash) ∷ (codes "/", Operator Slash) ∷ [] else (
    if b == 58 then (codes ":=:", Operator Swap) ∷ (codes ":=", Operator Assign)
    ∷ (codes ":", Punctuation Colon) ∷ [] else (
    if b == 59 then (codes ";", Punctuation Semicolon) ∷ [] else (
    if b == 60 then (codes "<<=:=", Augmented LessLessEqual)
    ∷ (codes "<=:=", Augmented LessEqual) ∷ (codes "<<:=", Augmented LessLess)
    ∷ (codes "<<=", Operator LessLessEqual) ∷ (codes "<->", Operator ReversibleSwap)
    ∷ (codes "<:=", Augmented Less) ∷ (codes "<=", Operator LessEqual) ∷ (codes "<<", Operator LessLess)
    ∷ (codes "<-", Operator ReversibleAssign) ∷ (codes "<", Operator Less) ∷ [] else (
    if b == 61 then (codes "===:=", Augmented EqualEqualEqual) ∷ (codes "==:=", Augmented EqualEqual)
    ∷ (codes "===", Operator EqualEqualEqual) ∷ (codes "=:=", Augmented Equal)
    ∷ (codes "==", Operator EqualEqual) ∷ (codes "=", Operator Equal) ∷ [] else (
    if b == 62 then (codes ">>=:=", Augmented GreaterGreaterEqual) ∷ (codes ">=:=", Augmented GreaterEqual)
    ∷ (codes ">>:=", Augmented GreaterGreater) ∷ (codes ">>=", Operator GreaterGreaterEqual)
    ∷ (codes ">:=", Augmented Greater) ∷ (codes ">=", Operator GreaterEqual)
    ∷ (codes ">>", Operator GreaterGreater) ∷ (codes ">", Operator Greater) ∷ [] else (
    if b == 63 then (codes "?:=", Augmented Question) ∷ (codes "?", Operator Question) ∷ [] else (
    if b == 64 then (codes "@:=", Augmented At) ∷ (codes "@", Operator At) ∷ [] else (
    if b == 91 then (codes "[", Punctuation OpenBracket) ∷ [] else (
    if b == 92 then (codes "\\", Operator Backslash) ∷ [] else (
    if b == 93 then (codes "]", Punctuation CloseBracket) ∷ [] else (
    if b == 94 then (codes "^:=", Augmented Caret) ∷ (codes "^", Operator Caret) ∷ [] else (
    if b == 123 then (codes "{", Punctuation OpenBrace) ∷ [] else (
    if b == 124 then (codes "|||:=", Augmented BarBarBar) ∷ (codes "||:=", Augmented BarBar)
    ∷ (codes "|||", Operator BarBarBar) ∷ (codes "||", Operator BarBar) ∷ (codes "|", Operator Bar) ∷ []
    else (
    if b == 125 then (codes "}", Punctuation CloseBrace) ∷ [] else (
    if b == 126 then (codes "~===:=", Augmented NotEqualEqualEqual) ∷ (codes "~==:=", Augmented NotEqualEqual)
    ∷ (codes "~===", Operator NotEqualEqualEqual) ∷ (codes "~=:=", Augmented NotEqual)
    ∷ (codes "~==", Operator NotEqualEqual) ∷ (codes "~=", Operator NotEqual)
    ∷ (codes "~", Operator Tilde) ∷ [] else [])))))))))))))))))))))))))
