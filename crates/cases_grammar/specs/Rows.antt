-- Short lists of tokens with their trees. The tokens of a row stand on lines 1, 2, 3 and so on, so that each place shows the
-- first token of its form.
use Rattle.std.specs.Prelude.{ℕ, suc, pos, List, [], ◌∷◌, codes, true, false}
use Rattle.icn_tree.specs.declared.token.Kind.{Kind}
use Rattle.icn_tree.specs.declared.token.Kind.TheVariants as Kinds
use Rattle.icn_tree.specs.declared.token.Token.{Token}
use Rattle.icn_tree.specs.declared.token.Word.{Word}
use Rattle.icn_tree.specs.declared.token.Word.TheVariants as W
use Rattle.icn_tree.specs.declared.token.Operator.{Operator}
use Rattle.icn_tree.specs.declared.token.Operator.TheVariants as O
use Rattle.icn_tree.specs.declared.token.Punctuation.{Punctuation}
use Rattle.icn_tree.specs.declared.token.Punctuation.TheVariants as M
use Rattle.icn_tree.specs.declared.tree.Place.{Place}
use Rattle.icn_tree.specs.declared.tree.Name.{Name}
use Rattle.icn_tree.specs.declared.tree.Literal.TheVariants as Literals
use Rattle.icn_tree.specs.declared.tree.Infix.TheVariants.{Plain, Augmented}
use Rattle.icn_tree.specs.declared.tree.SectionKind.TheVariants.{Between, Forward, Backward}
use Rattle.icn_tree.specs.declared.tree.LoopKind.TheVariants as Loops
use Rattle.icn_tree.specs.declared.tree.DeclItem.TheVariants as Items
use Rattle.icn_tree.specs.declared.tree.LocalKind.TheVariants.{Local, Static}
use Rattle.icn_tree.specs.Trees.{Declaration, Global, Link, Invocable, Record, ProcedureOf, NoInitial, Initially, Tree, Empty, Constant, Identifier, Keyword, Parentheses, Listing, Compound, Call, CoCall, Subscript, Section, Field, Prefix, Not, Binary, To, If, Case, Loop, Repeat, Create, Next, Fail, Break, Return, Suspend, Absent, Present, NoTrees, More, Default, Guarded, NoClauses, MoreClauses}
use Rattle.icn_tree.specs.Declarations.{IsExpressionOf, IsTreeOf}

-- an identifier
abbrev pub name : List ℕ → Kind
name text = Kinds.Identifier text

-- an integer literal
abbrev pub integer : ℕ → Kind
integer n = Kinds.Integer (pos n)

-- a string literal
abbrev pub text : List ℕ → Kind
text bytes = Kinds.Text bytes

-- a cset literal
abbrev pub cset : List ℕ → Kind
cset members = Kinds.Cset members

-- a reserved word
abbrev pub word : Word → Kind
word reserved = Kinds.Word reserved

-- an operator
abbrev pub op : Operator → Kind
op operator = Kinds.Operator operator

-- an operator with `:=` behind it
abbrev pub augmented_kind : Operator → Kind
augmented_kind operator = Kinds.Augmented operator

-- a sign of punctuation
abbrev pub mark : Punctuation → Kind
mark punctuation = Kinds.Punctuation punctuation

-- tokens on lines of their own, from this line on
abbrev pub on_lines : ℕ → List Kind → List Token
on_lines line [] = []
on_lines line (kind ∷ kinds) = record { kind = kind; line = line; file = 0 } ∷ on_lines (suc line) kinds

-- the place of the token on this line
abbrev pub at : ℕ → Place
at line = record { line = line; file = 0 }

-- a name whose token stands on this line
abbrev pub name_on : List ℕ → ℕ → Name
name_on bytes line = record { text = bytes; place = at line }

-- tokens, and the tree that they spell
pub record GrammarCase : Type 0 where
  pub tokens : List Token
  pub tree : Tree

-- a row by the kinds of its tokens
abbrev pub row : List Kind → Tree → GrammarCase
row kinds tree = record { tokens = on_lines 1 kinds; tree = tree }

-- the tokens of the row spell its tree, and that is the tree that is meant
abbrev pub Holds : GrammarCase → Type 0
Holds row = IsExpressionOf row.tree row.tokens

-- tokens, and the declarations that they spell
pub record FileRow : Type 0 where
  pub tokens : List Token
  pub declarations : List Declaration

-- a row by the kinds of its tokens
abbrev pub file_row : List Kind → List Declaration → FileRow
file_row kinds declarations = record { tokens = on_lines 1 kinds; declarations = declarations }

-- the declarations of the row are the tree of its tokens
abbrev pub FileHolds : FileRow → Type 0
FileHolds row = IsTreeOf row.declarations row.tokens

-- what stands by itself, and lists in brackets
abbrev pub atoms : List GrammarCase
atoms =
    -- no token
    row [] Empty ∷
    -- a
    row (name (codes "a") ∷ []) (Identifier (name_on (codes "a") 1)) ∷
    -- 1
    row (integer 1 ∷ []) (Constant (at 1) (Literals.Integer (pos 1))) ∷
    -- "s"
    row (text (codes "s") ∷ []) (Constant (at 1) (Literals.Text (codes "s"))) ∷
    -- 'c'
    row (cset (codes "c") ∷ []) (Constant (at 1) (Literals.Cset (codes "c"))) ∷
    -- & a
    row (op O.Ampersand ∷ name (codes "a") ∷ []) (Keyword (at 1) (name_on (codes "a") 2)) ∷
    -- & fail
    row (op O.Ampersand ∷ word W.Fail ∷ []) (Keyword (at 1) (name_on (codes "fail") 2)) ∷
    -- next
    row (word W.Next ∷ []) (Next (at 1)) ∷
    -- fail
    row (word W.Fail ∷ []) (Fail (at 1)) ∷
    -- ( )
    row (mark M.OpenParenthesis ∷ mark M.CloseParenthesis ∷ []) (Parentheses (at 1) (More Empty NoTrees)) ∷
    -- ( a )
    row (mark M.OpenParenthesis ∷ name (codes "a") ∷ mark M.CloseParenthesis ∷ [])
    (Parentheses (at 1) (More (Identifier (name_on (codes "a") 2)) NoTrees)) ∷
    -- ( a , b )
    row (mark M.OpenParenthesis
    ∷ name (codes "a") ∷ mark M.Comma ∷ name (codes "b") ∷ mark M.CloseParenthesis ∷ []) (Parentheses (at 1)
    (More (Identifier (name_on (codes "a") 2)) (More (Identifier (name_on (codes "b") 4)) NoTrees))) ∷
    -- [ ]
    row (mark M.OpenBracket ∷ mark M.CloseBracket ∷ []) (Listing (at 1) (More Empty NoTrees)) ∷
    -- [ a , b ]
    row (mark M.OpenBracket ∷ name (codes "a") ∷ mark M.Comma ∷ name (codes "b") ∷ mark M.CloseBracket ∷ [])
    (Listing (at 1)
    (More (Identifier (name_on (codes "a") 2)) (More (Identifier (name_on (codes "b") 4)) NoTrees))) ∷
    -- [ , ]
    row (mark M.OpenBracket ∷ mark M.Comma ∷ mark M.CloseBracket ∷ [])
    (Listing (at 1) (More Empty (More Empty NoTrees))) ∷
    -- { }
    row (mark M.OpenBrace ∷ mark M.CloseBrace ∷ []) (Compound (at 1) (More Empty NoTrees)) ∷
    -- { ; }
    row (mark M.OpenBrace ∷ mark M.Semicolon ∷ mark M.CloseBrace ∷ [])
    (Compound (at 1) (More Empty (More Empty NoTrees))) ∷
    -- { a ; b }
    row (mark M.OpenBrace ∷ name (codes "a") ∷ mark M.Semicolon ∷ name (codes "b") ∷ mark M.CloseBrace ∷ [])
    (Compound (at 1)
    (More (Identifier (name_on (codes "a") 2)) (More (Identifier (name_on (codes "b") 4)) NoTrees))) ∷
    -- { a ; }
    row (mark M.OpenBrace ∷ name (codes "a") ∷ mark M.Semicolon ∷ mark M.CloseBrace ∷ [])
    (Compound (at 1) (More (Identifier (name_on (codes "a") 2)) (More Empty NoTrees))) ∷
    []

-- what stands behind an operand
abbrev pub suffixes : List GrammarCase
suffixes =
    -- a ( )
    row (name (codes "a") ∷ mark M.OpenParenthesis ∷ mark M.CloseParenthesis ∷ [])
    (Call (at 1) (Identifier (name_on (codes "a") 1)) (More Empty NoTrees)) ∷
    -- a ( b , c )
    row (name (codes "a") ∷ mark M.OpenParenthesis ∷ name (codes "b") ∷ mark M.Comma
    ∷ name (codes "c") ∷ mark M.CloseParenthesis ∷ []) (Call (at 1) (Identifier (name_on (codes "a") 1))
    (More (Identifier (name_on (codes "b") 3)) (More (Identifier (name_on (codes "c") 5)) NoTrees))) ∷
    -- a ( , b )
    row (name (codes "a") ∷ mark M.OpenParenthesis ∷ mark M.Comma
    ∷ name (codes "b") ∷ mark M.CloseParenthesis ∷ []) (Call (at 1) (Identifier (name_on (codes "a") 1))
    (More Empty (More (Identifier (name_on (codes "b") 4)) NoTrees))) ∷
    -- a { }
    row (name (codes "a") ∷ mark M.OpenBrace ∷ mark M.CloseBrace ∷ [])
    (CoCall (at 1) (Identifier (name_on (codes "a") 1)) (More Empty NoTrees)) ∷
    -- a { b , c }
    row (name (codes "a") ∷ mark M.OpenBrace ∷ name (codes "b") ∷ mark M.Comma
    ∷ name (codes "c") ∷ mark M.CloseBrace ∷ []) (CoCall (at 1) (Identifier (name_on (codes "a") 1))
    (More (Identifier (name_on (codes "b") 3)) (More (Identifier (name_on (codes "c") 5)) NoTrees))) ∷
    -- a [ ]
    row (name (codes "a") ∷ mark M.OpenBracket ∷ mark M.CloseBracket ∷ [])
    (Subscript (at 1) (Identifier (name_on (codes "a") 1)) (More Empty NoTrees)) ∷
    -- a [ b ]
    row (name (codes "a") ∷ mark M.OpenBracket ∷ name (codes "b") ∷ mark M.CloseBracket ∷ [])
    (Subscript (at 1) (Identifier (name_on (codes "a") 1))
    (More (Identifier (name_on (codes "b") 3)) NoTrees))
    ∷
    -- a [ b , c ]
    row (name (codes "a") ∷ mark M.OpenBracket ∷ name (codes "b") ∷ mark M.Comma
    ∷ name (codes "c") ∷ mark M.CloseBracket ∷ []) (Subscript (at 1) (Identifier (name_on (codes "a") 1))
    (More (Identifier (name_on (codes "b") 3)) (More (Identifier (name_on (codes "c") 5)) NoTrees))) ∷
    -- a [ b : c ]
    row (name (codes "a") ∷ mark M.OpenBracket ∷ name (codes "b") ∷ mark M.Colon
    ∷ name (codes "c") ∷ mark M.CloseBracket ∷ [])
    (Section (at 1) Between (Identifier (name_on (codes "a") 1))
    (Identifier (name_on (codes "b") 3)) (Identifier (name_on (codes "c") 5))) ∷
    -- a [ b +: c ]
    row (name (codes "a") ∷ mark M.OpenBracket ∷ name (codes "b") ∷ mark M.PlusColon
    ∷ name (codes "c") ∷ mark M.CloseBracket ∷ [])
    (Section (at 1) Forward (Identifier (name_on (codes "a") 1))
    (Identifier (name_on (codes "b") 3)) (Identifier (name_on (codes "c") 5))) ∷
    -- a [ b -: c ]
    row (name (codes "a") ∷ mark M.OpenBracket ∷ name (codes "b") ∷ mark M.MinusColon ∷ name (codes "c")
    ∷ mark M.CloseBracket ∷ []) (Section (at 1) Backward (Identifier (name_on (codes "a") 1))
    (Identifier (name_on (codes "b") 3)) (Identifier (name_on (codes "c") 5))) ∷
    -- a . b
    row (name (codes "a") ∷ op O.Dot ∷ name (codes "b") ∷ [])
    (Field (at 1) (Identifier (name_on (codes "a") 1)) (name_on (codes "b") 3)) ∷
    -- a . b ( c ) [ d ]
    row (name (codes "a") ∷ op O.Dot ∷ name (codes "b") ∷ mark M.OpenParenthesis ∷ name (codes "c")
    ∷ mark M.CloseParenthesis ∷ mark M.OpenBracket ∷ name (codes "d") ∷ mark M.CloseBracket ∷ [])
    (Subscript (at 1) (Call (at 1) (Field (at 1) (Identifier (name_on (codes "a") 1)) (name_on (codes "b") 3))
    (More (Identifier (name_on (codes "c") 5)) NoTrees)) (More (Identifier (name_on (codes "d") 8)) NoTrees))
    ∷
    -- 1 ( a ) { b }
    row (integer 1 ∷ mark M.OpenParenthesis ∷ name (codes "a")
    ∷ mark M.CloseParenthesis ∷ mark M.OpenBrace ∷ name (codes "b") ∷ mark M.CloseBrace ∷ [])
    (CoCall (at 1) (Call (at 1) (Constant (at 1) (Literals.Integer (pos 1)))
    (More (Identifier (name_on (codes "a") 3)) NoTrees)) (More (Identifier (name_on (codes "b") 6)) NoTrees))
    ∷
    -- ( a ) ( b )
    row (mark M.OpenParenthesis ∷ name (codes "a") ∷ mark M.CloseParenthesis ∷ mark M.OpenParenthesis
    ∷ name (codes "b") ∷ mark M.CloseParenthesis ∷ []) (Call (at 1) (Parentheses (at 1)
    (More (Identifier (name_on (codes "a") 2)) NoTrees)) (More (Identifier (name_on (codes "b") 5)) NoTrees))
    ∷
    -- a [ b & c : d ]
    row (name (codes "a") ∷ mark M.OpenBracket ∷ name (codes "b") ∷ op O.Ampersand
    ∷ name (codes "c") ∷ mark M.Colon ∷ name (codes "d") ∷ mark M.CloseBracket ∷ []) (Section (at 1) Between
    (Identifier (name_on (codes "a") 1))
    (Binary (at 3) (Plain O.Ampersand) (Identifier (name_on (codes "b") 3))
    (Identifier (name_on (codes "c") 5))) (Identifier (name_on (codes "d") 7))) ∷
    []

-- the forms that begin with a word, and `to`
abbrev pub forms : List GrammarCase
forms =
    -- not a
    row (word W.Not ∷ name (codes "a") ∷ []) (Not (at 1) (Identifier (name_on (codes "a") 2))) ∷
    -- a to b
    row (name (codes "a") ∷ word W.To ∷ name (codes "b") ∷ [])
    (To (at 1) (Identifier (name_on (codes "a") 1)) (Identifier (name_on (codes "b") 3)) Absent) ∷
    -- a to b by c
    row (name (codes "a") ∷ word W.To ∷ name (codes "b") ∷ word W.By ∷ name (codes "c") ∷ [])
    (To (at 1) (Identifier (name_on (codes "a") 1)) (Identifier (name_on (codes "b") 3))
    (Present (Identifier (name_on (codes "c") 5)))) ∷
    -- if a then b
    row (word W.If ∷ name (codes "a") ∷ word W.Then ∷ name (codes "b") ∷ [])
    (If (at 1) (Identifier (name_on (codes "a") 2)) (Identifier (name_on (codes "b") 4)) Absent) ∷
    -- if a then b else c
    row (word W.If ∷ name (codes "a") ∷ word W.Then ∷ name (codes "b") ∷ word W.Else ∷ name (codes "c") ∷ [])
    (If (at 1) (Identifier (name_on (codes "a") 2)) (Identifier (name_on (codes "b") 4))
    (Present (Identifier (name_on (codes "c") 6)))) ∷
    -- case a of { default : b }
    row (word W.Case ∷ name (codes "a") ∷ word W.Of ∷ mark M.OpenBrace ∷ word W.Default ∷ mark M.Colon
    ∷ name (codes "b") ∷ mark M.CloseBrace ∷ []) (Case (at 1) (Identifier (name_on (codes "a") 2))
    (MoreClauses (Default (at 5) (Identifier (name_on (codes "b") 7))) NoClauses)) ∷
    -- case a of { b : c ; default : d }
    row (word W.Case ∷ name (codes "a") ∷ word W.Of ∷ mark M.OpenBrace ∷ name (codes "b") ∷ mark M.Colon
    ∷ name (codes "c") ∷ mark M.Semicolon ∷ word W.Default ∷ mark M.Colon
    ∷ name (codes "d") ∷ mark M.CloseBrace ∷ []) (Case (at 1) (Identifier (name_on (codes "a") 2))
    (MoreClauses (Guarded (at 5) (Identifier (name_on (codes "b") 5)) (Identifier (name_on (codes "c") 7)))
    (MoreClauses (Default (at 9) (Identifier (name_on (codes "d") 11))) NoClauses))) ∷
    -- case a of { b | c : d }
    row (word W.Case ∷ name (codes "a") ∷ word W.Of ∷ mark M.OpenBrace ∷ name (codes "b")
    ∷ op O.Bar ∷ name (codes "c") ∷ mark M.Colon ∷ name (codes "d") ∷ mark M.CloseBrace ∷ [])
    (Case (at 1) (Identifier (name_on (codes "a") 2))
    (MoreClauses (Guarded (at 5) (Binary (at 5) (Plain O.Bar) (Identifier (name_on (codes "b") 5))
    (Identifier (name_on (codes "c") 7))) (Identifier (name_on (codes "d") 9))) NoClauses)) ∷
    -- while a
    row (word W.While ∷ name (codes "a") ∷ [])
    (Loop (at 1) Loops.While (Identifier (name_on (codes "a") 2)) Absent) ∷
    -- while a do b
    row (word W.While ∷ name (codes "a") ∷ word W.Do ∷ name (codes "b") ∷ []) (Loop (at 1) Loops.While
    (Identifier (name_on (codes "a") 2)) (Present (Identifier (name_on (codes "b") 4)))) ∷
    -- until a do b
    row (word W.Until ∷ name (codes "a") ∷ word W.Do ∷ name (codes "b") ∷ []) (Loop (at 1) Loops.Until
    (Identifier (name_on (codes "a") 2)) (Present (Identifier (name_on (codes "b") 4)))) ∷
    -- every a
    row (word W.Every ∷ name (codes "a") ∷ [])
    (Loop (at 1) Loops.Every (Identifier (name_on (codes "a") 2)) Absent) ∷
    -- every a do b
    row (word W.Every ∷ name (codes "a") ∷ word W.Do ∷ name (codes "b") ∷ []) (Loop (at 1) Loops.Every
    (Identifier (name_on (codes "a") 2)) (Present (Identifier (name_on (codes "b") 4)))) ∷
    -- repeat a
    row (word W.Repeat ∷ name (codes "a") ∷ []) (Repeat (at 1) (Identifier (name_on (codes "a") 2))) ∷
    -- create a
    row (word W.Create ∷ name (codes "a") ∷ []) (Create (at 1) (Identifier (name_on (codes "a") 2))) ∷
    -- break
    row (word W.Break ∷ []) (Break (at 1) Empty) ∷
    -- break a
    row (word W.Break ∷ name (codes "a") ∷ []) (Break (at 1) (Identifier (name_on (codes "a") 2))) ∷
    -- return
    row (word W.Return ∷ []) (Return (at 1) Empty) ∷
    -- return a
    row (word W.Return ∷ name (codes "a") ∷ []) (Return (at 1) (Identifier (name_on (codes "a") 2))) ∷
    -- suspend
    row (word W.Suspend ∷ []) (Suspend (at 1) Empty Absent) ∷
    -- suspend a
    row (word W.Suspend ∷ name (codes "a") ∷ []) (Suspend (at 1) (Identifier (name_on (codes "a") 2)) Absent)
    ∷
    -- suspend a do b
    row (word W.Suspend ∷ name (codes "a") ∷ word W.Do ∷ name (codes "b") ∷ [])
    (Suspend (at 1) (Identifier (name_on (codes "a") 2)) (Present (Identifier (name_on (codes "b") 4)))) ∷
    -- suspend do b
    row (word W.Suspend ∷ word W.Do ∷ name (codes "b") ∷ [])
    (Suspend (at 1) Empty (Present (Identifier (name_on (codes "b") 3)))) ∷
    []

-- operators of neighbouring levels, in both orders
abbrev pub levels : List GrammarCase
levels =
    -- a & b ? c
    row (name (codes "a") ∷ op O.Ampersand ∷ name (codes "b") ∷ op O.Question ∷ name (codes "c") ∷ [])
    (Binary (at 1) (Plain O.Ampersand) (Identifier (name_on (codes "a") 1)) (Binary (at 3) (Plain O.Question)
    (Identifier (name_on (codes "b") 3)) (Identifier (name_on (codes "c") 5)))) ∷
    -- a ? b & c
    row (name (codes "a") ∷ op O.Question ∷ name (codes "b") ∷ op O.Ampersand ∷ name (codes "c") ∷ [])
    (Binary (at 1) (Plain O.Ampersand) (Binary (at 1) (Plain O.Question) (Identifier (name_on (codes "a") 1))
    (Identifier (name_on (codes "b") 3))) (Identifier (name_on (codes "c") 5))) ∷
    -- a ? b := c
    row (name (codes "a") ∷ op O.Question ∷ name (codes "b") ∷ op O.Assign ∷ name (codes "c") ∷ [])
    (Binary (at 1) (Plain O.Question) (Identifier (name_on (codes "a") 1))
    (Binary (at 3) (Plain O.Assign) (Identifier (name_on (codes "b") 3))
    (Identifier (name_on (codes "c") 5))))
    ∷
    -- a := b ? c
    row (name (codes "a") ∷ op O.Assign ∷ name (codes "b") ∷ op O.Question ∷ name (codes "c") ∷ [])
    (Binary (at 1) (Plain O.Question) (Binary (at 1) (Plain O.Assign) (Identifier (name_on (codes "a") 1))
    (Identifier (name_on (codes "b") 3))) (Identifier (name_on (codes "c") 5))) ∷
    -- a := b to c
    row (name (codes "a") ∷ op O.Assign ∷ name (codes "b") ∷ word W.To ∷ name (codes "c") ∷ [])
    (Binary (at 1) (Plain O.Assign) (Identifier (name_on (codes "a") 1))
    (To (at 3) (Identifier (name_on (codes "b") 3)) (Identifier (name_on (codes "c") 5)) Absent)) ∷
    -- a to b := c
    row (name (codes "a") ∷ word W.To ∷ name (codes "b") ∷ op O.Assign ∷ name (codes "c") ∷ [])
    (Binary (at 1) (Plain O.Assign) (To (at 1) (Identifier (name_on (codes "a") 1))
    (Identifier (name_on (codes "b") 3)) Absent) (Identifier (name_on (codes "c") 5))) ∷
    -- a to b | c
    row (name (codes "a") ∷ word W.To ∷ name (codes "b") ∷ op O.Bar ∷ name (codes "c") ∷ [])
    (To (at 1) (Identifier (name_on (codes "a") 1)) (Binary (at 3) (Plain O.Bar)
    (Identifier (name_on (codes "b") 3)) (Identifier (name_on (codes "c") 5))) Absent) ∷
    -- a | b to c
    row (name (codes "a") ∷ op O.Bar ∷ name (codes "b") ∷ word W.To ∷ name (codes "c") ∷ []) (To (at 1)
    (Binary (at 1) (Plain O.Bar) (Identifier (name_on (codes "a") 1)) (Identifier (name_on (codes "b") 3)))
    (Identifier (name_on (codes "c") 5)) Absent) ∷
    -- a | b < c
    row (name (codes "a") ∷ op O.Bar ∷ name (codes "b") ∷ op O.Less ∷ name (codes "c") ∷ [])
    (Binary (at 1) (Plain O.Bar) (Identifier (name_on (codes "a") 1))
    (Binary (at 3) (Plain O.Less) (Identifier (name_on (codes "b") 3)) (Identifier (name_on (codes "c") 5))))
    ∷
    -- a < b | c
    row (name (codes "a") ∷ op O.Less ∷ name (codes "b") ∷ op O.Bar ∷ name (codes "c") ∷ [])
    (Binary (at 1) (Plain O.Bar) (Binary (at 1) (Plain O.Less) (Identifier (name_on (codes "a") 1))
    (Identifier (name_on (codes "b") 3))) (Identifier (name_on (codes "c") 5))) ∷
    -- a < b || c
    row (name (codes "a") ∷ op O.Less ∷ name (codes "b") ∷ op O.BarBar ∷ name (codes "c") ∷ [])
    (Binary (at 1) (Plain O.Less) (Identifier (name_on (codes "a") 1))
    (Binary (at 3) (Plain O.BarBar) (Identifier (name_on (codes "b") 3))
    (Identifier (name_on (codes "c") 5))))
    ∷
    -- a || b < c
    row (name (codes "a") ∷ op O.BarBar ∷ name (codes "b") ∷ op O.Less ∷ name (codes "c") ∷ [])
    (Binary (at 1) (Plain O.Less) (Binary (at 1) (Plain O.BarBar) (Identifier (name_on (codes "a") 1))
    (Identifier (name_on (codes "b") 3))) (Identifier (name_on (codes "c") 5))) ∷
    -- a || b + c
    row (name (codes "a") ∷ op O.BarBar ∷ name (codes "b") ∷ op O.Plus ∷ name (codes "c") ∷ [])
    (Binary (at 1) (Plain O.BarBar) (Identifier (name_on (codes "a") 1))
    (Binary (at 3) (Plain O.Plus) (Identifier (name_on (codes "b") 3)) (Identifier (name_on (codes "c") 5))))
    ∷
    -- a + b || c
    row (name (codes "a") ∷ op O.Plus ∷ name (codes "b") ∷ op O.BarBar ∷ name (codes "c") ∷ [])
    (Binary (at 1) (Plain O.BarBar) (Binary (at 1) (Plain O.Plus) (Identifier (name_on (codes "a") 1))
    (Identifier (name_on (codes "b") 3))) (Identifier (name_on (codes "c") 5))) ∷
    -- a + b * c
    row (name (codes "a") ∷ op O.Plus ∷ name (codes "b") ∷ op O.Star ∷ name (codes "c") ∷ [])
    (Binary (at 1) (Plain O.Plus) (Identifier (name_on (codes "a") 1))
    (Binary (at 3) (Plain O.Star) (Identifier (name_on (codes "b") 3)) (Identifier (name_on (codes "c") 5))))
    ∷
    -- a * b + c
    row (name (codes "a") ∷ op O.Star ∷ name (codes "b") ∷ op O.Plus ∷ name (codes "c") ∷ [])
    (Binary (at 1) (Plain O.Plus) (Binary (at 1) (Plain O.Star) (Identifier (name_on (codes "a") 1))
    (Identifier (name_on (codes "b") 3))) (Identifier (name_on (codes "c") 5))) ∷
    -- a * b ^ c
    row (name (codes "a") ∷ op O.Star ∷ name (codes "b") ∷ op O.Caret ∷ name (codes "c") ∷ [])
    (Binary (at 1) (Plain O.Star) (Identifier (name_on (codes "a") 1))
    (Binary (at 3) (Plain O.Caret) (Identifier (name_on (codes "b") 3)) (Identifier (name_on (codes "c") 5))))
    ∷
    -- a ^ b * c
    row (name (codes "a") ∷ op O.Caret ∷ name (codes "b") ∷ op O.Star ∷ name (codes "c") ∷ [])
    (Binary (at 1) (Plain O.Star) (Binary (at 1) (Plain O.Caret) (Identifier (name_on (codes "a") 1))
    (Identifier (name_on (codes "b") 3))) (Identifier (name_on (codes "c") 5))) ∷
    -- a ^ b \ c
    row (name (codes "a") ∷ op O.Caret ∷ name (codes "b") ∷ op O.Backslash ∷ name (codes "c") ∷ [])
    (Binary (at 1) (Plain O.Caret) (Identifier (name_on (codes "a") 1)) (Binary (at 3) (Plain O.Backslash)
    (Identifier (name_on (codes "b") 3)) (Identifier (name_on (codes "c") 5)))) ∷
    -- a \ b ^ c
    row (name (codes "a") ∷ op O.Backslash ∷ name (codes "b") ∷ op O.Caret ∷ name (codes "c") ∷ [])
    (Binary (at 1) (Plain O.Caret) (Binary (at 1) (Plain O.Backslash) (Identifier (name_on (codes "a") 1))
    (Identifier (name_on (codes "b") 3))) (Identifier (name_on (codes "c") 5))) ∷
    -- a \ - b
    row (name (codes "a") ∷ op O.Backslash ∷ op O.Minus ∷ name (codes "b") ∷ [])
    (Binary (at 1) (Plain O.Backslash) (Identifier (name_on (codes "a") 1))
    (Prefix (at 3) O.Minus (Identifier (name_on (codes "b") 4)))) ∷
    -- - a \ b
    row (op O.Minus ∷ name (codes "a") ∷ op O.Backslash ∷ name (codes "b") ∷ [])
    (Binary (at 1) (Plain O.Backslash) (Prefix (at 1) O.Minus (Identifier (name_on (codes "a") 2)))
    (Identifier (name_on (codes "b") 4))) ∷
    -- - a . b
    row (op O.Minus ∷ name (codes "a") ∷ op O.Dot ∷ name (codes "b") ∷ [])
    (Prefix (at 1) O.Minus (Field (at 2) (Identifier (name_on (codes "a") 2)) (name_on (codes "b") 4))) ∷
    -- - a ( b )
    row (op O.Minus ∷ name (codes "a") ∷ mark M.OpenParenthesis ∷ name (codes "b")
    ∷ mark M.CloseParenthesis ∷ []) (Prefix (at 1) O.Minus
    (Call (at 2) (Identifier (name_on (codes "a") 2)) (More (Identifier (name_on (codes "b") 4)) NoTrees))) ∷
    -- not a [ b ]
    row (word W.Not ∷ name (codes "a") ∷ mark M.OpenBracket ∷ name (codes "b") ∷ mark M.CloseBracket ∷ [])
    (Not (at 1)
    (Subscript (at 2) (Identifier (name_on (codes "a") 2))
    (More (Identifier (name_on (codes "b") 4)) NoTrees)))
    ∷
    -- a * ( b + c )
    row (name (codes "a") ∷ op O.Star
    ∷ mark M.OpenParenthesis ∷ name (codes "b") ∷ op O.Plus ∷ name (codes "c") ∷ mark M.CloseParenthesis ∷ [])
    (Binary (at 1) (Plain O.Star) (Identifier (name_on (codes "a") 1))
    (Parentheses (at 3) (More (Binary (at 4)
    (Plain O.Plus) (Identifier (name_on (codes "b") 4)) (Identifier (name_on (codes "c") 6))) NoTrees))) ∷
    []

-- operators of one level
abbrev pub groups : List GrammarCase
groups =
    -- a & b & c
    row (name (codes "a") ∷ op O.Ampersand ∷ name (codes "b") ∷ op O.Ampersand ∷ name (codes "c") ∷ [])
    (Binary (at 1) (Plain O.Ampersand) (Binary (at 1) (Plain O.Ampersand) (Identifier (name_on (codes "a") 1))
    (Identifier (name_on (codes "b") 3))) (Identifier (name_on (codes "c") 5))) ∷
    -- a ? b ? c
    row (name (codes "a") ∷ op O.Question ∷ name (codes "b") ∷ op O.Question ∷ name (codes "c") ∷ [])
    (Binary (at 1) (Plain O.Question) (Binary (at 1) (Plain O.Question) (Identifier (name_on (codes "a") 1))
    (Identifier (name_on (codes "b") 3))) (Identifier (name_on (codes "c") 5))) ∷
    -- a := b := c
    row (name (codes "a") ∷ op O.Assign ∷ name (codes "b") ∷ op O.Assign ∷ name (codes "c") ∷ [])
    (Binary (at 1) (Plain O.Assign) (Identifier (name_on (codes "a") 1))
    (Binary (at 3) (Plain O.Assign) (Identifier (name_on (codes "b") 3))
    (Identifier (name_on (codes "c") 5))))
    ∷
    -- a :=: b <- c
    row (name (codes "a") ∷ op O.Swap ∷ name (codes "b") ∷ op O.ReversibleAssign ∷ name (codes "c") ∷ [])
    (Binary (at 1) (Plain O.Swap) (Identifier (name_on (codes "a") 1)) (Binary (at 3)
    (Plain O.ReversibleAssign) (Identifier (name_on (codes "b") 3)) (Identifier (name_on (codes "c") 5)))) ∷
    -- a +:= b <-> c
    row (name (codes "a") ∷ augmented_kind O.Plus ∷ name (codes "b") ∷ op O.ReversibleSwap ∷ name (codes "c")
    ∷ [])
    (Binary (at 1) (Augmented O.Plus) (Identifier (name_on (codes "a") 1)) (Binary (at 3)
    (Plain O.ReversibleSwap) (Identifier (name_on (codes "b") 3)) (Identifier (name_on (codes "c") 5)))) ∷
    -- a to b to c
    row (name (codes "a") ∷ word W.To ∷ name (codes "b") ∷ word W.To ∷ name (codes "c") ∷ [])
    (To (at 1) (To (at 1) (Identifier (name_on (codes "a") 1)) (Identifier (name_on (codes "b") 3)) Absent)
    (Identifier (name_on (codes "c") 5)) Absent) ∷
    -- a | b | c
    row (name (codes "a") ∷ op O.Bar ∷ name (codes "b") ∷ op O.Bar ∷ name (codes "c") ∷ [])
    (Binary (at 1) (Plain O.Bar) (Identifier (name_on (codes "a") 1))
    (Binary (at 3) (Plain O.Bar) (Identifier (name_on (codes "b") 3)) (Identifier (name_on (codes "c") 5)))) ∷
    -- a < b <= c
    row (name (codes "a") ∷ op O.Less ∷ name (codes "b") ∷ op O.LessEqual ∷ name (codes "c") ∷ [])
    (Binary (at 1) (Plain O.LessEqual) (Binary (at 1) (Plain O.Less) (Identifier (name_on (codes "a") 1))
    (Identifier (name_on (codes "b") 3))) (Identifier (name_on (codes "c") 5))) ∷
    -- a || b ||| c
    row (name (codes "a") ∷ op O.BarBar ∷ name (codes "b") ∷ op O.BarBarBar ∷ name (codes "c") ∷ [])
    (Binary (at 1) (Plain O.BarBarBar) (Binary (at 1) (Plain O.BarBar) (Identifier (name_on (codes "a") 1))
    (Identifier (name_on (codes "b") 3))) (Identifier (name_on (codes "c") 5))) ∷
    -- a - b ++ c
    row (name (codes "a") ∷ op O.Minus ∷ name (codes "b") ∷ op O.PlusPlus ∷ name (codes "c") ∷ [])
    (Binary (at 1) (Plain O.PlusPlus) (Binary (at 1) (Plain O.Minus) (Identifier (name_on (codes "a") 1))
    (Identifier (name_on (codes "b") 3))) (Identifier (name_on (codes "c") 5))) ∷
    -- a / b % c
    row (name (codes "a") ∷ op O.Slash ∷ name (codes "b") ∷ op O.Percent ∷ name (codes "c") ∷ [])
    (Binary (at 1) (Plain O.Percent) (Binary (at 1) (Plain O.Slash) (Identifier (name_on (codes "a") 1))
    (Identifier (name_on (codes "b") 3))) (Identifier (name_on (codes "c") 5))) ∷
    -- a ^ b ^ c
    row (name (codes "a") ∷ op O.Caret ∷ name (codes "b") ∷ op O.Caret ∷ name (codes "c") ∷ [])
    (Binary (at 1) (Plain O.Caret) (Identifier (name_on (codes "a") 1))
    (Binary (at 3) (Plain O.Caret) (Identifier (name_on (codes "b") 3)) (Identifier (name_on (codes "c") 5))))
    ∷
    -- a @ b ! c
    row (name (codes "a") ∷ op O.At ∷ name (codes "b") ∷ op O.Bang ∷ name (codes "c") ∷ [])
    (Binary (at 1) (Plain O.Bang) (Binary (at 1) (Plain O.At) (Identifier (name_on (codes "a") 1))
    (Identifier (name_on (codes "b") 3))) (Identifier (name_on (codes "c") 5))) ∷
    -- a = b ~= c
    row (name (codes "a") ∷ op O.Equal ∷ name (codes "b") ∷ op O.NotEqual ∷ name (codes "c") ∷ [])
    (Binary (at 1) (Plain O.NotEqual) (Binary (at 1) (Plain O.Equal) (Identifier (name_on (codes "a") 1))
    (Identifier (name_on (codes "b") 3))) (Identifier (name_on (codes "c") 5))) ∷
    -- a == b === c
    row (name (codes "a") ∷ op O.EqualEqual ∷ name (codes "b") ∷ op O.EqualEqualEqual ∷ name (codes "c") ∷ [])
    (Binary (at 1) (Plain O.EqualEqualEqual) (Binary (at 1) (Plain O.EqualEqual) (Identifier
    (name_on (codes "a") 1)) (Identifier (name_on (codes "b") 3))) (Identifier (name_on (codes "c") 5))) ∷
    []

-- operators before their operand
abbrev pub prefixes : List GrammarCase
prefixes =
    -- | | a
    row (op O.Bar ∷ op O.Bar ∷ name (codes "a") ∷ [])
    (Prefix (at 1) O.Bar (Prefix (at 2) O.Bar (Identifier (name_on (codes "a") 3)))) ∷
    -- || a
    row (op O.BarBar ∷ name (codes "a") ∷ [])
    (Prefix (at 1) O.Bar (Prefix (at 1) O.Bar (Identifier (name_on (codes "a") 2)))) ∷
    -- ||| a
    row (op O.BarBarBar ∷ name (codes "a") ∷ [])
    (Prefix (at 1) O.Bar (Prefix (at 1) O.Bar (Prefix (at 1) O.Bar (Identifier (name_on (codes "a") 2))))) ∷
    -- ++ a
    row (op O.PlusPlus ∷ name (codes "a") ∷ [])
    (Prefix (at 1) O.Plus (Prefix (at 1) O.Plus (Identifier (name_on (codes "a") 2)))) ∷
    -- -- a
    row (op O.MinusMinus ∷ name (codes "a") ∷ [])
    (Prefix (at 1) O.Minus (Prefix (at 1) O.Minus (Identifier (name_on (codes "a") 2)))) ∷
    -- ** a
    row (op O.StarStar ∷ name (codes "a") ∷ [])
    (Prefix (at 1) O.Star (Prefix (at 1) O.Star (Identifier (name_on (codes "a") 2)))) ∷
    -- ~= a
    row (op O.NotEqual ∷ name (codes "a") ∷ [])
    (Prefix (at 1) O.Tilde (Prefix (at 1) O.Equal (Identifier (name_on (codes "a") 2)))) ∷
    -- ~== a
    row (op O.NotEqualEqual ∷ name (codes "a") ∷ []) (Prefix (at 1) O.Tilde
    (Prefix (at 1) O.Equal (Prefix (at 1) O.Equal (Identifier (name_on (codes "a") 2))))) ∷
    -- ~=== a
    row (op O.NotEqualEqualEqual ∷ name (codes "a") ∷ []) (Prefix (at 1) O.Tilde (Prefix (at 1) O.Equal
    (Prefix (at 1) O.Equal (Prefix (at 1) O.Equal (Identifier (name_on (codes "a") 2)))))) ∷
    -- == a
    row (op O.EqualEqual ∷ name (codes "a") ∷ [])
    (Prefix (at 1) O.Equal (Prefix (at 1) O.Equal (Identifier (name_on (codes "a") 2)))) ∷
    -- === a
    row (op O.EqualEqualEqual ∷ name (codes "a") ∷ []) (Prefix (at 1) O.Equal
    (Prefix (at 1) O.Equal (Prefix (at 1) O.Equal (Identifier (name_on (codes "a") 2))))) ∷
    -- a + + b
    row (name (codes "a") ∷ op O.Plus ∷ op O.Plus ∷ name (codes "b") ∷ []) (Binary (at 1) (Plain O.Plus)
    (Identifier (name_on (codes "a") 1)) (Prefix (at 3) O.Plus (Identifier (name_on (codes "b") 4)))) ∷
    -- a ++ b
    row (name (codes "a") ∷ op O.PlusPlus ∷ name (codes "b") ∷ [])
    (Binary (at 1) (Plain O.PlusPlus) (Identifier (name_on (codes "a") 1))
    (Identifier (name_on (codes "b") 3)))
    ∷
    -- a - - - b
    row (name (codes "a") ∷ op O.Minus ∷ op O.Minus ∷ op O.Minus ∷ name (codes "b") ∷ [])
    (Binary (at 1) (Plain O.Minus) (Identifier (name_on (codes "a") 1))
    (Prefix (at 3) O.Minus (Prefix (at 4) O.Minus (Identifier (name_on (codes "b") 5))))) ∷
    -- . a . b
    row (op O.Dot ∷ name (codes "a") ∷ op O.Dot ∷ name (codes "b") ∷ [])
    (Prefix (at 1) O.Dot (Field (at 2) (Identifier (name_on (codes "a") 2)) (name_on (codes "b") 4))) ∷
    -- - not a
    row (op O.Minus ∷ word W.Not ∷ name (codes "a") ∷ [])
    (Prefix (at 1) O.Minus (Not (at 2) (Identifier (name_on (codes "a") 3)))) ∷
    -- not -- a
    row (word W.Not ∷ op O.MinusMinus ∷ name (codes "a") ∷ [])
    (Not (at 1) (Prefix (at 2) O.Minus (Prefix (at 2) O.Minus (Identifier (name_on (codes "a") 3))))) ∷
    []

-- `else`, `do` and `by` belong to the nearest form, and operands reach far
abbrev pub nearest : List GrammarCase
nearest =
    -- if a then if b then c else d
    row (word W.If ∷ name (codes "a") ∷ word W.Then ∷ word W.If ∷ name (codes "b") ∷ word W.Then
    ∷ name (codes "c") ∷ word W.Else ∷ name (codes "d") ∷ [])
    (If (at 1) (Identifier (name_on (codes "a") 2)) (If (at 4) (Identifier (name_on (codes "b") 5))
    (Identifier (name_on (codes "c") 7)) (Present (Identifier (name_on (codes "d") 9)))) Absent) ∷
    -- if a then b else if c then d
    row (word W.If ∷ name (codes "a") ∷ word W.Then ∷ name (codes "b") ∷ word W.Else
    ∷ word W.If ∷ name (codes "c") ∷ word W.Then ∷ name (codes "d") ∷ [])
    (If (at 1) (Identifier (name_on (codes "a") 2)) (Identifier (name_on (codes "b") 4))
    (Present (If (at 6) (Identifier (name_on (codes "c") 7)) (Identifier (name_on (codes "d") 9)) Absent))) ∷
    -- if if a then b else c then d
    row (word W.If ∷ word W.If ∷ name (codes "a")
    ∷ word W.Then ∷ name (codes "b") ∷ word W.Else ∷ name (codes "c") ∷ word W.Then ∷ name (codes "d") ∷ [])
    (If (at 1) (If (at 2) (Identifier (name_on (codes "a") 3)) (Identifier (name_on (codes "b") 5))
    (Present (Identifier (name_on (codes "c") 7)))) (Identifier (name_on (codes "d") 9)) Absent) ∷
    -- while a do while b do c
    row (word W.While
    ∷ name (codes "a") ∷ word W.Do ∷ word W.While ∷ name (codes "b") ∷ word W.Do ∷ name (codes "c") ∷ [])
    (Loop (at 1) Loops.While (Identifier (name_on (codes "a") 2)) (Present (Loop (at 4) Loops.While
    (Identifier (name_on (codes "b") 5)) (Present (Identifier (name_on (codes "c") 7)))))) ∷
    -- while while a do b do c
    row (word W.While
    ∷ word W.While ∷ name (codes "a") ∷ word W.Do ∷ name (codes "b") ∷ word W.Do ∷ name (codes "c") ∷ [])
    (Loop (at 1) Loops.While (Loop (at 2) Loops.While (Identifier (name_on (codes "a") 3))
    (Present (Identifier (name_on (codes "b") 5)))) (Present (Identifier (name_on (codes "c") 7)))) ∷
    -- while suspend do b
    row (word W.While ∷ word W.Suspend ∷ word W.Do ∷ name (codes "b") ∷ [])
    (Loop (at 1) Loops.While (Suspend (at 2) Empty (Present (Identifier (name_on (codes "b") 4)))) Absent) ∷
    -- suspend while a do b
    row (word W.Suspend ∷ word W.While ∷ name (codes "a") ∷ word W.Do ∷ name (codes "b") ∷ [])
    (Suspend (at 1) (Loop (at 2) Loops.While (Identifier (name_on (codes "a") 3))
    (Present (Identifier (name_on (codes "b") 5)))) Absent) ∷
    -- suspend suspend a do b
    row (word W.Suspend ∷ word W.Suspend ∷ name (codes "a") ∷ word W.Do ∷ name (codes "b") ∷ [])
    (Suspend (at 1)
    (Suspend (at 2) (Identifier (name_on (codes "a") 3)) (Present (Identifier (name_on (codes "b") 5))))
    Absent)
    ∷
    -- every a to b by c do d
    row (word W.Every ∷ name (codes "a") ∷ word W.To ∷ name (codes "b")
    ∷ word W.By ∷ name (codes "c") ∷ word W.Do ∷ name (codes "d") ∷ []) (Loop (at 1) Loops.Every
    (To (at 2) (Identifier (name_on (codes "a") 2)) (Identifier (name_on (codes "b") 4))
    (Present (Identifier (name_on (codes "c") 6)))) (Present (Identifier (name_on (codes "d") 8)))) ∷
    -- a to b to c by d
    row (name (codes "a")
    ∷ word W.To ∷ name (codes "b") ∷ word W.To ∷ name (codes "c") ∷ word W.By ∷ name (codes "d") ∷ [])
    (To (at 1) (To (at 1) (Identifier (name_on (codes "a") 1)) (Identifier (name_on (codes "b") 3)) Absent)
    (Identifier (name_on (codes "c") 5)) (Present (Identifier (name_on (codes "d") 7)))) ∷
    -- a to return b to c by d
    row (name (codes "a") ∷ word W.To
    ∷ word W.Return ∷ name (codes "b") ∷ word W.To ∷ name (codes "c") ∷ word W.By ∷ name (codes "d") ∷ [])
    (To (at 1) (Identifier (name_on (codes "a") 1)) (Return (at 3) (To (at 4) (Identifier (name_on (codes "b")
    4)) (Identifier (name_on (codes "c") 6)) (Present (Identifier (name_on (codes "d") 8))))) Absent) ∷
    -- if a then b & c
    row (word W.If ∷ name (codes "a") ∷ word W.Then ∷ name (codes "b") ∷ op O.Ampersand
    ∷ name (codes "c") ∷ [])
    (If (at 1) (Identifier (name_on (codes "a") 2)) (Binary (at 4) (Plain O.Ampersand)
    (Identifier (name_on (codes "b") 4)) (Identifier (name_on (codes "c") 6))) Absent) ∷
    -- a & if b then c & d
    row (name (codes "a") ∷ op O.Ampersand ∷ word W.If ∷ name (codes "b") ∷ word W.Then
    ∷ name (codes "c") ∷ op O.Ampersand ∷ name (codes "d") ∷ []) (Binary (at 1) (Plain O.Ampersand)
    (Identifier (name_on (codes "a") 1)) (If (at 3) (Identifier (name_on (codes "b") 4)) (Binary (at 6)
    (Plain O.Ampersand) (Identifier (name_on (codes "c") 6)) (Identifier (name_on (codes "d") 8))) Absent)) ∷
    -- repeat a + b
    row (word W.Repeat ∷ name (codes "a") ∷ op O.Plus ∷ name (codes "b") ∷ []) (Repeat (at 1)
    (Binary (at 2) (Plain O.Plus) (Identifier (name_on (codes "a") 2)) (Identifier (name_on (codes "b") 4))))
    ∷
    -- create a & b
    row (word W.Create ∷ name (codes "a") ∷ op O.Ampersand ∷ name (codes "b") ∷ []) (Create (at 1) (Binary
    (at 2) (Plain O.Ampersand) (Identifier (name_on (codes "a") 2)) (Identifier (name_on (codes "b") 4)))) ∷
    -- while a do b := c
    row (word W.While ∷ name (codes "a") ∷ word W.Do ∷ name (codes "b") ∷ op O.Assign ∷ name (codes "c") ∷ [])
    (Loop (at 1) Loops.While (Identifier (name_on (codes "a") 2)) (Present (Binary (at 4) (Plain O.Assign)
    (Identifier (name_on (codes "b") 4)) (Identifier (name_on (codes "c") 6))))) ∷
    -- not if a then b
    row (word W.Not ∷ word W.If ∷ name (codes "a") ∷ word W.Then ∷ name (codes "b") ∷ [])
    (Not (at 1) (If (at 2) (Identifier (name_on (codes "a") 3)) (Identifier (name_on (codes "b") 5)) Absent))
    ∷
    -- ( if a then b ) & c
    row (mark M.OpenParenthesis ∷ word W.If ∷ name (codes "a")
    ∷ word W.Then ∷ name (codes "b") ∷ mark M.CloseParenthesis ∷ op O.Ampersand ∷ name (codes "c") ∷ [])
    (Binary (at 1) (Plain O.Ampersand) (Parentheses (at 1)
    (More (If (at 2) (Identifier (name_on (codes "a") 3)) (Identifier (name_on (codes "b") 5)) Absent)
    NoTrees))
    (Identifier (name_on (codes "c") 8))) ∷
    []

-- `break`, `return` and `suspend` before each kind of token
abbrev pub operands : List GrammarCase
operands =
    -- return + b
    row (word W.Return ∷ op O.Plus ∷ name (codes "b") ∷ [])
    (Return (at 1) (Prefix (at 2) O.Plus (Identifier (name_on (codes "b") 3)))) ∷
    -- return & a
    row (word W.Return ∷ op O.Ampersand ∷ name (codes "a") ∷ [])
    (Return (at 1) (Keyword (at 2) (name_on (codes "a") 3))) ∷
    -- return = b
    row (word W.Return ∷ op O.Equal ∷ name (codes "b") ∷ [])
    (Return (at 1) (Prefix (at 2) O.Equal (Identifier (name_on (codes "b") 3)))) ∷
    -- return ( a )
    row (word W.Return ∷ mark M.OpenParenthesis ∷ name (codes "a") ∷ mark M.CloseParenthesis ∷ [])
    (Return (at 1) (Parentheses (at 2) (More (Identifier (name_on (codes "a") 3)) NoTrees))) ∷
    -- return [ a ]
    row (word W.Return ∷ mark M.OpenBracket ∷ name (codes "a") ∷ mark M.CloseBracket ∷ [])
    (Return (at 1) (Listing (at 2) (More (Identifier (name_on (codes "a") 3)) NoTrees))) ∷
    -- return { a }
    row (word W.Return ∷ mark M.OpenBrace ∷ name (codes "a") ∷ mark M.CloseBrace ∷ [])
    (Return (at 1) (Compound (at 2) (More (Identifier (name_on (codes "a") 3)) NoTrees))) ∷
    -- return not a
    row (word W.Return ∷ word W.Not ∷ name (codes "a") ∷ [])
    (Return (at 1) (Not (at 2) (Identifier (name_on (codes "a") 3)))) ∷
    -- return 1
    row (word W.Return ∷ integer 1 ∷ []) (Return (at 1) (Constant (at 2) (Literals.Integer (pos 1)))) ∷
    -- return a + b
    row (word W.Return ∷ name (codes "a") ∷ op O.Plus ∷ name (codes "b") ∷ []) (Return (at 1)
    (Binary (at 2) (Plain O.Plus) (Identifier (name_on (codes "a") 2)) (Identifier (name_on (codes "b") 4))))
    ∷
    -- return a ( b )
    row (word W.Return ∷ name (codes "a") ∷ mark M.OpenParenthesis ∷ name (codes "b")
    ∷ mark M.CloseParenthesis ∷ []) (Return (at 1)
    (Call (at 2) (Identifier (name_on (codes "a") 2)) (More (Identifier (name_on (codes "b") 4)) NoTrees))) ∷
    -- return a := b
    row (word W.Return ∷ name (codes "a") ∷ op O.Assign ∷ name (codes "b") ∷ []) (Return (at 1) (Binary (at 2)
    (Plain O.Assign) (Identifier (name_on (codes "a") 2)) (Identifier (name_on (codes "b") 4)))) ∷
    -- return . a
    row (word W.Return ∷ op O.Dot ∷ name (codes "a") ∷ [])
    (Return (at 1) (Prefix (at 2) O.Dot (Identifier (name_on (codes "a") 3)))) ∷
    -- return a . b
    row (word W.Return ∷ name (codes "a") ∷ op O.Dot ∷ name (codes "b") ∷ [])
    (Return (at 1) (Field (at 2) (Identifier (name_on (codes "a") 2)) (name_on (codes "b") 4))) ∷
    -- return return
    row (word W.Return ∷ word W.Return ∷ []) (Return (at 1) (Return (at 2) Empty)) ∷
    -- return % a
    row (word W.Return ∷ op O.Percent ∷ name (codes "a") ∷ [])
    (Binary (at 1) (Plain O.Percent) (Return (at 1) Empty) (Identifier (name_on (codes "a") 3))) ∷
    -- return < a
    row (word W.Return ∷ op O.Less ∷ name (codes "a") ∷ [])
    (Binary (at 1) (Plain O.Less) (Return (at 1) Empty) (Identifier (name_on (codes "a") 3))) ∷
    -- return to a
    row (word W.Return ∷ word W.To ∷ name (codes "a") ∷ [])
    (To (at 1) (Return (at 1) Empty) (Identifier (name_on (codes "a") 3)) Absent) ∷
    -- break := break
    row (word W.Break ∷ op O.Assign ∷ word W.Break ∷ [])
    (Binary (at 1) (Plain O.Assign) (Break (at 1) Empty) (Break (at 3) Empty)) ∷
    -- break break a
    row (word W.Break ∷ word W.Break ∷ name (codes "a") ∷ [])
    (Break (at 1) (Break (at 2) (Identifier (name_on (codes "a") 3)))) ∷
    -- suspend || a
    row (word W.Suspend ∷ op O.BarBar ∷ name (codes "a") ∷ [])
    (Suspend (at 1) (Prefix (at 2) O.Bar (Prefix (at 2) O.Bar (Identifier (name_on (codes "a") 3)))) Absent) ∷
    -- suspend >> a
    row (word W.Suspend ∷ op O.GreaterGreater ∷ name (codes "a") ∷ [])
    (Binary (at 1) (Plain O.GreaterGreater) (Suspend (at 1) Empty Absent)
    (Identifier (name_on (codes "a") 3)))
    ∷
    -- ( return , a )
    row (mark M.OpenParenthesis ∷ word W.Return ∷ mark M.Comma ∷ name (codes "a") ∷ mark M.CloseParenthesis
    ∷ [])
    (Parentheses (at 1) (More (Return (at 2) Empty) (More (Identifier (name_on (codes "a") 4)) NoTrees)))
    ∷
    -- { return ; a }
    row (mark M.OpenBrace ∷ word W.Return ∷ mark M.Semicolon ∷ name (codes "a") ∷ mark M.CloseBrace ∷ [])
    (Compound (at 1) (More (Return (at 2) Empty) (More (Identifier (name_on (codes "a") 4)) NoTrees))) ∷
    -- if return then a
    row (word W.If ∷ word W.Return ∷ word W.Then ∷ name (codes "a") ∷ [])
    (If (at 1) (Return (at 2) Empty) (Identifier (name_on (codes "a") 4)) Absent) ∷
    -- if a then return else b
    row (word W.If ∷ name (codes "a") ∷ word W.Then ∷ word W.Return ∷ word W.Else ∷ name (codes "b") ∷ [])
    (If (at 1) (Identifier (name_on (codes "a") 2)) (Return (at 4) Empty)
    (Present (Identifier (name_on (codes "b") 6)))) ∷
    -- while break do a
    row (word W.While ∷ word W.Break ∷ word W.Do ∷ name (codes "a") ∷ [])
    (Loop (at 1) Loops.While (Break (at 2) Empty) (Present (Identifier (name_on (codes "a") 4)))) ∷
    -- case return of { default : a }
    row (word W.Case ∷ word W.Return ∷ word W.Of ∷ mark M.OpenBrace ∷ word W.Default
    ∷ mark M.Colon ∷ name (codes "a") ∷ mark M.CloseBrace ∷ []) (Case (at 1) (Return (at 2) Empty)
    (MoreClauses (Default (at 5) (Identifier (name_on (codes "a") 7))) NoClauses)) ∷
    -- a [ return : b ]
    row (name (codes "a") ∷ mark M.OpenBracket ∷ word W.Return ∷ mark M.Colon
    ∷ name (codes "b") ∷ mark M.CloseBracket ∷ [])
    (Section (at 1) Between (Identifier (name_on (codes "a") 1))
    (Return (at 3) Empty) (Identifier (name_on (codes "b") 5))) ∷
    -- a := return b & c
    row (name (codes "a") ∷ op O.Assign ∷ word W.Return ∷ name (codes "b") ∷ op O.Ampersand ∷ name (codes "c")
    ∷ []) (Binary (at 1) (Plain O.Assign) (Identifier (name_on (codes "a") 1)) (Return (at 3) (Binary (at 4)
    (Plain O.Ampersand) (Identifier (name_on (codes "b") 4)) (Identifier (name_on (codes "c") 6))))) ∷
    -- ( return 1 ) + 2
    row (mark M.OpenParenthesis ∷ word W.Return ∷ integer 1 ∷ mark M.CloseParenthesis
    ∷ op O.Plus ∷ integer 2 ∷ []) (Binary (at 1) (Plain O.Plus) (Parentheses (at 1) (More (Return (at 2)
    (Constant (at 3) (Literals.Integer (pos 1)))) NoTrees)) (Constant (at 6) (Literals.Integer (pos 2)))) ∷
    []

-- declarations, and program texts of them
abbrev pub files : List FileRow
files =
    -- no token
    file_row ([]) ([]) ∷
    -- global a
    file_row (word W.Global ∷ name (codes "a") ∷ []) (Global (at 1) (name_on (codes "a") 2 ∷ []) ∷ []) ∷
    -- global a , b link c , "d"
    file_row (word W.Global ∷ name (codes "a") ∷ mark M.Comma ∷ name (codes "b")
    ∷ word W.Link ∷ name (codes "c") ∷ mark M.Comma ∷ text (codes "d") ∷ [])
    (Global (at 1) (name_on (codes "a") 2 ∷ name_on (codes "b") 4 ∷ [])
    ∷ Link (at 5) (Items.Identifier (name_on (codes "c") 6) ∷ Items.Text (name_on (codes "d") 8) ∷ []) ∷ []) ∷
    -- invocable "a" , b
    file_row (word W.Invocable ∷ text (codes "a") ∷ mark M.Comma ∷ name (codes "b") ∷ [])
    (Invocable (at 1) (Items.Text (name_on (codes "a") 2) ∷ Items.Identifier (name_on (codes "b") 4) ∷ [])
    ∷ [])
    ∷
    -- record r ( )
    file_row (word W.Record ∷ name (codes "r") ∷ mark M.OpenParenthesis ∷ mark M.CloseParenthesis ∷ [])
    (Record (at 1) (name_on (codes "r") 2) [] ∷ []) ∷
    -- record r ( a , b )
    file_row (word W.Record ∷ name (codes "r") ∷ mark M.OpenParenthesis
    ∷ name (codes "a") ∷ mark M.Comma ∷ name (codes "b") ∷ mark M.CloseParenthesis ∷ [])
    (Record (at 1) (name_on (codes "r") 2) (name_on (codes "a") 4 ∷ name_on (codes "b") 6 ∷ []) ∷ []) ∷
    -- procedure p ( ) ; end
    file_row (word W.Procedure ∷ name (codes "p") ∷ mark M.OpenParenthesis ∷ mark M.CloseParenthesis
    ∷ mark M.Semicolon ∷ word W.End ∷ []) (ProcedureOf (record {
      place = at 1;
      name = name_on (codes "p") 2;
      parameters = [];
      is_variadic = false;
      locals = [];
      initial = NoInitial;
      body = NoTrees;
    }) ∷ []) ∷
    -- procedure p ( a , b ) ; end
    file_row (word W.Procedure ∷ name (codes "p") ∷ mark M.OpenParenthesis ∷ name (codes "a") ∷ mark M.Comma
    ∷ name (codes "b") ∷ mark M.CloseParenthesis ∷ mark M.Semicolon ∷ word W.End ∷ []) (ProcedureOf (record {
      place = at 1;
      name = name_on (codes "p") 2;
      parameters = (name_on (codes "a") 4 ∷ name_on (codes "b") 6 ∷ []);
      is_variadic = false;
      locals = [];
      initial = NoInitial;
      body = NoTrees;
    }) ∷ []) ∷
    -- procedure p ( a [ ] ) ; end
    file_row (word W.Procedure ∷ name (codes "p") ∷ mark M.OpenParenthesis ∷ name (codes "a")
    ∷ mark M.OpenBracket ∷ mark M.CloseBracket ∷ mark M.CloseParenthesis ∷ mark M.Semicolon ∷ word W.End ∷ [])
    (ProcedureOf (record {
      place = at 1;
      name = name_on (codes "p") 2;
      parameters = (name_on (codes "a") 4 ∷ []);
      is_variadic = true;
      locals = [];
      initial = NoInitial;
      body = NoTrees;
    }) ∷ []) ∷
    -- procedure p ( a , b [ ] ) ; end
    file_row (word W.Procedure ∷ name (codes "p") ∷ mark M.OpenParenthesis ∷ name (codes "a") ∷ mark M.Comma
    ∷ name (codes "b") ∷ mark M.OpenBracket ∷ mark M.CloseBracket ∷ mark M.CloseParenthesis ∷ mark M.Semicolon
    ∷ word W.End ∷ []) (ProcedureOf (record {
      place = at 1;
      name = name_on (codes "p") 2;
      parameters = (name_on (codes "a") 4 ∷ name_on (codes "b") 6 ∷ []);
      is_variadic = true;
      locals = [];
      initial = NoInitial;
      body = NoTrees;
    }) ∷ []) ∷
    -- procedure p ( ) ; local a , b ; static c ; initial a := 1 ; b ; end
    file_row (word W.Procedure ∷ name (codes "p") ∷ mark M.OpenParenthesis ∷ mark M.CloseParenthesis
    ∷ mark M.Semicolon ∷ word W.Local ∷ name (codes "a") ∷ mark M.Comma ∷ name (codes "b") ∷ mark M.Semicolon
    ∷ word W.Static ∷ name (codes "c") ∷ mark M.Semicolon ∷ word W.Initial ∷ name (codes "a")
    ∷ op O.Assign ∷ integer 1 ∷ mark M.Semicolon ∷ name (codes "b") ∷ mark M.Semicolon ∷ word W.End ∷ [])
    (ProcedureOf (record {
      place = at 1;
      name = name_on (codes "p") 2;
      parameters = [];
      is_variadic = false;
      locals =
          record { place = at 6; kind = Local; names = (name_on (codes "a") 7 ∷ name_on (codes "b") 9 ∷ []) }
          ∷ record { place = at 11; kind = Static; names = (name_on (codes "c") 12 ∷ []) } ∷ [];
      initial = Initially (at 14) (Binary (at 15) (Plain O.Assign) (Identifier (name_on (codes "a") 15))
          (Constant (at 17) (Literals.Integer (pos 1))));
      body = More (Identifier (name_on (codes "b") 19)) NoTrees;
    }) ∷ []) ∷
    -- procedure p ( ) ; local a ; local b ; end
    file_row (word W.Procedure ∷ name (codes "p") ∷ mark M.OpenParenthesis ∷ mark M.CloseParenthesis
    ∷ mark M.Semicolon ∷ word W.Local ∷ name (codes "a") ∷ mark M.Semicolon ∷ word W.Local ∷ name (codes "b")
    ∷ mark M.Semicolon ∷ word W.End ∷ []) (ProcedureOf (record {
      place = at 1;
      name = name_on (codes "p") 2;
      parameters = [];
      is_variadic = false;
      locals = record { place = at 6; kind = Local; names = (name_on (codes "a") 7 ∷ []) }
          ∷ record { place = at 9; kind = Local; names = (name_on (codes "b") 10 ∷ []) } ∷ [];
      initial = NoInitial;
      body = NoTrees;
    }) ∷ []) ∷
    -- procedure p ( ) ; ; return ; a ; end
    file_row (word W.Procedure ∷ name (codes "p") ∷ mark M.OpenParenthesis ∷ mark M.CloseParenthesis
    ∷ mark M.Semicolon ∷ mark M.Semicolon ∷ word W.Return ∷ mark M.Semicolon ∷ name (codes "a")
    ∷ mark M.Semicolon ∷ word W.End ∷ []) (ProcedureOf (record {
      place = at 1;
      name = name_on (codes "p") 2;
      parameters = [];
      is_variadic = false;
      locals = [];
      initial = NoInitial;
      body = More Empty (More (Return (at 7) Empty) (More (Identifier (name_on (codes "a") 9)) NoTrees));
    }) ∷ []) ∷
    -- procedure p ( ) ; initial a ; end global b
    file_row (word W.Procedure ∷ name (codes "p") ∷ mark M.OpenParenthesis ∷ mark M.CloseParenthesis
    ∷ mark M.Semicolon ∷ word W.Initial ∷ name (codes "a") ∷ mark M.Semicolon ∷ word W.End ∷ word W.Global
    ∷ name (codes "b") ∷ []) (ProcedureOf (record {
      place = at 1;
      name = name_on (codes "p") 2;
      parameters = [];
      is_variadic = false;
      locals = [];
      initial = Initially (at 6) (Identifier (name_on (codes "a") 7));
      body = NoTrees;
    }) ∷ Global (at 10) (name_on (codes "b") 11 ∷ []) ∷ []) ∷
    -- procedure p ( ) ; return ; end procedure q ( ) ; end record r ( a )
    file_row (word W.Procedure ∷ name (codes "p") ∷ mark M.OpenParenthesis ∷ mark M.CloseParenthesis
    ∷ mark M.Semicolon ∷ word W.Return ∷ mark M.Semicolon ∷ word W.End ∷ word W.Procedure ∷ name (codes "q")
    ∷ mark M.OpenParenthesis ∷ mark M.CloseParenthesis ∷ mark M.Semicolon ∷ word W.End ∷ word W.Record
    ∷ name (codes "r") ∷ mark M.OpenParenthesis ∷ name (codes "a") ∷ mark M.CloseParenthesis ∷ [])
    (ProcedureOf (record {
      place = at 1;
      name = name_on (codes "p") 2;
      parameters = [];
      is_variadic = false;
      locals = [];
      initial = NoInitial;
      body = More (Return (at 6) Empty) NoTrees;
    }) ∷ ProcedureOf (record {
      place = at 9;
      name = name_on (codes "q") 10;
      parameters = [];
      is_variadic = false;
      locals = [];
      initial = NoInitial;
      body = NoTrees;
    }) ∷ Record (at 15) (name_on (codes "r") 16) (name_on (codes "a") 18 ∷ []) ∷ []) ∷
    []
