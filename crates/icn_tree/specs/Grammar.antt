-- Which tokens a tree spells, by one case for each production, and which of the trees that spell some tokens is meant: the
-- one in which no part wants the token that stands directly after it.
use Rattle.std.specs.Prelude.{◌≡◌, ℕ, ◌≤◌, false, List, ◌∷◌, ◌⊎◌, Option, Some, None, codes}
use Rattle.icn_tree.specs.declared.token.Kind.{Kind}
use Rattle.icn_tree.specs.declared.token.Kind.TheVariants.{Identifier as IdentifierKind, Integer as IntegerKind, Text as TextKind, Cset as CsetKind, Word as WordKind, Operator as OperatorKind, Punctuation as PunctuationKind}
use Rattle.icn_tree.specs.declared.token.Token.{Token}
use Rattle.icn_tree.specs.declared.token.Word.{Word}
use Rattle.icn_tree.specs.declared.token.Word.TheVariants as Words
use Rattle.icn_tree.specs.declared.token.Operator.{Operator}
use Rattle.icn_tree.specs.declared.token.Operator.TheVariants.{Ampersand, Dot}
use Rattle.icn_tree.specs.declared.token.Punctuation.{Punctuation}
use Rattle.icn_tree.specs.declared.token.Punctuation.TheVariants.{OpenParenthesis, CloseParenthesis, OpenBracket, CloseBracket, OpenBrace, CloseBrace, Comma, Semicolon, Colon, PlusColon, MinusColon}
use Rattle.icn_tree.specs.declared.tree.Place.{Place}
use Rattle.icn_tree.specs.declared.tree.Name.{Name}
use Rattle.icn_tree.specs.declared.tree.Literal.{Literal}
use Rattle.icn_tree.specs.declared.tree.Literal.TheVariants.{Integer, Text, Cset}
use Rattle.icn_tree.specs.declared.tree.Infix.{Infix}
use Rattle.icn_tree.specs.declared.tree.SectionKind.{SectionKind}
use Rattle.icn_tree.specs.declared.tree.SectionKind.TheVariants.{Between, Forward, Backward}
use Rattle.icn_tree.specs.declared.tree.LoopKind.{LoopKind}
use Rattle.icn_tree.specs.declared.tree.LoopKind.TheVariants as Loops
use Rattle.icn_tree.specs.Trees.{Tree, Trees, Clause, Clauses, Empty, Constant, Identifier, Keyword, Parentheses, Listing, Compound, Call, CoCall, Subscript, Section, Field, Prefix, Not, Binary, To, If, Case, Loop, Repeat, Create, Next, Fail, Break, Return, Suspend, Absent, Present, NoTrees, More, Default, Guarded, NoClauses, MoreClauses}
use Rattle.icn_tree.specs.Levels.{infix_level, infix_kind, left_level, right_level, level_of, prefix_of}
use Rattle.icn_tree.specs.Wants.{wants}
use Rattle.icn_tree.specs.Phrases.{Phrase, next, token_at, nothing, sign_at, sign, ◌⨾◌, starts_at}

-- A part where a tree of this level, or of a higher one, may stand. Without the last line this is the grammar alone, by
-- which a list of tokens can have many trees.
pub record Part (level : ℕ) (tree : Tree) (spelled : Phrase) (here after : List Token) : Type 0 where
  pub fits : level ≤ level_of tree
  pub spells : spelled here after
  pub longest : wants tree (next after) ≡ false

-- the kind of the token that is a literal
abbrev pub literal_kind : Literal → Kind
literal_kind (Integer n) = IntegerKind n
literal_kind (Text bytes) = TextKind bytes
literal_kind (Cset set) = CsetKind set

-- the sign between the two positions of a section
abbrev pub section_sign : SectionKind → Punctuation
section_sign Between = Colon
section_sign Forward = PlusColon
section_sign Backward = MinusColon

-- the word that a loop begins with
abbrev pub loop_word : LoopKind → Word
loop_word Loops.While = Words.While
loop_word Loops.Until = Words.Until
loop_word Loops.Every = Words.Every

-- an identifier of this name, at its place
abbrev pub identifier : Name → Phrase
identifier name = sign_at name.place (IdentifierKind name.text)

-- what stands after `&` in a keyword: an identifier, or the word `fail`
abbrev pub keyword : Name → Phrase
keyword name here after = identifier name here after
    ⊎ ((name.text ≡ codes "fail") × sign_at name.place (WordKind Words.Fail) here after)

-- an operator that stands between two operands
abbrev pub infix_sign : Infix → Phrase
infix_sign operator here after = (1 ≤ infix_level operator) × sign (infix_kind operator) here after

-- these characters stand before other tokens as an operator of their own
abbrev pub before : Place → Option Operator → List Token → List Token
before place None tokens = tokens
before place (Some operator) tokens = token_at place (OperatorKind operator) ∷ tokens

-- An operator before its operand is one character. Where it is the first of two or three that are one token, the others are
-- left as a token.
pub record IsPrefix (place : Place) (operator : Operator) (here after : List Token) : Type 0 where
  pub characters : Operator
  pub others : Option Operator
  pub behind : List Token
  pub first : prefix_of characters ≡ Some (operator, others)
  pub is_here : here ≡ token_at place (OperatorKind characters) ∷ behind
  pub is_after : after ≡ before place others behind

-- what stands between the elements of a list
pub data Separator : Type 0 where
  ByComma : Separator
  BySemicolon : Separator

-- the mark that separates the elements of a list
abbrev pub separator : Separator → Punctuation
separator ByComma = Comma
separator BySemicolon = Semicolon

-- this punctuation mark, at any place
abbrev pub mark : Punctuation → Phrase
mark punctuation = sign (PunctuationKind punctuation)

-- this reserved word, at any place
abbrev pub word : Word → Phrase
word reserved = sign (WordKind reserved)

-- this punctuation mark, at this place
abbrev pub mark_at : Place → Punctuation → Phrase
mark_at place punctuation = sign_at place (PunctuationKind punctuation)

-- this reserved word, at this place
abbrev pub word_at : Place → Word → Phrase
word_at place reserved = sign_at place (WordKind reserved)

-- Beside each case stands its production: n is an expression that may be empty (level 0), e one that is not (level 1), and
-- with a number one of that level or a higher one.
abbrev mutual
  -- the tokens that a tree spells, by the production of its form
  pub Spells : Tree → Phrase
  Spells Empty = nothing
  Spells (Constant place literal) = sign_at place (literal_kind literal)
  Spells (Identifier name) = identifier name
  -- & ID, & fail
  Spells (Keyword place name) = sign_at place (OperatorKind Ampersand) ⨾ keyword name
  -- ( n , n )
  Spells (Parentheses place elements) =
      mark_at place OpenParenthesis ⨾ SpellsList ByComma elements ⨾ mark CloseParenthesis
  -- [ n , n ]
  Spells (Listing place elements) =
      mark_at place OpenBracket ⨾ SpellsList ByComma elements ⨾ mark CloseBracket
  -- { n ; n }
  Spells (Compound place exprs) = mark_at place OpenBrace ⨾ SpellsList BySemicolon exprs ⨾ mark CloseBrace
  -- e13 ( n , n )
  Spells (Call place callee arguments) = starts_at place (Part 13 callee (Spells callee)
      ⨾ mark OpenParenthesis ⨾ SpellsList ByComma arguments ⨾ mark CloseParenthesis)
  -- e13 { n , n }
  Spells (CoCall place callee arguments) = starts_at place (Part 13 callee (Spells callee) ⨾ mark OpenBrace
      ⨾ SpellsList ByComma arguments ⨾ mark CloseBrace)
  -- e13 [ n , n ]
  Spells (Subscript place subject subscripts) = starts_at place (Part 13 subject (Spells subject)
      ⨾ mark OpenBracket ⨾ SpellsList ByComma subscripts ⨾ mark CloseBracket)
  -- e13 [ e : e ], e13 [ e +: e ], e13 [ e -: e ]
  Spells (Section place kind subject from to) =
      starts_at place (Part 13 subject (Spells subject) ⨾ mark OpenBracket ⨾ Part 1 from (Spells from)
      ⨾ mark (section_sign kind) ⨾ Part 1 to (Spells to) ⨾ mark CloseBracket)
  -- e13 . ID
  Spells (Field place subject name) =
      starts_at place (Part 13 subject (Spells subject) ⨾ sign (OperatorKind Dot) ⨾ identifier name)
  -- PREFIX e12
  Spells (Prefix place operator operand) = IsPrefix place operator ⨾ Part 12 operand (Spells operand)
  -- not e12
  Spells (Not place operand) = word_at place Words.Not ⨾ Part 12 operand (Spells operand)
  -- operators between two operands, a level each
  Spells (Binary place operator left right) =
      starts_at place (Part (left_level (infix_level operator)) left (Spells left) ⨾ infix_sign operator
      ⨾ Part (right_level (infix_level operator)) right (Spells right))
  -- e4 to e5, e4 to e5 by e5
  Spells (To place from to Absent) =
      starts_at place (Part 4 from (Spells from) ⨾ word Words.To ⨾ Part 5 to (Spells to))
  Spells (To place from to (Present by)) = starts_at place (Part 4 from (Spells from) ⨾ word Words.To
      ⨾ Part 5 to (Spells to) ⨾ word Words.By ⨾ Part 5 by (Spells by))
  -- if e then e, if e then e else e
  Spells (If place condition first Absent) = word_at place Words.If ⨾ Part 1 condition (Spells condition)
      ⨾ word Words.Then ⨾ Part 1 first (Spells first)
  Spells (If place condition first (Present other)) =
      word_at place Words.If ⨾ Part 1 condition (Spells condition) ⨾ word Words.Then
      ⨾ Part 1 first (Spells first) ⨾ word Words.Else ⨾ Part 1 other (Spells other)
  -- case e of { clause ; clause }
  Spells (Case place subject clauses) = word_at place Words.Case ⨾ Part 1 subject (Spells subject)
      ⨾ word Words.Of ⨾ mark OpenBrace ⨾ SpellsClauses clauses ⨾ mark CloseBrace
  -- while e, while e do e, and so with until and every
  Spells (Loop place kind control Absent) = word_at place (loop_word kind) ⨾ Part 1 control (Spells control)
  Spells (Loop place kind control (Present body)) = word_at place (loop_word kind)
      ⨾ Part 1 control (Spells control) ⨾ word Words.Do ⨾ Part 1 body (Spells body)
  -- repeat e
  Spells (Repeat place body) = word_at place Words.Repeat ⨾ Part 1 body (Spells body)
  -- create e
  Spells (Create place body) = word_at place Words.Create ⨾ Part 1 body (Spells body)
  -- next, fail
  Spells (Next place) = word_at place Words.Next
  Spells (Fail place) = word_at place Words.Fail
  -- break n
  Spells (Break place value) = word_at place Words.Break ⨾ Part 0 value (Spells value)
  -- return n
  Spells (Return place value) = word_at place Words.Return ⨾ Part 0 value (Spells value)
  -- suspend n, suspend n do e
  Spells (Suspend place value Absent) = word_at place Words.Suspend ⨾ Part 0 value (Spells value)
  Spells (Suspend place value (Present body)) =
      word_at place Words.Suspend ⨾ Part 0 value (Spells value) ⨾ word Words.Do ⨾ Part 1 body (Spells body)

  -- n , n or n ; n
  pub SpellsList : Separator → Trees → Phrase
  SpellsList by NoTrees = λ here after. ⊥
  SpellsList by (More tree trees) = Part 0 tree (Spells tree) ⨾ SpellsMore by trees

  -- further elements, each behind a separator
  pub SpellsMore : Separator → Trees → Phrase
  SpellsMore by NoTrees = nothing
  SpellsMore by (More tree trees) = mark (separator by) ⨾ Part 0 tree (Spells tree) ⨾ SpellsMore by trees

  -- default : e, e : e
  pub SpellsClause : Clause → Phrase
  SpellsClause (Default place value) = word_at place Words.Default ⨾ mark Colon ⨾ Part 1 value (Spells value)
  SpellsClause (Guarded place guard value) =
      starts_at place (Part 1 guard (Spells guard) ⨾ mark Colon ⨾ Part 1 value (Spells value))

  -- clause ; clause
  pub SpellsClauses : Clauses → Phrase
  SpellsClauses NoClauses = λ here after. ⊥
  SpellsClauses (MoreClauses clause clauses) = SpellsClause clause ⨾ SpellsMoreClauses clauses

  -- further clauses, each behind a semicolon
  pub SpellsMoreClauses : Clauses → Phrase
  SpellsMoreClauses NoClauses = nothing
  SpellsMoreClauses (MoreClauses clause clauses) =
      mark Semicolon ⨾ SpellsClause clause ⨾ SpellsMoreClauses clauses
