-- A reader of tokens that finds each meant tree. It takes more than the grammar does, and is there for the laws alone.
use Rattle.std.specs.Prelude.{ℕ, zero, suc, Bool, true, false, nat_le, List, [], ◌∷◌, Option, Some, None, codes}
use Rattle.icn_tree.specs.declared.token.Kind.{Kind}
use Rattle.icn_tree.specs.declared.token.Kind.TheVariants.{Identifier as IdentifierKind, Integer as IntegerKind, Text as TextKind, Cset as CsetKind, Word as WordKind, Operator as OperatorKind, Augmented as AugmentedKind, Punctuation as PunctuationKind}
use Rattle.icn_tree.specs.declared.token.Token.{Token}
use Rattle.icn_tree.specs.declared.token.Word.{Word}
use Rattle.icn_tree.specs.declared.token.Word.TheVariants as Words
use Rattle.icn_tree.specs.declared.token.Operator.{Operator}
use Rattle.icn_tree.specs.declared.token.Operator.TheVariants.{Dot}
use Rattle.icn_tree.specs.declared.token.Punctuation.{Punctuation}
use Rattle.icn_tree.specs.declared.token.Punctuation.TheVariants.{OpenParenthesis, CloseParenthesis, OpenBracket, OpenBrace, Comma, Semicolon, Colon, PlusColon, MinusColon}
use Rattle.icn_tree.specs.declared.tree.Place.{Place}
use Rattle.icn_tree.specs.declared.tree.Name.{Name}
use Rattle.icn_tree.specs.declared.tree.DeclItem.{DeclItem}
use Rattle.icn_tree.specs.declared.tree.DeclItem.TheVariants as Items
use Rattle.icn_tree.specs.declared.tree.LocalKind.{LocalKind}
use Rattle.icn_tree.specs.declared.tree.LocalKind.TheVariants.{Local, Static}
use Rattle.icn_tree.specs.declared.tree.Literal.TheVariants.{Integer, Text, Cset}
use Rattle.icn_tree.specs.declared.tree.Infix.{Infix}
use Rattle.icn_tree.specs.declared.tree.Infix.TheVariants.{Plain, Augmented}
use Rattle.icn_tree.specs.declared.tree.SectionKind.{SectionKind}
use Rattle.icn_tree.specs.declared.tree.SectionKind.TheVariants.{Between, Forward, Backward}
use Rattle.icn_tree.specs.declared.tree.LoopKind.{LoopKind}
use Rattle.icn_tree.specs.declared.tree.LoopKind.TheVariants as Loops
use Rattle.icn_tree.specs.Trees.{LocalDecl, Initial, NoInitial, Initially, Declaration, Global, Link, Invocable, Record, ProcedureOf, Tree, MaybeTree, Trees, Clause, Clauses, Empty, Constant, Identifier, Keyword, Parentheses, Listing, Compound, Call, CoCall, Subscript, Section, Field, Prefix, Not, Binary, To, If, Case, Loop, Repeat, Create, Next, Fail, Break, Return, Suspend, Absent, Present, NoTrees, More, Default, Guarded, NoClauses, MoreClauses}
use Rattle.icn_tree.specs.Levels.{infix_level, right_level, prefix_of, kind_begins, kind_goes_on, begins, is_else, is_do, is_by}
use Rattle.icn_tree.specs.Phrases.{next, place_of}
use Rattle.icn_tree.specs.Grammar.{before, Separator, ByComma, BySemicolon}

infixl 10 ◌>>=◌
abbrev pub ◌>>=◌ : {A B : Type 0} → Option A → (A → Option B) → Option B
None >>= f = None
(Some x) >>= f = f x

abbrev pub Reads : Type 0 → Type 0
Reads A = List Token → Option (A × List Token)

-- the readers that call one another
pub record Readers : Type 0 where
  pub read : ℕ → Reads Tree
  pub climb : ℕ → Place → Tree → Reads Tree
  pub more : Separator → Reads Trees
  pub more_clauses : Reads Clauses
  pub locals : Reads (List LocalDecl)
  pub body : Reads Trees

abbrev pub behind : List Token → List Token
behind [] = []
behind (token ∷ tokens) = tokens

abbrev pub text_of : Option Kind → List ℕ
text_of (Some (IdentifierKind text)) = text
text_of _ = codes "fail"

abbrev pub name_here : List Token → Name
name_here tokens = record { text = text_of (next tokens); place = place_of tokens }

abbrev pub is_separator : Separator → Option Kind → Bool
is_separator ByComma (Some (PunctuationKind Comma)) = true
is_separator BySemicolon (Some (PunctuationKind Semicolon)) = true
is_separator _ _ = false

abbrev pub is_default : Option Kind → Bool
is_default (Some (WordKind Words.Default)) = true
is_default _ = false

abbrev pub section_kind : Option Kind → Option SectionKind
section_kind (Some (PunctuationKind Colon)) = Some Between
section_kind (Some (PunctuationKind PlusColon)) = Some Forward
section_kind (Some (PunctuationKind MinusColon)) = Some Backward
section_kind _ = None

abbrev pub is_dot : Operator → Bool
is_dot Dot = true
is_dot _ = false

abbrev pub maybe_read : Bool → Reads Tree → Reads MaybeTree
maybe_read true read tokens = read (behind tokens) >>= λ found. Some (Present found.0, found.1)
maybe_read false read tokens = Some (Absent, tokens)

abbrev pub list_read : Readers → Separator → Reads Trees
list_read self by tokens = self.read 0 tokens >>= λ first. self.more by first.1 >>= λ others. Some (More first.0 others.0, others.1)

abbrev pub clause_by : Bool → Readers → Reads Clause
clause_by true self tokens = self.read 1 (behind (behind tokens)) >>= λ value. Some (Default (place_of tokens) value.0, value.1)
clause_by false self tokens =
    self.read 1 tokens >>= λ guard. self.read 1 (behind guard.1) >>= λ value. Some (Guarded (place_of tokens) guard.0 value.0, value.1)

abbrev pub clauses_read : Readers → Reads Clauses
clauses_read self tokens =
    clause_by (is_default (next tokens)) self tokens >>= λ first. self.more_clauses first.1 >>= λ others. Some (MoreClauses first.0 others.0, others.1)

abbrev pub loop_operand : Readers → Place → LoopKind → Reads Tree
loop_operand self place kind tokens =
    self.read 1 tokens >>= λ control. maybe_read (is_do (next control.1)) (self.read 1) control.1 >>= λ body. Some (Loop place kind control.0 body.0, body.1)

abbrev pub word_operand : Readers → Place → Word → Reads Tree
word_operand self place Words.Not tokens = self.read 12 tokens >>= λ operand. Some (Not place operand.0, operand.1)
word_operand self place Words.If tokens = self.read 1 tokens >>= λ condition. self.read 1 (behind condition.1)
    >>= λ first. maybe_read (is_else (next first.1)) (self.read 1) first.1 >>= λ other. Some (If place condition.0 first.0 other.0, other.1)
word_operand self place Words.Case tokens =
    self.read 1 tokens >>= λ subject. clauses_read self (behind (behind subject.1)) >>= λ clauses. Some (Case place subject.0 clauses.0, behind clauses.1)
word_operand self place Words.While tokens = loop_operand self place Loops.While tokens
word_operand self place Words.Until tokens = loop_operand self place Loops.Until tokens
word_operand self place Words.Every tokens = loop_operand self place Loops.Every tokens
word_operand self place Words.Repeat tokens = self.read 1 tokens >>= λ body. Some (Repeat place body.0, body.1)
word_operand self place Words.Create tokens = self.read 1 tokens >>= λ body. Some (Create place body.0, body.1)
word_operand self place Words.Next tokens = Some (Next place, tokens)
word_operand self place Words.Fail tokens = Some (Fail place, tokens)
word_operand self place Words.Break tokens = self.read 0 tokens >>= λ value. Some (Break place value.0, value.1)
word_operand self place Words.Return tokens = self.read 0 tokens >>= λ value. Some (Return place value.0, value.1)
word_operand self place Words.Suspend tokens =
    self.read 0 tokens >>= λ value. maybe_read (is_do (next value.1)) (self.read 1) value.1 >>= λ body. Some (Suspend place value.0 body.0, body.1)
word_operand self place _ tokens = None

-- an operator before its operand, or a keyword
abbrev pub operator_operand : Readers → Place → Option (Operator × Option Operator) → Reads Tree
operator_operand self place None tokens = Some (Keyword place (name_here tokens), behind tokens)
operator_operand self place (Some found) tokens = self.read 12 (before place found.1 tokens) >>= λ operand. Some (Prefix place found.0 operand.0, operand.1)

abbrev pub mark_operand : Readers → Place → Punctuation → Reads Tree
mark_operand self place OpenParenthesis tokens = list_read self ByComma tokens >>= λ elements. Some (Parentheses place elements.0, behind elements.1)
mark_operand self place OpenBracket tokens = list_read self ByComma tokens >>= λ elements. Some (Listing place elements.0, behind elements.1)
mark_operand self place OpenBrace tokens = list_read self BySemicolon tokens >>= λ exprs. Some (Compound place exprs.0, behind exprs.1)
mark_operand self place _ tokens = None

-- what a token and those behind it begin
abbrev pub operand : Readers → Place → Kind → Reads Tree
operand self place (IdentifierKind text) tokens = Some (Identifier (record { text = text; place = place }), tokens)
operand self place (IntegerKind n) tokens = Some (Constant place (Integer n), tokens)
operand self place (TextKind text) tokens = Some (Constant place (Text text), tokens)
operand self place (CsetKind set) tokens = Some (Constant place (Cset set), tokens)
operand self place (WordKind word) tokens = word_operand self place word tokens
operand self place (OperatorKind operator) tokens = operator_operand self place (prefix_of operator) tokens
operand self place (AugmentedKind operator) tokens = None
operand self place (PunctuationKind mark) tokens = mark_operand self place mark tokens

abbrev pub start_by : Bool → Readers → ℕ → Place → Kind → Reads Tree
start_by true self level place kind tokens = operand self place kind tokens >>= λ found. self.climb level place found.0 found.1
start_by false self level place kind tokens = None

-- an expression that is not empty
abbrev pub start : Readers → ℕ → Reads Tree
start self level [] = None
start self level (token ∷ tokens) = start_by (kind_begins token.kind) self level (record { line = token.line; file = token.file }) token.kind tokens

abbrev pub optional_by : Bool → Readers → Reads Tree
optional_by true self tokens = start self 1 tokens
optional_by false self tokens = Some (Empty, tokens)

abbrev pub read_step : Readers → ℕ → Reads Tree
read_step self zero tokens = optional_by (begins (next tokens)) self tokens
read_step self (suc level) tokens = start self (suc level) tokens

-- what a token makes with the tree before it

abbrev pub infix_extended : Readers → ℕ → Place → Tree → Infix → Reads Tree
infix_extended self level place tree operator tokens =
    self.read (right_level (infix_level operator)) tokens >>= λ right. self.climb level place (Binary place operator tree right.0) right.1

abbrev pub operator_extended : Bool → Readers → ℕ → Place → Tree → Operator → Reads Tree
operator_extended true self level place tree operator tokens = self.climb level place (Field place tree (name_here tokens)) (behind tokens)
operator_extended false self level place tree operator tokens = infix_extended self level place tree (Plain operator) tokens

abbrev pub bracket_extended : Readers → ℕ → Place → Tree → Tree × List Token → Option SectionKind → Option (Tree × List Token)
bracket_extended self level place tree first None =
    self.more ByComma first.1 >>= λ others. self.climb level place (Subscript place tree (More first.0 others.0)) (behind others.1)
bracket_extended self level place tree first (Some kind) =
    self.read 1 (behind first.1) >>= λ second. self.climb level place (Section place kind tree first.0 second.0) (behind second.1)

abbrev pub mark_extended : Readers → ℕ → Place → Tree → Punctuation → Reads Tree
mark_extended self level place tree OpenParenthesis tokens =
    list_read self ByComma tokens >>= λ arguments. self.climb level place (Call place tree arguments.0) (behind arguments.1)
mark_extended self level place tree OpenBrace tokens =
    list_read self ByComma tokens >>= λ arguments. self.climb level place (CoCall place tree arguments.0) (behind arguments.1)
mark_extended self level place tree OpenBracket tokens =
    self.read 0 tokens >>= λ first. bracket_extended self level place tree first (section_kind (next first.1))
mark_extended self level place tree _ tokens = None

abbrev pub extended : Readers → ℕ → Place → Tree → Kind → Reads Tree
extended self level place tree (OperatorKind operator) tokens = operator_extended (is_dot operator) self level place tree operator tokens
extended self level place tree (AugmentedKind operator) tokens = infix_extended self level place tree (Augmented operator) tokens
extended self level place tree (WordKind word) tokens =
    self.read 5 tokens >>= λ to. maybe_read (is_by (next to.1)) (self.read 5) to.1 >>= λ by. self.climb level place (To place tree to.0 by.0) by.1
extended self level place tree (PunctuationKind mark) tokens = mark_extended self level place tree mark tokens
extended self level place tree _ tokens = None

abbrev pub climb_by : Bool → Readers → ℕ → Place → Tree → Token → Reads Tree
climb_by true self level place tree token tokens = extended self level place tree token.kind tokens
climb_by false self level place tree token tokens = Some (tree, token ∷ tokens)

-- a tree and all that goes on with it at this level
abbrev pub climb_step : Readers → ℕ → Place → Tree → Reads Tree
climb_step self level place tree [] = Some (tree, [])
climb_step self level place tree (token ∷ tokens) = climb_by (nat_le level (kind_goes_on token.kind)) self level place tree token tokens

abbrev pub more_by : Bool → Readers → Separator → Reads Trees
more_by true self by tokens = list_read self by (behind tokens)
more_by false self by tokens = Some (NoTrees, tokens)

abbrev pub more_clauses_by : Bool → Readers → Reads Clauses
more_clauses_by true self tokens = clauses_read self (behind tokens)
more_clauses_by false self tokens = Some (NoClauses, tokens)

-- Declarations

abbrev pub is_comma : Kind → Bool
is_comma (PunctuationKind Comma) = true
is_comma _ = false

abbrev pub name_of : Token → Name
name_of token = record { text = text_of (Some token.kind); place = record { line = token.line; file = token.file } }

abbrev pub item_by : Kind → Place → DeclItem
item_by (TextKind text) place = Items.Text (record { text = text; place = place })
item_by kind place = Items.Identifier (record { text = text_of (Some kind); place = place })

abbrev pub item_of : Token → DeclItem
item_of token = item_by token.kind (record { line = token.line; file = token.file })

abbrev pub further_by : {A : Type 0} → Bool → A → List Token → List A × List Token → List A × List Token
further_by true x tokens others = (x ∷ others.0, others.1)
further_by false x tokens others = ([], tokens)

-- what stands behind commas, one token each
abbrev pub further : {A : Type 0} → (Token → A) → List Token → List A × List Token
further of [] = ([], [])
further of (token ∷ []) = ([], token ∷ [])
further of (token ∷ x ∷ rest) = further_by (is_comma token.kind) (of x) (token ∷ x ∷ rest) (further of rest)

abbrev pub some_read : {A : Type 0} → (Token → A) → List Token → List A × List Token
some_read of [] = ([], [])
some_read of (token ∷ tokens) = (of token ∷ (further of tokens).0, (further of tokens).1)

abbrev pub local_kind : Option Kind → Option LocalKind
local_kind (Some (WordKind Words.Local)) = Some Local
local_kind (Some (WordKind Words.Static)) = Some Static
local_kind _ = None

abbrev pub is_initial : Option Kind → Bool
is_initial (Some (WordKind Words.Initial)) = true
is_initial _ = false

abbrev pub is_end : Option Kind → Bool
is_end (Some (WordKind Words.End)) = true
is_end _ = false

abbrev pub is_close : Option Kind → Bool
is_close (Some (PunctuationKind CloseParenthesis)) = true
is_close _ = false

abbrev pub is_open_bracket : Option Kind → Bool
is_open_bracket (Some (PunctuationKind OpenBracket)) = true
is_open_bracket _ = false

abbrev pub locals_by : Option LocalKind → Readers → Reads (List LocalDecl)
locals_by None self tokens = Some ([], tokens)
locals_by (Some kind) self tokens = self.locals (behind (some_read name_of (behind tokens)).1)
    >>= λ others. Some (record { place = place_of tokens; kind = kind; names = (some_read name_of (behind tokens)).0 } ∷ others.0, others.1)

abbrev pub body_by : Bool → Readers → Reads Trees
body_by true self tokens = Some (NoTrees, tokens)
body_by false self tokens = self.read 0 tokens >>= λ first. self.body (behind first.1) >>= λ others. Some (More first.0 others.0, others.1)

abbrev pub initial_by : Bool → Readers → Reads Initial
initial_by true self tokens = self.read 1 (behind tokens) >>= λ value. Some (Initially (place_of tokens) value.0, behind value.1)
initial_by false self tokens = Some (NoInitial, tokens)

abbrev pub maybe_names : Bool → List Token → List Name × List Token
maybe_names true tokens = ([], tokens)
maybe_names false tokens = some_read name_of tokens

abbrev pub names_read : List Token → List Name × List Token
names_read tokens = maybe_names (is_close (next tokens)) tokens

abbrev pub variadic_by : Bool → List Name × List Token → List Name × Bool × List Token
variadic_by true names = (names.0, true, behind (behind names.1))
variadic_by false names = (names.0, false, names.1)

abbrev pub parameters_read : List Token → List Name × Bool × List Token
parameters_read tokens = variadic_by (is_open_bracket (next (names_read tokens).1)) (names_read tokens)

abbrev pub procedure_by : Readers → Place → Name → List Name × Bool × List Token → Option (Declaration × List Token)
procedure_by self place name parameters = self.locals (behind (behind parameters.2))
    >>= λ locals. initial_by (is_initial (next locals.1)) self locals.1 >>= λ initial. self.body initial.1 >>= λ body.
    Some (
      ProcedureOf
          (record { place = place; name = name; parameters = parameters.0; is_variadic = parameters.1; locals = locals.0; initial = initial.0; body = body.0 }),
      behind body.1,
    )

abbrev pub declaration_by : Option Kind → Readers → Place → Reads Declaration
declaration_by (Some (WordKind Words.Global)) self place tokens = Some (Global place (some_read name_of tokens).0, (some_read name_of tokens).1)
declaration_by (Some (WordKind Words.Link)) self place tokens = Some (Link place (some_read item_of tokens).0, (some_read item_of tokens).1)
declaration_by (Some (WordKind Words.Invocable)) self place tokens = Some (Invocable place (some_read item_of tokens).0, (some_read item_of tokens).1)
declaration_by (Some (WordKind Words.Record)) self place tokens =
    Some (Record place (name_here tokens) (names_read (behind (behind tokens))).0, behind (names_read (behind (behind tokens))).1)
declaration_by (Some (WordKind Words.Procedure)) self place tokens = procedure_by self place (name_here tokens) (parameters_read (behind (behind tokens)))
declaration_by _ self place tokens = None

abbrev pub declaration_read : Readers → Reads Declaration
declaration_read self tokens = declaration_by (next tokens) self (place_of tokens) (behind tokens)

abbrev pub step : Readers → Readers
step self = record {
  read = read_step self;
  climb = climb_step self;
  more = λ by tokens. more_by (is_separator by (next tokens)) self by tokens;
  more_clauses = λ tokens. more_clauses_by (is_separator BySemicolon (next tokens)) self tokens;
  locals = λ tokens. locals_by (local_kind (next tokens)) self tokens;
  body = λ tokens. body_by (is_end (next tokens)) self tokens;
}

-- the readers that take so many steps
unfoldable pub readers : ℕ → Readers
readers zero = record {
  read = λ level tokens. None;
  climb = λ level place tree tokens. None;
  more = λ by tokens. None;
  more_clauses = λ tokens. None;
  locals = λ tokens. None;
  body = λ tokens. None;
}
readers (suc n) = step (readers n)
