-- How a tree is read from the left, a step at a time, with what is open on a stack. This is no definition of the language:
-- it says what the code does, and the grammar says what it must find.
use Rattle.std.specs.Prelude.{ℕ, zero, suc, Bool, true, false, ◌&&◌, nat_le, List, [], ◌∷◌, Option, Some, None, is_some, if◌then◌else◌, codes}
use Rattle.icn_tree.specs.declared.token.Kind.{Kind}
use Rattle.icn_tree.specs.declared.token.Kind.TheVariants.{Identifier as IdentifierKind, Integer as IntegerKind, Text as TextKind, Cset as CsetKind, Word as WordKind, Operator as OperatorKind, Augmented as AugmentedKind, Punctuation as PunctuationKind}
use Rattle.icn_tree.specs.declared.token.Token.{Token}
use Rattle.icn_tree.specs.declared.token.Word.{Word}
use Rattle.icn_tree.specs.declared.token.Word.TheVariants as Words
use Rattle.icn_tree.specs.declared.token.Operator.{Operator}
use Rattle.icn_tree.specs.declared.token.Operator.TheVariants.{Dot}
use Rattle.icn_tree.specs.declared.token.Punctuation.{Punctuation}
use Rattle.icn_tree.specs.declared.token.Punctuation.TheVariants.{OpenParenthesis, CloseParenthesis, OpenBracket, CloseBracket, OpenBrace, CloseBrace, Comma, Semicolon, Colon, PlusColon, MinusColon}
use Rattle.icn_tree.specs.declared.tree.Place.{Place}
use Rattle.icn_tree.specs.declared.tree.Name.{Name}
use Rattle.icn_tree.specs.declared.tree.Literal.TheVariants.{Integer, Text, Cset}
use Rattle.icn_tree.specs.declared.tree.Infix.{Infix}
use Rattle.icn_tree.specs.declared.tree.Infix.TheVariants.{Plain, Augmented}
use Rattle.icn_tree.specs.declared.tree.SectionKind.{SectionKind}
use Rattle.icn_tree.specs.declared.tree.SectionKind.TheVariants.{Between, Forward, Backward}
use Rattle.icn_tree.specs.declared.tree.LoopKind.{LoopKind}
use Rattle.icn_tree.specs.declared.tree.LoopKind.TheVariants as Loops
use Rattle.icn_tree.specs.Trees.{Tree, Trees, Clause, Clauses, Empty, Constant, Identifier, Keyword, Parentheses, Listing, Compound, Call, CoCall, Subscript, Section, Field, Prefix, Not, Binary, To, If, Case, Loop, Repeat, Create, Next, Fail, Break, Return, Suspend, Absent, Present, NoTrees, More, Default, Guarded, NoClauses, MoreClauses}
use Rattle.icn_tree.specs.Levels.{infix_level, right_level, prefix_of, kind_begins, begins, kind_goes_on, is_else, is_do, is_by}
use Rattle.icn_tree.specs.Phrases.{next, place_of}
use Rattle.icn_tree.specs.Grammar.{before, Separator, ByComma, BySemicolon}
use Rattle.icn_expr.specs.Capped.{with_last, with_last_clause}

-- what a list in brackets is read for
pub data Bracket : Type 0 where
  Round : Bracket
  Square : Bracket
  Curly : Bracket
  Arguments : Tree → Bracket
  CoArguments : Tree → Bracket
  Subscripts : Tree → Bracket

-- what was read of a form, up to the part that is being read
pub data PartialForm : Type 0 where
  Elements : Bracket → Trees → PartialForm
  SectionEnd : SectionKind → Tree → Tree → PartialForm
  PrefixOperand : Operator → PartialForm
  NotOperand : PartialForm
  RightOperand : Infix → Tree → PartialForm
  ToOperand : Tree → PartialForm
  ByOperand : Tree → Tree → PartialForm
  Condition : PartialForm
  Consequence : Tree → PartialForm
  Alternative : Tree → Tree → PartialForm
  CaseSubject : PartialForm
  ClauseGuard : Tree → Clauses → Place → PartialForm
  GuardedValue : Tree → Clauses → Place → Tree → PartialForm
  DefaultValue : Tree → Clauses → Place → PartialForm
  Control : LoopKind → PartialForm
  LoopBody : LoopKind → Tree → PartialForm
  RepeatBody : PartialForm
  CreateBody : PartialForm
  BreakValue : PartialForm
  ReturnValue : PartialForm
  SuspendValue : PartialForm
  SuspendBody : Tree → PartialForm

-- an open form: the level of the expression that it belongs to, and where that expression began
pub record OpenForm : Type 0 where
  pub level : ℕ
  pub place : Place
  pub holds : PartialForm

pub data ReadingState : Type 0 where
  -- an expression of this level, or of level 0 an empty one, begins here
  Starting : ℕ → List OpenForm → List Token → ReadingState
  -- a tree was read, which may go on at this level
  Climbing : ℕ → Place → Tree → List OpenForm → List Token → ReadingState
  -- a part is complete, and it is empty or not
  Closing : Tree → Bool → List OpenForm → List Token → ReadingState
  Finished : Tree → List Token → ReadingState
  Broken : ReadingState

abbrev pub behind : List Token → List Token
behind [] = []
behind (token ∷ tokens) = tokens

-- What stands next

abbrev pub is_mark_comma : Punctuation → Bool
is_mark_comma Comma = true
is_mark_comma _ = false

abbrev pub is_separator : Separator → Option Kind → Bool
is_separator ByComma (Some (PunctuationKind Comma)) = true
is_separator BySemicolon (Some (PunctuationKind Semicolon)) = true
is_separator _ _ = false

abbrev pub is_close_parenthesis : Option Kind → Bool
is_close_parenthesis (Some (PunctuationKind CloseParenthesis)) = true
is_close_parenthesis _ = false

abbrev pub is_close_bracket : Option Kind → Bool
is_close_bracket (Some (PunctuationKind CloseBracket)) = true
is_close_bracket _ = false

abbrev pub is_close_brace : Option Kind → Bool
is_close_brace (Some (PunctuationKind CloseBrace)) = true
is_close_brace _ = false

abbrev pub is_open_brace : Option Kind → Bool
is_open_brace (Some (PunctuationKind OpenBrace)) = true
is_open_brace _ = false

abbrev pub is_colon : Option Kind → Bool
is_colon (Some (PunctuationKind Colon)) = true
is_colon _ = false

abbrev pub is_then : Option Kind → Bool
is_then (Some (WordKind Words.Then)) = true
is_then _ = false

abbrev pub is_of : Option Kind → Bool
is_of (Some (WordKind Words.Of)) = true
is_of _ = false

abbrev pub is_default : Option Kind → Bool
is_default (Some (WordKind Words.Default)) = true
is_default _ = false

abbrev pub is_dot : Operator → Bool
is_dot Dot = true
is_dot _ = false

abbrev pub section_kind : Option Kind → Option SectionKind
section_kind (Some (PunctuationKind Colon)) = Some Between
section_kind (Some (PunctuationKind PlusColon)) = Some Forward
section_kind (Some (PunctuationKind MinusColon)) = Some Backward
section_kind _ = None

-- A keyword's or a field's name

abbrev pub name_by : Option (List ℕ) → List Token → Option Name
name_by (Some text) tokens = Some (record { text = text; place = place_of tokens })
name_by None tokens = None

abbrev pub identifier_text : Option Kind → Option (List ℕ)
identifier_text (Some (IdentifierKind text)) = Some text
identifier_text _ = None

abbrev pub keyword_text : Option Kind → Option (List ℕ)
keyword_text (Some (IdentifierKind text)) = Some text
keyword_text (Some (WordKind Words.Fail)) = Some (codes "fail")
keyword_text _ = None

abbrev pub unless_broken : {A : Type 0} → Option A → (A → ReadingState) → ReadingState
unless_broken None f = Broken
unless_broken (Some x) f = f x

abbrev pub provided : Bool → ReadingState → ReadingState
provided true state = state
provided false state = Broken

-- Starting

-- the level at which a tree goes on, where it began as a part of this level
abbrev pub climbing_level : ℕ → ℕ
climbing_level zero = 1
climbing_level (suc level) = suc level

abbrev pub frame : ℕ → Place → PartialForm → OpenForm
frame level place holds = record { level = level; place = place; holds = holds }

abbrev pub word_step : ℕ → Place → Word → List OpenForm → List Token → ReadingState
word_step level place Words.Not frames tokens = Starting 12 (frame level place NotOperand ∷ frames) tokens
word_step level place Words.If frames tokens = Starting 1 (frame level place Condition ∷ frames) tokens
word_step level place Words.Case frames tokens = Starting 1 (frame level place CaseSubject ∷ frames) tokens
word_step level place Words.While frames tokens = Starting 1 (frame level place (Control Loops.While) ∷ frames) tokens
word_step level place Words.Until frames tokens = Starting 1 (frame level place (Control Loops.Until) ∷ frames) tokens
word_step level place Words.Every frames tokens = Starting 1 (frame level place (Control Loops.Every) ∷ frames) tokens
word_step level place Words.Repeat frames tokens = Starting 1 (frame level place RepeatBody ∷ frames) tokens
word_step level place Words.Create frames tokens = Starting 1 (frame level place CreateBody ∷ frames) tokens
word_step level place Words.Next frames tokens = Climbing level place (Next place) frames tokens
word_step level place Words.Fail frames tokens = Climbing level place (Fail place) frames tokens
word_step level place Words.Break frames tokens = Starting 0 (frame level place BreakValue ∷ frames) tokens
word_step level place Words.Return frames tokens = Starting 0 (frame level place ReturnValue ∷ frames) tokens
word_step level place Words.Suspend frames tokens = Starting 0 (frame level place SuspendValue ∷ frames) tokens
word_step level place _ frames tokens = Broken

abbrev pub operator_step : ℕ → Place → Option (Operator × Option Operator) → List OpenForm → List Token → ReadingState
operator_step level place None frames tokens =
    unless_broken (name_by (keyword_text (next tokens)) tokens) (λ name. Climbing level place (Keyword place name) frames (behind tokens))
operator_step level place (Some found) frames tokens = Starting 12 (frame level place (PrefixOperand found.0) ∷ frames) (before place found.1 tokens)

abbrev pub mark_step : ℕ → Place → Punctuation → List OpenForm → List Token → ReadingState
mark_step level place OpenParenthesis frames tokens = Starting 0 (frame level place (Elements Round NoTrees) ∷ frames) tokens
mark_step level place OpenBracket frames tokens = Starting 0 (frame level place (Elements Square NoTrees) ∷ frames) tokens
mark_step level place OpenBrace frames tokens = Starting 0 (frame level place (Elements Curly NoTrees) ∷ frames) tokens
mark_step level place _ frames tokens = Broken

abbrev pub operand_step : ℕ → Place → Kind → List OpenForm → List Token → ReadingState
operand_step level place (IdentifierKind text) frames tokens = Climbing level place (Identifier (record { text = text; place = place })) frames tokens
operand_step level place (IntegerKind n) frames tokens = Climbing level place (Constant place (Integer n)) frames tokens
operand_step level place (TextKind text) frames tokens = Climbing level place (Constant place (Text text)) frames tokens
operand_step level place (CsetKind set) frames tokens = Climbing level place (Constant place (Cset set)) frames tokens
operand_step level place (WordKind word) frames tokens = word_step level place word frames tokens
operand_step level place (OperatorKind operator) frames tokens = operator_step level place (prefix_of operator) frames tokens
operand_step level place (AugmentedKind operator) frames tokens = Broken
operand_step level place (PunctuationKind mark) frames tokens = mark_step level place mark frames tokens

abbrev pub empty_step : ℕ → List OpenForm → List Token → ReadingState
empty_step zero frames tokens = Closing Empty false frames tokens
empty_step (suc level) frames tokens = Broken

abbrev pub start_by : Bool → ℕ → Token → List OpenForm → List Token → ReadingState
start_by true level token frames tokens = operand_step (climbing_level level) (record { line = token.line; file = token.file }) token.kind frames tokens
start_by false level token frames tokens = empty_step level frames (token ∷ tokens)

abbrev pub start_step : ℕ → List OpenForm → List Token → ReadingState
start_step level frames [] = empty_step level frames []
start_step level frames (token ∷ tokens) = start_by (kind_begins token.kind) level token frames tokens

-- Climbing

abbrev pub infix_step : ℕ → Place → Tree → Infix → List OpenForm → List Token → ReadingState
infix_step level place tree operator frames tokens =
    Starting (right_level (infix_level operator)) (frame level place (RightOperand operator tree) ∷ frames) tokens

abbrev pub plain_step : Bool → ℕ → Place → Tree → Operator → List OpenForm → List Token → ReadingState
plain_step true level place tree operator frames tokens =
    unless_broken (name_by (identifier_text (next tokens)) tokens) (λ name. Climbing level place (Field place tree name) frames (behind tokens))
plain_step false level place tree operator frames tokens = infix_step level place tree (Plain operator) frames tokens

abbrev pub suffix_step : ℕ → Place → Tree → Punctuation → List OpenForm → List Token → ReadingState
suffix_step level place tree OpenParenthesis frames tokens = Starting 0 (frame level place (Elements (Arguments tree) NoTrees) ∷ frames) tokens
suffix_step level place tree OpenBracket frames tokens = Starting 0 (frame level place (Elements (Subscripts tree) NoTrees) ∷ frames) tokens
suffix_step level place tree OpenBrace frames tokens = Starting 0 (frame level place (Elements (CoArguments tree) NoTrees) ∷ frames) tokens
suffix_step level place tree _ frames tokens = Broken

abbrev pub extend_step : ℕ → Place → Tree → Kind → List OpenForm → List Token → ReadingState
extend_step level place tree (OperatorKind operator) frames tokens = plain_step (is_dot operator) level place tree operator frames tokens
extend_step level place tree (AugmentedKind operator) frames tokens = infix_step level place tree (Augmented operator) frames tokens
extend_step level place tree (WordKind word) frames tokens = Starting 5 (frame level place (ToOperand tree) ∷ frames) tokens
extend_step level place tree (PunctuationKind mark) frames tokens = suffix_step level place tree mark frames tokens
extend_step level place tree _ frames tokens = Broken

abbrev pub climb_by : Bool → ℕ → Place → Tree → Token → List OpenForm → List Token → ReadingState
climb_by true level place tree token frames tokens = extend_step level place tree token.kind frames tokens
climb_by false level place tree token frames tokens = Closing tree true frames (token ∷ tokens)

abbrev pub climb_step : ℕ → Place → Tree → List OpenForm → List Token → ReadingState
climb_step level place tree frames [] = Closing tree true frames []
climb_step level place tree frames (token ∷ tokens) = climb_by (nat_le level (kind_goes_on token.kind)) level place tree token frames tokens

-- Closing

abbrev pub separator_of : Bracket → Separator
separator_of Curly = BySemicolon
separator_of _ = ByComma

abbrev pub is_closer : Bracket → Option Kind → Bool
is_closer Round kind = is_close_parenthesis kind
is_closer Square kind = is_close_bracket kind
is_closer Curly kind = is_close_brace kind
is_closer (Arguments tree) kind = is_close_parenthesis kind
is_closer (CoArguments tree) kind = is_close_brace kind
is_closer (Subscripts tree) kind = is_close_bracket kind

abbrev pub bracketed : Bracket → Place → Trees → Tree
bracketed Round place trees = Parentheses place trees
bracketed Square place trees = Listing place trees
bracketed Curly place trees = Compound place trees
bracketed (Arguments tree) place trees = Call place tree trees
bracketed (CoArguments tree) place trees = CoCall place tree trees
bracketed (Subscripts tree) place trees = Subscript place tree trees

-- the subject of a section, where this element may be its first position
abbrev pub section_subject : Bracket → Trees → Bool → Option Tree
section_subject (Subscripts subject) NoTrees true = Some subject
section_subject _ _ _ = None

abbrev pub section_by : Option Tree → Option SectionKind → ℕ → Place → Tree → List OpenForm → List Token → ReadingState
section_by (Some subject) (Some kind) level place from frames tokens = Starting 1 (frame level place (SectionEnd kind subject from) ∷ frames) tokens
section_by _ _ level place from frames tokens = Broken

abbrev pub element_by : Bool → Bool → Bracket → Trees → ℕ → Place → Tree → Bool → List OpenForm → List Token → ReadingState
element_by true closer bracket trees level place tree present frames tokens =
    Starting 0 (frame level place (Elements bracket (with_last trees tree)) ∷ frames) (behind tokens)
element_by false true bracket trees level place tree present frames tokens =
    Climbing level place (bracketed bracket place (with_last trees tree)) frames (behind tokens)
element_by false false bracket trees level place tree present frames tokens =
    section_by (section_subject bracket trees present) (section_kind (next tokens)) level place tree frames (behind tokens)

-- a clause begins here
abbrev pub clause_by : Bool → ℕ → Place → Tree → Clauses → List OpenForm → List Token → ReadingState
clause_by true level place subject clauses frames tokens = provided (is_colon (next (behind tokens)))
    (Starting 1 (frame level place (DefaultValue subject clauses (place_of tokens)) ∷ frames) (behind (behind tokens)))
clause_by false level place subject clauses frames tokens = Starting 1 (frame level place (ClauseGuard subject clauses (place_of tokens)) ∷ frames) tokens

abbrev pub clause_step : ℕ → Place → Tree → Clauses → List OpenForm → List Token → ReadingState
clause_step level place subject clauses frames tokens = clause_by (is_default (next tokens)) level place subject clauses frames tokens

-- a clause is complete
abbrev pub clause_end : Bool → ℕ → Place → Tree → Clauses → List OpenForm → List Token → ReadingState
clause_end true level place subject clauses frames tokens = clause_step level place subject clauses frames (behind tokens)
clause_end false level place subject clauses frames tokens =
    provided (is_close_brace (next tokens)) (Climbing level place (Case place subject clauses) frames (behind tokens))

-- where this token stands next a further part follows, else the form is complete
abbrev pub part_or : Bool → OpenForm → Tree → List OpenForm → List Token → ReadingState
part_or true more tree frames tokens = Starting 1 (more ∷ frames) (behind tokens)
part_or false more tree frames tokens = Climbing more.level more.place tree frames tokens

abbrev pub by_or : Bool → OpenForm → Tree → List OpenForm → List Token → ReadingState
by_or true more tree frames tokens = Starting 5 (more ∷ frames) (behind tokens)
by_or false more tree frames tokens = Climbing more.level more.place tree frames tokens

abbrev pub close_by : PartialForm → ℕ → Place → Tree → Bool → List OpenForm → List Token → ReadingState
close_by (Elements bracket trees) level place tree present frames tokens =
    element_by (is_separator (separator_of bracket) (next tokens)) (is_closer bracket (next tokens)) bracket trees level place tree present frames tokens
close_by (SectionEnd kind subject from) level place tree present frames tokens =
    provided (is_close_bracket (next tokens)) (Climbing level place (Section place kind subject from tree) frames (behind tokens))
close_by (PrefixOperand operator) level place tree present frames tokens = Climbing level place (Prefix place operator tree) frames tokens
close_by NotOperand level place tree present frames tokens = Climbing level place (Not place tree) frames tokens
close_by (RightOperand operator left) level place tree present frames tokens = Climbing level place (Binary place operator left tree) frames tokens
close_by (ToOperand from) level place tree present frames tokens =
    by_or (is_by (next tokens)) (frame level place (ByOperand from tree)) (To place from tree Absent) frames tokens
close_by (ByOperand from to) level place tree present frames tokens = Climbing level place (To place from to (Present tree)) frames tokens
close_by Condition level place tree present frames tokens =
    provided (is_then (next tokens)) (Starting 1 (frame level place (Consequence tree) ∷ frames) (behind tokens))
close_by (Consequence condition) level place tree present frames tokens =
    part_or (is_else (next tokens)) (frame level place (Alternative condition tree)) (If place condition tree Absent) frames tokens
close_by (Alternative condition first) level place tree present frames tokens = Climbing level place (If place condition first (Present tree)) frames tokens
close_by CaseSubject level place tree present frames tokens =
    provided (is_of (next tokens) && is_open_brace (next (behind tokens))) (clause_step level place tree NoClauses frames (behind (behind tokens)))
close_by (ClauseGuard subject clauses at) level place tree present frames tokens =
    provided (is_colon (next tokens)) (Starting 1 (frame level place (GuardedValue subject clauses at tree) ∷ frames) (behind tokens))
close_by (GuardedValue subject clauses at guard) level place tree present frames tokens =
    clause_end (is_separator BySemicolon (next tokens)) level place subject (with_last_clause clauses (Guarded at guard tree)) frames tokens
close_by (DefaultValue subject clauses at) level place tree present frames tokens =
    clause_end (is_separator BySemicolon (next tokens)) level place subject (with_last_clause clauses (Default at tree)) frames tokens
close_by (Control kind) level place tree present frames tokens =
    part_or (is_do (next tokens)) (frame level place (LoopBody kind tree)) (Loop place kind tree Absent) frames tokens
close_by (LoopBody kind control) level place tree present frames tokens = Climbing level place (Loop place kind control (Present tree)) frames tokens
close_by RepeatBody level place tree present frames tokens = Climbing level place (Repeat place tree) frames tokens
close_by CreateBody level place tree present frames tokens = Climbing level place (Create place tree) frames tokens
close_by BreakValue level place tree present frames tokens = Climbing level place (Break place tree) frames tokens
close_by ReturnValue level place tree present frames tokens = Climbing level place (Return place tree) frames tokens
close_by SuspendValue level place tree present frames tokens =
    part_or (is_do (next tokens)) (frame level place (SuspendBody tree)) (Suspend place tree Absent) frames tokens
close_by (SuspendBody value) level place tree present frames tokens = Climbing level place (Suspend place value (Present tree)) frames tokens

abbrev pub close_step : Tree → Bool → List OpenForm → List Token → ReadingState
close_step tree present [] tokens = Finished tree tokens
close_step tree present (newest ∷ frames) tokens = close_by newest.holds newest.level newest.place tree present frames tokens

abbrev pub step : ReadingState → ReadingState
step (Starting level frames tokens) = start_step level frames tokens
step (Climbing level place tree frames tokens) = climb_step level place tree frames tokens
step (Closing tree present frames tokens) = close_step tree present frames tokens
step (Finished tree tokens) = Finished tree tokens
step Broken = Broken

-- so many steps
unfoldable pub run : ℕ → ReadingState → ReadingState
run zero state = state
run (suc n) state = run n (step state)
