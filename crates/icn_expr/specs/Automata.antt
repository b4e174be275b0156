-- How a tree is read from the left, a step at a time, with what is open on a stack. This is no definition of the language:
-- it says what the code does, and the grammar says what it must find.
use Rattle.std.specs.Prelude.{ℕ, zero, suc, Bool, true, false, ◌&&◌, nat_le, List, [], ◌∷◌, Option, Some, None, is_some, if◌then◌else◌, codes}
use Rattle.icn_tree.specs.declared.token.Kind.{Kind}
use Rattle.icn_tree.specs.declared.token.Kind.TheVariants.{Identifier as IdentifierKind, Integer as IntegerKind, Text as TextKind, Cset as CsetKind, Word as WordKind, Operator as OperatorKind, Augmented as AugmentedKind, Punctuation as PunctuationKind}
use Rattle.icn_tree.specs.declared.token.Token.{Token}
use Rattle.icn_tree.specs.declared.token.Word.{Word}
use Rattle.icn_tree.specs.declared.token.Word.TheVariants as Words
use Rattle.icn_tree.specs.declared.token.Operator.{Operator}
use Rattle.icn_tree.specs.declared.token.Operator.TheVariants.{Dot}
use Rattle.icn_tree.specs.declared.token.Punctuation.{Punctuation}
use Rattle.icn_tree.specs.declared.token.Punctuation.TheVariants.{OpenParenthesis, CloseParenthesis, OpenBracket, CloseBracket, OpenBrace, CloseBrace, Comma, Semicolon, Colon, PlusColon, MinusColon}
use Rattle.icn_tree.specs.declared.tree.Place.{Place}
use Rattle.icn_tree.specs.declared.tree.Name.{Name}
use Rattle.icn_tree.specs.declared.tree.Literal.{Literal}
use Rattle.icn_tree.specs.declared.tree.Literal.TheVariants.{Integer, Text, Cset}
use Rattle.icn_tree.specs.declared.tree.Infix.{Infix}
use Rattle.icn_tree.specs.declared.tree.Infix.TheVariants.{Plain, Augmented}
use Rattle.icn_tree.specs.declared.tree.SectionKind.{SectionKind}
use Rattle.icn_tree.specs.declared.tree.SectionKind.TheVariants.{Between, Forward, Backward}
use Rattle.icn_tree.specs.declared.tree.LoopKind.{LoopKind}
use Rattle.icn_tree.specs.declared.tree.LoopKind.TheVariants as Loops
use Rattle.icn_tree.specs.Levels.{infix_level, right_level, prefix_of, kind_begins, begins, kind_goes_on, is_else, is_do, is_by}
use Rattle.icn_tree.specs.Phrases.{next, place_of}
use Rattle.icn_tree.specs.Grammar.{before, Separator, ByComma, BySemicolon}

-- what trees are made of
pub record Builds (V L C : Type 0) : Type 0 where
  pub empty : V
  pub constant : Place → Literal → V
  pub identifier : Name → V
  pub keyword : Place → Name → V
  pub parentheses : Place → L → V
  pub listing : Place → L → V
  pub compound : Place → L → V
  pub call : Place → V → L → V
  pub co_call : Place → V → L → V
  pub subscript : Place → V → L → V
  pub section : Place → SectionKind → V → V → V → V
  pub field : Place → V → Name → V
  pub prefix : Place → Operator → V → V
  pub not_form : Place → V → V
  pub binary : Place → Infix → V → V → V
  pub to_form : Place → V → V → Option V → V
  pub if_form : Place → V → V → Option V → V
  pub case_form : Place → V → C → V
  pub loop_form : Place → LoopKind → V → Option V → V
  pub repeat_form : Place → V → V
  pub create_form : Place → V → V
  pub next_form : Place → V
  pub fail_form : Place → V
  pub break_form : Place → V → V
  pub return_form : Place → V → V
  pub suspend_form : Place → V → Option V → V
  pub no_elements : L
  pub with_element : L → V → L
  pub has_none : L → Bool
  pub no_clauses : C
  pub with_default : C → Place → V → C
  pub with_guarded : C → Place → V → V → C

-- what a list in brackets is read for
pub data Bracket (V : Type 0) : Type 0 where
  Round : Bracket V
  Square : Bracket V
  Curly : Bracket V
  Arguments : V → Bracket V
  CoArguments : V → Bracket V
  Subscripts : V → Bracket V

-- what was read of a form, up to the part that is being read
pub data PartialForm (V L C : Type 0) : Type 0 where
  Elements : Bracket V → L → PartialForm V L C
  SectionEnd : SectionKind → V → V → PartialForm V L C
  PrefixOperand : Operator → PartialForm V L C
  NotOperand : PartialForm V L C
  RightOperand : Infix → V → PartialForm V L C
  ToOperand : V → PartialForm V L C
  ByOperand : V → V → PartialForm V L C
  Condition : PartialForm V L C
  Consequence : V → PartialForm V L C
  Alternative : V → V → PartialForm V L C
  CaseSubject : PartialForm V L C
  ClauseGuard : V → C → Place → PartialForm V L C
  GuardedValue : V → C → Place → V → PartialForm V L C
  DefaultValue : V → C → Place → PartialForm V L C
  Control : LoopKind → PartialForm V L C
  LoopBody : LoopKind → V → PartialForm V L C
  RepeatBody : PartialForm V L C
  CreateBody : PartialForm V L C
  BreakValue : PartialForm V L C
  ReturnValue : PartialForm V L C
  SuspendValue : PartialForm V L C
  SuspendBody : V → PartialForm V L C

-- an open form: the level of the expression that it belongs to, and where that expression began
pub record OpenForm (V L C : Type 0) : Type 0 where
  pub level : ℕ
  pub place : Place
  pub holds : PartialForm V L C

-- where the reading stands: a part of a level begins, a tree may go on at a level, a part is complete, all is read, or it
-- can't be read
pub data ReadingState (V L C : Type 0) : Type 0 where
  -- an expression of this level, or of level 0 an empty one, begins here
  Starting : ℕ → List (OpenForm V L C) → List Token → ReadingState V L C
  -- a tree was read, which may go on at this level
  Climbing : ℕ → Place → V → List (OpenForm V L C) → List Token → ReadingState V L C
  -- a part is complete, and it is empty or not
  Closing : V → Bool → List (OpenForm V L C) → List Token → ReadingState V L C
  Finished : V → List Token → ReadingState V L C
  Broken : ReadingState V L C

-- the tokens behind the first
abbrev pub behind : List Token → List Token
behind [] = []
behind (token ∷ tokens) = tokens

-- What stands next

-- the mark is a comma
abbrev pub is_mark_comma : Punctuation → Bool
is_mark_comma Comma = true
is_mark_comma _ = false

-- the separator of such a list stands next
abbrev pub is_separator : Separator → Option Kind → Bool
is_separator ByComma (Some (PunctuationKind Comma)) = true
is_separator BySemicolon (Some (PunctuationKind Semicolon)) = true
is_separator _ _ = false

-- a closing parenthesis stands next
abbrev pub is_close_parenthesis : Option Kind → Bool
is_close_parenthesis (Some (PunctuationKind CloseParenthesis)) = true
is_close_parenthesis _ = false

-- a closing bracket stands next
abbrev pub is_close_bracket : Option Kind → Bool
is_close_bracket (Some (PunctuationKind CloseBracket)) = true
is_close_bracket _ = false

-- a closing brace stands next
abbrev pub is_close_brace : Option Kind → Bool
is_close_brace (Some (PunctuationKind CloseBrace)) = true
is_close_brace _ = false

-- an opening brace stands next
abbrev pub is_open_brace : Option Kind → Bool
is_open_brace (Some (PunctuationKind OpenBrace)) = true
is_open_brace _ = false

-- a colon stands next
abbrev pub is_colon : Option Kind → Bool
is_colon (Some (PunctuationKind Colon)) = true
is_colon _ = false

-- the word `then` stands next
abbrev pub is_then : Option Kind → Bool
is_then (Some (WordKind Words.Then)) = true
is_then _ = false

-- the word `of` stands next
abbrev pub is_of : Option Kind → Bool
is_of (Some (WordKind Words.Of)) = true
is_of _ = false

-- the word `default` stands next
abbrev pub is_default : Option Kind → Bool
is_default (Some (WordKind Words.Default)) = true
is_default _ = false

-- the operator is the dot of a field
abbrev pub is_dot : Operator → Bool
is_dot Dot = true
is_dot _ = false

-- the kind of section whose sign stands next, if one does
abbrev pub section_kind : Option Kind → Option SectionKind
section_kind (Some (PunctuationKind Colon)) = Some Between
section_kind (Some (PunctuationKind PlusColon)) = Some Forward
section_kind (Some (PunctuationKind MinusColon)) = Some Backward
section_kind _ = None

-- A keyword's or a field's name

-- the name that stands next, if one does
abbrev pub name_by : Option (List ℕ) → List Token → Option Name
name_by (Some text) tokens = Some (record { text = text; place = place_of tokens })
name_by None tokens = None

-- the text of the identifier that stands next, if one does
abbrev pub identifier_text : Option Kind → Option (List ℕ)
identifier_text (Some (IdentifierKind text)) = Some text
identifier_text _ = None

-- the keyword's name that stands next, if one does: an identifier, or `fail`
abbrev pub keyword_text : Option Kind → Option (List ℕ)
keyword_text (Some (IdentifierKind text)) = Some text
keyword_text (Some (WordKind Words.Fail)) = Some (codes "fail")
keyword_text _ = None

-- it goes on where something was found
abbrev pub unless_broken : {A V L C : Type 0} → Option A → (A → ReadingState V L C) → ReadingState V L C
unless_broken None f = Broken
unless_broken (Some x) f = f x

-- it goes on where this holds
abbrev pub state_if : {V L C : Type 0} → Bool → ReadingState V L C → ReadingState V L C
state_if true state = state
state_if false state = Broken

-- Starting

-- the level at which a tree goes on, where it began as a part of this level
abbrev pub climbing_level : ℕ → ℕ
climbing_level zero = 1
climbing_level (suc level) = suc level

-- a form that is open: the level at which it stands, its place, and what was read of it
abbrev pub frame : {V L C : Type 0} → ℕ → Place → PartialForm V L C → OpenForm V L C
frame level place holds = record { level = level; place = place; holds = holds }

-- an operand that begins with a word
abbrev pub word_step : {V L C : Type 0} → Builds V L C → ℕ → Place → Word → List (OpenForm V L C) → List Token
    → ReadingState V L C
word_step make level place Words.Not frames tokens =
    Starting 12 (frame level place NotOperand ∷ frames) tokens
word_step make level place Words.If frames tokens = Starting 1 (frame level place Condition ∷ frames) tokens
word_step make level place Words.Case frames tokens =
    Starting 1 (frame level place CaseSubject ∷ frames) tokens
word_step make level place Words.While frames tokens =
    Starting 1 (frame level place (Control Loops.While) ∷ frames) tokens
word_step make level place Words.Until frames tokens =
    Starting 1 (frame level place (Control Loops.Until) ∷ frames) tokens
word_step make level place Words.Every frames tokens =
    Starting 1 (frame level place (Control Loops.Every) ∷ frames) tokens
word_step make level place Words.Repeat frames tokens =
    Starting 1 (frame level place RepeatBody ∷ frames) tokens
word_step make level place Words.Create frames tokens =
    Starting 1 (frame level place CreateBody ∷ frames) tokens
word_step make level place Words.Next frames tokens =
    Climbing level place (make.next_form place) frames tokens
word_step make level place Words.Fail frames tokens =
    Climbing level place (make.fail_form place) frames tokens
word_step make level place Words.Break frames tokens =
    Starting 0 (frame level place BreakValue ∷ frames) tokens
word_step make level place Words.Return frames tokens =
    Starting 0 (frame level place ReturnValue ∷ frames) tokens
word_step make level place Words.Suspend frames tokens =
    Starting 0 (frame level place SuspendValue ∷ frames) tokens
word_step make level place _ frames tokens = Broken

-- an operand that begins with an operator: a keyword behind its `&`, or an operator and its operand
abbrev pub operator_step : {V L C : Type 0} → Builds V L C → ℕ → Place → Option (Operator × Option Operator)
    → List (OpenForm V L C) → List Token → ReadingState V L C
operator_step make level place None frames tokens =
    unless_broken (name_by (keyword_text (next tokens)) tokens)
    (λ name. Climbing level place (make.keyword place name) frames (behind tokens))
operator_step make level place (Some found) frames tokens =
    Starting 12 (frame level place (PrefixOperand found.0) ∷ frames) (before place found.1 tokens)

-- an operand that begins with a bracket
abbrev pub mark_step : {V L C : Type 0} → Builds V L C → ℕ → Place → Punctuation → List (OpenForm V L C)
    → List Token → ReadingState V L C
mark_step make level place OpenParenthesis frames tokens =
    Starting 0 (frame level place (Elements Round make.no_elements) ∷ frames) tokens
mark_step make level place OpenBracket frames tokens =
    Starting 0 (frame level place (Elements Square make.no_elements) ∷ frames) tokens
mark_step make level place OpenBrace frames tokens =
    Starting 0 (frame level place (Elements Curly make.no_elements) ∷ frames) tokens
mark_step make level place _ frames tokens = Broken

-- an operand, by its first token
abbrev pub operand_step : {V L C : Type 0} → Builds V L C → ℕ → Place → Kind → List (OpenForm V L C)
    → List Token
    → ReadingState V L C
operand_step make level place (IdentifierKind text) frames tokens =
    Climbing level place (make.identifier (record { text = text; place = place })) frames tokens
operand_step make level place (IntegerKind n) frames tokens =
    Climbing level place (make.constant place (Integer n)) frames tokens
operand_step make level place (TextKind text) frames tokens =
    Climbing level place (make.constant place (Text text)) frames tokens
operand_step make level place (CsetKind set) frames tokens =
    Climbing level place (make.constant place (Cset set)) frames tokens
operand_step make level place (WordKind word) frames tokens = word_step make level place word frames tokens
operand_step make level place (OperatorKind operator) frames tokens =
    operator_step make level place (prefix_of operator) frames tokens
operand_step make level place (AugmentedKind operator) frames tokens = Broken
operand_step make level place (PunctuationKind mark) frames tokens =
    mark_step make level place mark frames tokens

-- an empty part, where the level allows it
abbrev pub empty_step : {V L C : Type 0} → Builds V L C → ℕ → List (OpenForm V L C) → List Token
    → ReadingState V L C
empty_step make zero frames tokens = Closing make.empty false frames tokens
empty_step make (suc level) frames tokens = Broken

-- an operand, where the token can begin one; else an empty part
abbrev pub start_by : {V L C : Type 0} → Builds V L C → Bool → ℕ → Token → List (OpenForm V L C) → List Token
    → ReadingState V L C
start_by make true level token frames tokens = operand_step make (climbing_level level)
    (record { line = token.line; file = token.file }) token.kind frames tokens
start_by make false level token frames tokens = empty_step make level frames (token ∷ tokens)

-- where a part of this level is to begin: its first token is read, or the part is empty
abbrev pub start_step : {V L C : Type 0} → Builds V L C → ℕ → List (OpenForm V L C) → List Token
    → ReadingState V L C
start_step make level frames [] = empty_step make level frames []
start_step make level frames (token ∷ tokens) =
    start_by make (kind_begins token.kind) level token frames tokens

-- Climbing

-- an operator between operands: its right operand begins
abbrev pub infix_step : {V L C : Type 0} → Builds V L C → ℕ → Place → V → Infix → List (OpenForm V L C)
    → List Token → ReadingState V L C
infix_step make level place tree operator frames tokens = Starting (right_level (infix_level operator))
    (frame level place (RightOperand operator tree) ∷ frames) tokens

-- a dot with a field's name, or an operator between operands
abbrev pub plain_step : {V L C : Type 0} → Builds V L C → Bool → ℕ → Place → V → Operator
    → List (OpenForm V L C)
    → List Token → ReadingState V L C
plain_step make true level place tree operator frames tokens =
    unless_broken (name_by (identifier_text (next tokens)) tokens)
    (λ name. Climbing level place (make.field place tree name) frames (behind tokens))
plain_step make false level place tree operator frames tokens =
    infix_step make level place tree (Plain operator) frames tokens

-- a bracket behind a tree: a call, subscripts, or a call with co-expressions
abbrev pub suffix_step : {V L C : Type 0} → Builds V L C → ℕ → Place → V → Punctuation → List (OpenForm V L C)
    → List Token → ReadingState V L C
suffix_step make level place tree OpenParenthesis frames tokens =
    Starting 0 (frame level place (Elements (Arguments tree) make.no_elements) ∷ frames) tokens
suffix_step make level place tree OpenBracket frames tokens =
    Starting 0 (frame level place (Elements (Subscripts tree) make.no_elements) ∷ frames) tokens
suffix_step make level place tree OpenBrace frames tokens =
    Starting 0 (frame level place (Elements (CoArguments tree) make.no_elements) ∷ frames) tokens
suffix_step make level place tree _ frames tokens = Broken

-- a tree goes on with this token
abbrev pub extend_step : {V L C : Type 0} → Builds V L C → ℕ → Place → V → Kind → List (OpenForm V L C)
    → List Token → ReadingState V L C
extend_step make level place tree (OperatorKind operator) frames tokens =
    plain_step make (is_dot operator) level place tree operator frames tokens
extend_step make level place tree (AugmentedKind operator) frames tokens =
    infix_step make level place tree (Augmented operator) frames tokens
extend_step make level place tree (WordKind word) frames tokens =
    Starting 5 (frame level place (ToOperand tree) ∷ frames) tokens
extend_step make level place tree (PunctuationKind mark) frames tokens =
    suffix_step make level place tree mark frames tokens
extend_step make level place tree _ frames tokens = Broken

-- the tree goes on where the level allows it; else the part is complete
abbrev pub climb_by : {V L C : Type 0} → Builds V L C → Bool → ℕ → Place → V → Token → List (OpenForm V L C)
    → List Token → ReadingState V L C
climb_by make true level place tree token frames tokens =
    extend_step make level place tree token.kind frames tokens
climb_by make false level place tree token frames tokens = Closing tree true frames (token ∷ tokens)

-- a tree was read: the next token makes a larger one of it, or the part is complete
abbrev pub climb_step : {V L C : Type 0} → Builds V L C → ℕ → Place → V → List (OpenForm V L C) → List Token
    → ReadingState V L C
climb_step make level place tree frames [] = Closing tree true frames []
climb_step make level place tree frames (token ∷ tokens) =
    climb_by make (nat_le level (kind_goes_on token.kind)) level place tree token frames tokens

-- Closing

-- what separates the elements of a bracket
abbrev pub separator_of : {V : Type 0} → Bracket V → Separator
separator_of Curly = BySemicolon
separator_of _ = ByComma

-- the closing bracket of this opening one stands next
abbrev pub is_closer : {V : Type 0} → Bracket V → Option Kind → Bool
is_closer Round kind = is_close_parenthesis kind
is_closer Square kind = is_close_bracket kind
is_closer Curly kind = is_close_brace kind
is_closer (Arguments tree) kind = is_close_parenthesis kind
is_closer (CoArguments tree) kind = is_close_brace kind
is_closer (Subscripts tree) kind = is_close_bracket kind

-- the form of a bracket, with its elements
abbrev pub bracket_tree : {V L C : Type 0} → Builds V L C → Bracket V → Place → L → V
bracket_tree make Round place trees = make.parentheses place trees
bracket_tree make Square place trees = make.listing place trees
bracket_tree make Curly place trees = make.compound place trees
bracket_tree make (Arguments tree) place trees = make.call place tree trees
bracket_tree make (CoArguments tree) place trees = make.co_call place tree trees
bracket_tree make (Subscripts tree) place trees = make.subscript place tree trees

-- the subject of a section, where this element may be its first position
abbrev pub section_subject : {V L C : Type 0} → Builds V L C → Bracket V → Bool → Bool → Option V
section_subject make (Subscripts subject) true true = Some subject
section_subject make _ _ _ = None

-- the second position of a section begins, where its sign stands in subscripts
abbrev pub section_by : {V L C : Type 0} → Builds V L C → Option V → Option SectionKind → ℕ → Place → V
    → List (OpenForm V L C) → List Token → ReadingState V L C
section_by make (Some subject) (Some kind) level place from frames tokens =
    Starting 1 (frame level place (SectionEnd kind subject from) ∷ frames) tokens
section_by make _ _ level place from frames tokens = Broken

-- an element is complete: another one begins, the bracket closes, or it was the first position of a section
abbrev pub element_by : {V L C : Type 0} → Builds V L C → Bool → Bool → Bracket V → L → ℕ → Place → V → Bool
    → List (OpenForm V L C) → List Token → ReadingState V L C
element_by make true closer bracket trees level place tree present frames tokens =
    Starting 0 (frame level place (Elements bracket (make.with_element trees tree)) ∷ frames) (behind tokens)
element_by make false true bracket trees level place tree present frames tokens = Climbing level place
    (bracket_tree make bracket place (make.with_element trees tree)) frames (behind tokens)
element_by make false false bracket trees level place tree present frames tokens =
    section_by make (section_subject make bracket (make.has_none trees) present)
    (section_kind (next tokens)) level place tree frames (behind tokens)

-- a clause begins here
abbrev pub clause_by : {V L C : Type 0} → Builds V L C → Bool → ℕ → Place → V → C → List (OpenForm V L C)
    → List Token → ReadingState V L C
clause_by make true level place subject clauses frames tokens =
    state_if (is_colon (next (behind tokens))) (Starting 1
    (frame level place (DefaultValue subject clauses (place_of tokens)) ∷ frames) (behind (behind tokens)))
clause_by make false level place subject clauses frames tokens =
    Starting 1 (frame level place (ClauseGuard subject clauses (place_of tokens)) ∷ frames) tokens

-- a clause of a `case` begins, a guarded one or the default
abbrev pub clause_step : {V L C : Type 0} → Builds V L C → ℕ → Place → V → C → List (OpenForm V L C)
    → List Token
    → ReadingState V L C
clause_step make level place subject clauses frames tokens =
    clause_by make (is_default (next tokens)) level place subject clauses frames tokens

-- a clause is complete
abbrev pub clause_end : {V L C : Type 0} → Builds V L C → Bool → ℕ → Place → V → C → List (OpenForm V L C)
    → List Token → ReadingState V L C
clause_end make true level place subject clauses frames tokens =
    clause_step make level place subject clauses frames (behind tokens)
clause_end make false level place subject clauses frames tokens = state_if (is_close_brace (next tokens))
    (Climbing level place (make.case_form place subject clauses) frames (behind tokens))

-- where this token stands next a further part follows, else the form is complete
abbrev pub part_or : {V L C : Type 0} → Builds V L C → Bool → OpenForm V L C → V → List (OpenForm V L C)
    → List Token → ReadingState V L C
part_or make true more tree frames tokens = Starting 1 (more ∷ frames) (behind tokens)
part_or make false more tree frames tokens = Climbing more.level more.place tree frames tokens

-- where `by` stands next its operand begins; else the form is complete
abbrev pub by_or : {V L C : Type 0} → Builds V L C → Bool → OpenForm V L C → V → List (OpenForm V L C)
    → List Token
    → ReadingState V L C
by_or make true more tree frames tokens = Starting 5 (more ∷ frames) (behind tokens)
by_or make false more tree frames tokens = Climbing more.level more.place tree frames tokens

-- a part is complete, by the form that it is of
abbrev pub close_by : {V L C : Type 0} → Builds V L C → PartialForm V L C → ℕ → Place → V → Bool
    → List (OpenForm V L C) → List Token → ReadingState V L C
close_by make (Elements bracket trees) level place tree present frames tokens =
    element_by make (is_separator (separator_of bracket) (next tokens))
    (is_closer bracket (next tokens)) bracket trees level place tree present frames tokens
close_by make (SectionEnd kind subject from) level place tree present frames tokens =
    state_if (is_close_bracket (next tokens))
    (Climbing level place (make.section place kind subject from tree) frames (behind tokens))
close_by make (PrefixOperand operator) level place tree present frames tokens =
    Climbing level place (make.prefix place operator tree) frames tokens
close_by make NotOperand level place tree present frames tokens =
    Climbing level place (make.not_form place tree) frames tokens
close_by make (RightOperand operator left) level place tree present frames tokens =
    Climbing level place (make.binary place operator left tree) frames tokens
close_by make (ToOperand from) level place tree present frames tokens = by_or make (is_by (next tokens))
    (frame level place (ByOperand from tree)) (make.to_form place from tree None) frames tokens
close_by make (ByOperand from to) level place tree present frames tokens =
    Climbing level place (make.to_form place from to (Some tree)) frames tokens
close_by make Condition level place tree present frames tokens = state_if (is_then (next tokens))
    (Starting 1 (frame level place (Consequence tree) ∷ frames) (behind tokens))
close_by make (Consequence condition) level place tree present frames tokens =
    part_or make (is_else (next tokens)) (frame level place (Alternative condition tree))
    (make.if_form place condition tree None) frames tokens
close_by make (Alternative condition first) level place tree present frames tokens =
    Climbing level place (make.if_form place condition first (Some tree)) frames tokens
close_by make CaseSubject level place tree present frames tokens =
    state_if (is_of (next tokens) && is_open_brace (next (behind tokens)))
    (clause_step make level place tree make.no_clauses frames (behind (behind tokens)))
close_by make (ClauseGuard subject clauses at) level place tree present frames tokens =
    state_if (is_colon (next tokens))
    (Starting 1 (frame level place (GuardedValue subject clauses at tree) ∷ frames) (behind tokens))
close_by make (GuardedValue subject clauses at guard) level place tree present frames tokens =
    clause_end make (is_separator BySemicolon (next tokens)) level place subject
    (make.with_guarded clauses at guard tree) frames tokens
close_by make (DefaultValue subject clauses at) level place tree present frames tokens =
    clause_end make (is_separator BySemicolon (next tokens)) level place subject
    (make.with_default clauses at tree) frames tokens
close_by make (Control kind) level place tree present frames tokens = part_or make (is_do (next tokens))
    (frame level place (LoopBody kind tree)) (make.loop_form place kind tree None) frames tokens
close_by make (LoopBody kind control) level place tree present frames tokens =
    Climbing level place (make.loop_form place kind control (Some tree)) frames tokens
close_by make RepeatBody level place tree present frames tokens =
    Climbing level place (make.repeat_form place tree) frames tokens
close_by make CreateBody level place tree present frames tokens =
    Climbing level place (make.create_form place tree) frames tokens
close_by make BreakValue level place tree present frames tokens =
    Climbing level place (make.break_form place tree) frames tokens
close_by make ReturnValue level place tree present frames tokens =
    Climbing level place (make.return_form place tree) frames tokens
close_by make SuspendValue level place tree present frames tokens = part_or make (is_do (next tokens))
    (frame level place (SuspendBody tree)) (make.suspend_form place tree None) frames tokens
close_by make (SuspendBody value) level place tree present frames tokens =
    Climbing level place (make.suspend_form place value (Some tree)) frames tokens

-- a part is complete: it goes into the newest open form, or all is read
abbrev pub close_step : {V L C : Type 0} → Builds V L C → V → Bool → List (OpenForm V L C) → List Token
    → ReadingState V L C
close_step make tree present [] tokens = Finished tree tokens
close_step make tree present (newest ∷ frames) tokens =
    close_by make newest.holds newest.level newest.place tree present frames tokens

-- one step of the reading
abbrev pub step : {V L C : Type 0} → Builds V L C → ReadingState V L C → ReadingState V L C
step make (Starting level frames tokens) = start_step make level frames tokens
step make (Climbing level place tree frames tokens) = climb_step make level place tree frames tokens
step make (Closing tree present frames tokens) = close_step make tree present frames tokens
step make (Finished tree tokens) = Finished tree tokens
step make Broken = Broken

-- so many steps
unfoldable pub run : {V L C : Type 0} → Builds V L C → ℕ → ReadingState V L C → ReadingState V L C
run make zero state = state
run make (suc n) state = run make n (step make state)
