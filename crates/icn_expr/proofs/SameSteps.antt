-- An automaton over other values than trees takes the same steps.
use Rattle.std.proofs.Common.{◌≡◌, ℕ, zero, suc, ◌+◌, ◌<◌, ◌≤◌, Bool, true, false, ◌&&◌, ◌||◌, nat_le, ◌⊎◌, inl, inr, List, [], ◌∷◌, Option, Some, None, is_some, refl, sym, ap, subst, ◌∙◌, arith, le_trans, codes}
use Rattle.std.proofs.lemmas.Bool.{leb-false, leb-true, lt-leb, le-leb, and_left, and_right, and_from, or_parts, or_from, and_parts, false≢true, true≢false}
use Rattle.std.proofs.lemmas.Option.{none-some, same_Some}
use Rattle.icn_tree.specs.declared.token.Kind.{Kind}
use Rattle.icn_tree.specs.declared.token.Kind.TheVariants.{Identifier as IdentifierKind, Integer as IntegerKind, Text as TextKind, Cset as CsetKind, Word as WordKind, Operator as OperatorKind, Augmented as AugmentedKind, Punctuation as PunctuationKind}
use Rattle.icn_tree.specs.declared.token.Token.{Token}
use Rattle.icn_tree.specs.declared.token.Word.{Word}
use Rattle.icn_tree.specs.declared.token.Word.TheVariants as Words
use Rattle.icn_tree.specs.declared.token.Operator.{Operator}
use Rattle.icn_tree.specs.declared.token.Punctuation.{Punctuation}
use Rattle.icn_tree.specs.declared.token.Punctuation.TheVariants.{OpenParenthesis, CloseParenthesis, OpenBracket, CloseBracket, OpenBrace, CloseBrace, Comma, Semicolon, Colon, PlusColon, MinusColon}
use Rattle.icn_tree.specs.declared.tree.Place.{Place}
use Rattle.icn_tree.specs.declared.tree.Name.{Name}
use Rattle.icn_tree.specs.declared.tree.Literal.TheVariants.{Integer, Text, Cset}
use Rattle.icn_tree.specs.declared.tree.Infix.{Infix}
use Rattle.icn_tree.specs.declared.tree.Infix.TheVariants.{Plain, Augmented}
use Rattle.icn_tree.specs.declared.tree.SectionKind.{SectionKind}
use Rattle.icn_tree.specs.declared.tree.SectionKind.TheVariants.{Between, Forward, Backward}
use Rattle.icn_tree.specs.declared.tree.LoopKind.{LoopKind}
use Rattle.icn_tree.specs.declared.tree.LoopKind.TheVariants as Loops
use Rattle.icn_tree.specs.Trees.{Tree, Trees, Clause, Clauses, Empty, Constant, Identifier, Keyword, Parentheses, Listing, Compound, Call, CoCall, Subscript, Section, Field, Prefix, Not, Binary, To, If, Case, Loop, Repeat, Create, Next, Fail, Break, Return, Suspend, Absent, Present, NoTrees, More, Default, Guarded, NoClauses, MoreClauses}
use Rattle.icn_tree.specs.declared.token.Operator.TheVariants.{Ampersand, Dot}
use Rattle.icn_tree.specs.declared.tree.Literal.{Literal}
use Rattle.icn_tree.specs.Levels.{infix_level, infix_kind, left_level, right_level, level_of, is_present, prefix_of, kind_begins, begins, kind_goes_on, goes_on, is_else, is_do, is_by}
use Rattle.icn_tree.specs.Wants.{wants}
use Rattle.icn_tree.specs.Phrases.{Phrase, next, place_of, token_at, sign}
use Rattle.icn_tree.specs.Grammar.{identifier, keyword, Part, Spells, SpellsList, SpellsMore, SpellsClause, SpellsClauses, SpellsMoreClauses, before, IsPrefix, Separator, ByComma, BySemicolon, separator, literal_kind, section_sign, loop_word}
use Rattle.icn_expr.proofs.Automaton.{Bracket, Round, Square, Curly, Arguments, CoArguments, Subscripts, PartialForm, Elements, SectionEnd, PrefixOperand, NotOperand, RightOperand, ToOperand, ByOperand, Condition, Consequence, Alternative, CaseSubject, ClauseGuard, GuardedValue, DefaultValue, Control, LoopBody, RepeatBody, CreateBody, BreakValue, ReturnValue, SuspendValue, SuspendBody, OpenForm, ReadingState, Starting, Climbing, Closing, Finished, Broken, behind, is_separator, is_close_parenthesis, is_close_bracket, is_close_brace, is_open_brace, is_colon, is_then, is_of, is_default, is_dot, section_kind, name_by, identifier_text, keyword_text, unless_broken, provided, climbing_level, frame, word_step, operator_step, mark_step, operand_step, empty_step, start_by, start_step, infix_step, plain_step, suffix_step, extend_step, climb_by, climb_step, separator_of, is_closer, bracketed, section_subject, section_by, element_by, clause_by, clause_step, clause_end, part_or, by_or, close_by, close_step, step, run}
use Rattle.icn_expr.specs.Capped.{with_last, with_last_clause}
use Rattle.icn_expr.specs.Automata as G
use Rattle.icn_expr.specs.Automata.{Builds}

-- What an automaton over other values than trees shows of the one over trees.
pub record Shows (V L C : Type 0) (make : Builds V L C) : Type 0 where
  pub tree : Tree → V
  pub trees : Trees → L
  pub further : Clauses → C
  pub empty : tree Empty ≡ make.empty
  pub constant : (place : Place) (literal : Literal) → tree (Constant place literal) ≡ make.constant place literal
  pub identifier : (name : Name) → tree (Identifier name) ≡ make.identifier name
  pub keyword : (place : Place) (name : Name) → tree (Keyword place name) ≡ make.keyword place name
  pub parentheses : (place : Place) (elements : Trees) → tree (Parentheses place elements) ≡ make.parentheses place (trees elements)
  pub listing : (place : Place) (elements : Trees) → tree (Listing place elements) ≡ make.listing place (trees elements)
  pub compound : (place : Place) (elements : Trees) → tree (Compound place elements) ≡ make.compound place (trees elements)
  pub call : (place : Place) (operand : Tree) (elements : Trees) → tree (Call place operand elements) ≡ make.call place (tree operand) (trees elements)
  pub co_call : (place : Place) (operand : Tree) (elements : Trees) → tree (CoCall place operand elements) ≡ make.co_call place (tree operand) (trees elements)
  pub subscript : (place : Place) (operand : Tree) (elements : Trees)
      → tree (Subscript place operand elements) ≡ make.subscript place (tree operand) (trees elements)
  pub section : (place : Place) (kind : SectionKind) (subject from to : Tree)
      → tree (Section place kind subject from to) ≡ make.section place kind (tree subject) (tree from) (tree to)
  pub field : (place : Place) (subject : Tree) (name : Name) → tree (Field place subject name) ≡ make.field place (tree subject) name
  pub prefix : (place : Place) (operator : Operator) (operand : Tree) → tree (Prefix place operator operand) ≡ make.prefix place operator (tree operand)
  pub not_form : (place : Place) (operand : Tree) → tree (Not place operand) ≡ make.not_form place (tree operand)
  pub binary : (place : Place) (operator : Infix) (left right : Tree)
      → tree (Binary place operator left right) ≡ make.binary place operator (tree left) (tree right)
  pub case_form : (place : Place) (subject : Tree) (clauses : Clauses)
      → tree (Case place subject clauses) ≡ make.case_form place (tree subject) (further clauses)
  pub repeat_form : (place : Place) (body : Tree) → tree (Repeat place body) ≡ make.repeat_form place (tree body)
  pub create_form : (place : Place) (body : Tree) → tree (Create place body) ≡ make.create_form place (tree body)
  pub next_form : (place : Place) → tree (Next place) ≡ make.next_form place
  pub fail_form : (place : Place) → tree (Fail place) ≡ make.fail_form place
  pub break_form : (place : Place) (value : Tree) → tree (Break place value) ≡ make.break_form place (tree value)
  pub return_form : (place : Place) (value : Tree) → tree (Return place value) ≡ make.return_form place (tree value)
  pub to_form : (place : Place) (from to : Tree) → tree (To place from to Absent) ≡ make.to_form place (tree from) (tree to) None
  pub to_form_and : (place : Place) (from to : Tree) → (part : Tree)
      → tree (To place from to (Present part)) ≡ make.to_form place (tree from) (tree to) (Some (tree part))
  pub if_form : (place : Place) (condition first : Tree) → tree (If place condition first Absent) ≡ make.if_form place (tree condition) (tree first) None
  pub if_form_and : (place : Place) (condition first : Tree) → (part : Tree)
      → tree (If place condition first (Present part)) ≡ make.if_form place (tree condition) (tree first) (Some (tree part))
  pub loop_form : (place : Place) (kind : LoopKind) (control : Tree) → tree (Loop place kind control Absent) ≡ make.loop_form place kind (tree control) None
  pub loop_form_and : (place : Place) (kind : LoopKind) (control : Tree) → (part : Tree)
      → tree (Loop place kind control (Present part)) ≡ make.loop_form place kind (tree control) (Some (tree part))
  pub suspend_form : (place : Place) (value : Tree) → tree (Suspend place value Absent) ≡ make.suspend_form place (tree value) None
  pub suspend_form_and : (place : Place) (value : Tree) → (part : Tree)
      → tree (Suspend place value (Present part)) ≡ make.suspend_form place (tree value) (Some (tree part))
  pub no_elements : trees NoTrees ≡ make.no_elements
  pub with_element : (elements : Trees) (last : Tree) → trees (with_last elements last) ≡ make.with_element (trees elements) (tree last)
  pub has_none : make.has_none (trees NoTrees) ≡ true
  pub has_some : (first : Tree) (others : Trees) → make.has_none (trees (More first others)) ≡ false
  pub no_clauses : further NoClauses ≡ make.no_clauses
  pub with_default : (clauses : Clauses) (place : Place) (value : Tree)
      → further (with_last_clause clauses (Default place value)) ≡ make.with_default (further clauses) place (tree value)
  pub with_guarded : (clauses : Clauses) (place : Place) (guard value : Tree)
      → further (with_last_clause clauses (Guarded place guard value)) ≡ make.with_guarded (further clauses) place (tree guard) (tree value)

module _ (V L C : Type 0) (make : G.Builds V L C) (show : Shows V L C make) where
  abbrev bracket : Bracket → G.Bracket V
  bracket Round = G.Round
  bracket Square = G.Square
  bracket Curly = G.Curly
  bracket (Arguments callee) = G.Arguments (show.tree callee)
  bracket (CoArguments callee) = G.CoArguments (show.tree callee)
  bracket (Subscripts subject) = G.Subscripts (show.tree subject)

  abbrev holding : PartialForm → G.PartialForm V L C
  holding (Elements b done) = G.Elements (bracket b) (show.trees done)
  holding (SectionEnd kind subject from) = G.SectionEnd kind (show.tree subject) (show.tree from)
  holding (PrefixOperand operator) = G.PrefixOperand operator
  holding NotOperand = G.NotOperand
  holding (RightOperand operator left) = G.RightOperand operator (show.tree left)
  holding (ToOperand from) = G.ToOperand (show.tree from)
  holding (ByOperand from to) = G.ByOperand (show.tree from) (show.tree to)
  holding Condition = G.Condition
  holding (Consequence condition) = G.Consequence (show.tree condition)
  holding (Alternative condition first) = G.Alternative (show.tree condition) (show.tree first)
  holding CaseSubject = G.CaseSubject
  holding (ClauseGuard subject done at) = G.ClauseGuard (show.tree subject) (show.further done) at
  holding (GuardedValue subject done at guard) = G.GuardedValue (show.tree subject) (show.further done) at (show.tree guard)
  holding (DefaultValue subject done at) = G.DefaultValue (show.tree subject) (show.further done) at
  holding (Control kind) = G.Control kind
  holding (LoopBody kind control) = G.LoopBody kind (show.tree control)
  holding RepeatBody = G.RepeatBody
  holding CreateBody = G.CreateBody
  holding BreakValue = G.BreakValue
  holding ReturnValue = G.ReturnValue
  holding SuspendValue = G.SuspendValue
  holding (SuspendBody value) = G.SuspendBody (show.tree value)

  abbrev frames_ : List OpenForm → List (G.OpenForm V L C)
  frames_ [] = []
  frames_ (newest ∷ frames) = record { level = newest.level; place = newest.place; holds = holding newest.holds } ∷ frames_ frames

  abbrev pub shown : ReadingState → G.ReadingState V L C
  shown (Starting level frames tokens) = G.Starting level (frames_ frames) tokens
  shown (Climbing level place tree frames tokens) = G.Climbing level place (show.tree tree) (frames_ frames) tokens
  shown (Closing tree present frames tokens) = G.Closing (show.tree tree) present (frames_ frames) tokens
  shown (Finished tree tokens) = G.Finished (show.tree tree) tokens
  shown Broken = G.Broken

  climbing : (level : ℕ) (place : Place) (frames : List OpenForm) (tokens : List Token) (a b : V) → a ≡ b
      → G.Climbing level place a (frames_ frames) tokens ≡ G.Climbing level place b (frames_ frames) tokens
  climbing level place frames tokens a b e = ap (λ v. G.Climbing level place v (frames_ frames) tokens) e

  word_shown : (word : Word) (level : ℕ) (place : Place) (frames : List OpenForm) (tokens : List Token)
      → shown (word_step level place word frames tokens) ≡ G.word_step make level place word (frames_ frames) tokens
  word_shown Words.Next level place frames tokens = climbing level place frames tokens _ _ (show.next_form place)
  word_shown Words.Fail level place frames tokens = climbing level place frames tokens _ _ (show.fail_form place)
  word_shown _ level place frames tokens = refl

  unless_shown : (name : Option Name) (f : Name → ReadingState) (g : Name → G.ReadingState V L C) → ((n : Name) → shown (f n) ≡ g n)
      → shown (unless_broken name f) ≡ G.unless_broken name g
  unless_shown None f g e = refl
  unless_shown (Some n) f g e = e n

  operator_shown : (found : Option (Operator × Option Operator)) (level : ℕ) (place : Place) (frames : List OpenForm) (tokens : List Token)
      → shown (operator_step level place found frames tokens) ≡ G.operator_step make level place found (frames_ frames) tokens
  operator_shown None level place frames tokens =
      unless_shown (name_by (keyword_text (next tokens)) tokens) _ _ (λ name. climbing level place frames (behind tokens) _ _ (show.keyword place name))
  operator_shown (Some found) level place frames tokens = refl

  elements_from : (b : Bracket) (level : ℕ) (place : Place) (frames : List OpenForm) (tokens : List Token)
      → shown (Starting 0 (frame level place (Elements b NoTrees) ∷ frames) tokens)
      ≡ G.Starting 0 (G.frame level place (G.Elements (bracket b) make.no_elements) ∷ frames_ frames) tokens
  elements_from b level place frames tokens = ap (λ l. G.Starting 0 (G.frame level place (G.Elements (bracket b) l) ∷ frames_ frames) tokens) show.no_elements

  mark_shown : (mark : Punctuation) (level : ℕ) (place : Place) (frames : List OpenForm) (tokens : List Token)
      → shown (mark_step level place mark frames tokens) ≡ G.mark_step make level place mark (frames_ frames) tokens
  mark_shown OpenParenthesis level place frames tokens = elements_from Round level place frames tokens
  mark_shown OpenBracket level place frames tokens = elements_from Square level place frames tokens
  mark_shown OpenBrace level place frames tokens = elements_from Curly level place frames tokens
  mark_shown _ level place frames tokens = refl

  operand_shown : (kind : Kind) (level : ℕ) (place : Place) (frames : List OpenForm) (tokens : List Token)
      → shown (operand_step level place kind frames tokens) ≡ G.operand_step make level place kind (frames_ frames) tokens
  operand_shown (IdentifierKind text) level place frames tokens =
      climbing level place frames tokens _ _ (show.identifier (record { text = text; place = place }))
  operand_shown (IntegerKind n) level place frames tokens = climbing level place frames tokens _ _ (show.constant place (Integer n))
  operand_shown (TextKind text) level place frames tokens = climbing level place frames tokens _ _ (show.constant place (Text text))
  operand_shown (CsetKind set) level place frames tokens = climbing level place frames tokens _ _ (show.constant place (Cset set))
  operand_shown (WordKind word) level place frames tokens = word_shown word level place frames tokens
  operand_shown (OperatorKind operator) level place frames tokens = operator_shown (prefix_of operator) level place frames tokens
  operand_shown (AugmentedKind operator) level place frames tokens = refl
  operand_shown (PunctuationKind mark) level place frames tokens = mark_shown mark level place frames tokens

  empty_shown : (level : ℕ) (frames : List OpenForm) (tokens : List Token)
      → shown (empty_step level frames tokens) ≡ G.empty_step make level (frames_ frames) tokens
  empty_shown zero frames tokens = ap (λ v. G.Closing v false (frames_ frames) tokens) show.empty
  empty_shown (suc level) frames tokens = refl

  start_by_shown : (b : Bool) (level : ℕ) (token : Token) (frames : List OpenForm) (tokens : List Token)
      → shown (start_by b level token frames tokens) ≡ G.start_by make b level token (frames_ frames) tokens
  start_by_shown true level token frames tokens = climbing_same level token frames tokens
    where
      climbing_same : (level : ℕ) (token : Token) (frames : List OpenForm) (tokens : List Token)
          → shown (start_by true level token frames tokens) ≡ G.start_by make true level token (frames_ frames) tokens
      climbing_same zero token frames tokens = operand_shown token.kind 1 (record { line = token.line; file = token.file }) frames tokens
      climbing_same (suc level) token frames tokens = operand_shown token.kind (suc level) (record { line = token.line; file = token.file }) frames tokens
  start_by_shown false level token frames tokens = empty_shown level frames (token ∷ tokens)

  start_shown : (level : ℕ) (frames : List OpenForm) (tokens : List Token)
      → shown (start_step level frames tokens) ≡ G.start_step make level (frames_ frames) tokens
  start_shown level frames [] = empty_shown level frames []
  start_shown level frames (token ∷ tokens) = start_by_shown (kind_begins token.kind) level token frames tokens

  plain_shown : (b : Bool) (operator : Operator) (level : ℕ) (place : Place) (tree : Tree) (frames : List OpenForm) (tokens : List Token)
      → shown (plain_step b level place tree operator frames tokens) ≡ G.plain_step make b level place (show.tree tree) operator (frames_ frames) tokens
  plain_shown true operator level place tree frames tokens =
      unless_shown (name_by (identifier_text (next tokens)) tokens) _ _ (λ name. climbing level place frames (behind tokens) _ _ (show.field place tree name))
  plain_shown false operator level place tree frames tokens = refl

  suffix_shown : (mark : Punctuation) (level : ℕ) (place : Place) (tree : Tree) (frames : List OpenForm) (tokens : List Token)
      → shown (suffix_step level place tree mark frames tokens) ≡ G.suffix_step make level place (show.tree tree) mark (frames_ frames) tokens
  suffix_shown OpenParenthesis level place tree frames tokens = elements_from (Arguments tree) level place frames tokens
  suffix_shown OpenBracket level place tree frames tokens = elements_from (Subscripts tree) level place frames tokens
  suffix_shown OpenBrace level place tree frames tokens = elements_from (CoArguments tree) level place frames tokens
  suffix_shown _ level place tree frames tokens = refl

  extend_shown : (kind : Kind) (level : ℕ) (place : Place) (tree : Tree) (frames : List OpenForm) (tokens : List Token)
      → shown (extend_step level place tree kind frames tokens) ≡ G.extend_step make level place (show.tree tree) kind (frames_ frames) tokens
  extend_shown (OperatorKind operator) level place tree frames tokens = plain_shown (is_dot operator) operator level place tree frames tokens
  extend_shown (PunctuationKind mark) level place tree frames tokens = suffix_shown mark level place tree frames tokens
  extend_shown _ level place tree frames tokens = refl

  climb_by_shown : (b : Bool) (level : ℕ) (place : Place) (tree : Tree) (token : Token) (frames : List OpenForm) (tokens : List Token)
      → shown (climb_by b level place tree token frames tokens) ≡ G.climb_by make b level place (show.tree tree) token (frames_ frames) tokens
  climb_by_shown true level place tree token frames tokens = extend_shown token.kind level place tree frames tokens
  climb_by_shown false level place tree token frames tokens = refl

  climb_shown : (level : ℕ) (place : Place) (tree : Tree) (frames : List OpenForm) (tokens : List Token)
      → shown (climb_step level place tree frames tokens) ≡ G.climb_step make level place (show.tree tree) (frames_ frames) tokens
  climb_shown level place tree frames [] = refl
  climb_shown level place tree frames (token ∷ tokens) = climb_by_shown (nat_le level (kind_goes_on token.kind)) level place tree token frames tokens

  bracketed_shown : (b : Bracket) (place : Place) (trees : Trees)
      → show.tree (bracketed b place trees) ≡ G.bracket_tree make (bracket b) place (show.trees trees)
  bracketed_shown Round place trees = show.parentheses place trees
  bracketed_shown Square place trees = show.listing place trees
  bracketed_shown Curly place trees = show.compound place trees
  bracketed_shown (Arguments callee) place trees = show.call place callee trees
  bracketed_shown (CoArguments callee) place trees = show.co_call place callee trees
  bracketed_shown (Subscripts subject) place trees = show.subscript place subject trees

  separator_shown : (b : Bracket) → separator_of b ≡ G.separator_of (bracket b)
  separator_shown Round = refl
  separator_shown Square = refl
  separator_shown Curly = refl
  separator_shown (Arguments callee) = refl
  separator_shown (CoArguments callee) = refl
  separator_shown (Subscripts subject) = refl

  closer_shown : (b : Bracket) (kind : Option Kind) → is_closer b kind ≡ G.is_closer (bracket b) kind
  closer_shown Round kind = refl
  closer_shown Square kind = refl
  closer_shown Curly kind = refl
  closer_shown (Arguments callee) kind = refl
  closer_shown (CoArguments callee) kind = refl
  closer_shown (Subscripts subject) kind = refl

  section_shown : (kind : Option SectionKind) (subject : Tree) (level : ℕ) (place : Place) (tree : Tree) (frames : List OpenForm) (tokens : List Token)
      → shown (section_by (Some subject) kind level place tree frames tokens)
      ≡ G.section_by make (Some (show.tree subject)) kind level place (show.tree tree) (frames_ frames) tokens
  section_shown None subject level place tree frames tokens = refl
  section_shown (Some kind) subject level place tree frames tokens = refl

  no_section_shown : (kind : Option SectionKind) (subject : Option V) (level : ℕ) (place : Place) (tree : V) (frames : List (G.OpenForm V L C))
      (tokens : List Token) → subject ≡ None → G.Broken ≡ G.section_by make subject kind level place tree frames tokens
  no_section_shown kind subject level place tree frames tokens e = ap (λ s. G.section_by make s kind level place tree frames tokens) (sym e)

  no_subject : (b : Bool) (a : Bracket) (present : Bool) → b ≡ false → G.section_subject make (bracket a) b present ≡ None
  no_subject b a present e = ap (λ c. G.section_subject make (bracket a) c present) e ∙ no_subject_at a present
    where
      no_subject_at : (a : Bracket) (present : Bool) → G.section_subject make (bracket a) false present ≡ None
      no_subject_at Round present = refl
      no_subject_at Square present = refl
      no_subject_at Curly present = refl
      no_subject_at (Arguments callee) present = refl
      no_subject_at (CoArguments callee) present = refl
      no_subject_at (Subscripts subject) present = refl

  none_absent : (b : Bool) (a : Bracket) → G.section_subject make (bracket a) b false ≡ None
  none_absent b Round = refl
  none_absent b Square = refl
  none_absent b Curly = refl
  none_absent b (Arguments callee) = refl
  none_absent b (CoArguments callee) = refl
  none_absent true (Subscripts subject) = refl
  none_absent false (Subscripts subject) = refl

  subject_shown : (b : Bracket) (done : Trees) (present : Bool) (level : ℕ) (place : Place) (tree : Tree) (frames : List OpenForm) (tokens : List Token)
      (kind : Option SectionKind)
      → shown (section_by (section_subject b done present) kind level place tree frames tokens) ≡ G.section_by make
      (G.section_subject make (bracket b) (make.has_none (show.trees done)) present) kind level place (show.tree tree) (frames_ frames) tokens
  subject_shown (Subscripts subject) NoTrees true level place tree frames tokens kind = section_shown kind subject level place tree frames tokens
      ∙ ap (λ b. G.section_by make (G.section_subject make (G.Subscripts (show.tree subject)) b true) kind level place (show.tree tree) (frames_ frames) tokens)
      (sym show.has_none)
  subject_shown (Subscripts subject) NoTrees false level place tree frames tokens kind =
      no_section_shown kind _ level place (show.tree tree) (frames_ frames) tokens (none_absent (make.has_none (show.trees NoTrees)) (Subscripts subject))
  subject_shown (Subscripts subject) (More first others) present level place tree frames tokens kind =
      no_section_shown kind _ level place (show.tree tree) (frames_ frames) tokens (no_subject _ (Subscripts subject) present (show.has_some first others))
  subject_shown Round done present level place tree frames tokens kind = refl
  subject_shown Square done present level place tree frames tokens kind = refl
  subject_shown Curly done present level place tree frames tokens kind = refl
  subject_shown (Arguments callee) done present level place tree frames tokens kind = refl
  subject_shown (CoArguments callee) done present level place tree frames tokens kind = refl

  element_shown : (separated closes : Bool) (b : Bracket) (done : Trees) (level : ℕ) (place : Place) (tree : Tree) (present : Bool) (frames : List OpenForm)
      (tokens : List Token)
      → shown (element_by separated closes b done level place tree present frames tokens)
      ≡ G.element_by make separated closes (bracket b) (show.trees done) level place (show.tree tree) present (frames_ frames) tokens
  element_shown true closes b done level place tree present frames tokens =
      ap (λ l. G.Starting 0 (G.frame level place (G.Elements (bracket b) l) ∷ frames_ frames) (behind tokens)) (show.with_element done tree)
  element_shown false true b done level place tree present frames tokens = climbing level place frames
      (behind tokens) _ _ (bracketed_shown b place (with_last done tree) ∙ ap (G.bracket_tree make (bracket b) place) (show.with_element done tree))
  element_shown false false b done level place tree present frames tokens =
      subject_shown b done present level place tree frames (behind tokens) (section_kind (next tokens))

  provided_shown : (b : Bool) (state : ReadingState) (other : G.ReadingState V L C) → shown state ≡ other → shown (provided b state) ≡ G.state_if b other
  provided_shown true state other e = e
  provided_shown false state other e = refl

  clause_shown : (b : Bool) (level : ℕ) (place : Place) (subject : Tree) (done : Clauses) (frames : List OpenForm) (tokens : List Token)
      → shown (clause_by b level place subject done frames tokens)
      ≡ G.clause_by make b level place (show.tree subject) (show.further done) (frames_ frames) tokens
  clause_shown true level place subject done frames tokens = provided_shown (is_colon (next (behind tokens))) _ _ refl
  clause_shown false level place subject done frames tokens = refl

  clause_end_shown : (b : Bool) (level : ℕ) (place : Place) (subject : Tree) (done : Clauses) (further : C) → show.further done ≡ further
      → (frames : List OpenForm) (tokens : List Token)
      → shown (clause_end b level place subject done frames tokens) ≡ G.clause_end make b level place (show.tree subject) further (frames_ frames) tokens
  clause_end_shown true level place subject done further e frames tokens =
      clause_shown (is_default (next (behind tokens))) level place subject done frames (behind tokens)
      ∙ ap (λ c. G.clause_step make level place (show.tree subject) c (frames_ frames) (behind tokens)) e
  clause_end_shown false level place subject done further e frames tokens = provided_shown (is_close_brace (next tokens))
      _ _ (climbing level place frames (behind tokens) _ _ (show.case_form place subject done ∙ ap (make.case_form place (show.tree subject)) e))

  part_or_shown : (b : Bool) (holds : PartialForm) (level : ℕ) (place : Place) (tree : Tree) (other : V) (frames : List OpenForm) (tokens : List Token)
      → show.tree tree ≡ other
      → shown (part_or b (frame level place holds) tree frames tokens) ≡ G.part_or make b (G.frame level place (holding holds)) other (frames_ frames) tokens
  part_or_shown true holds level place tree other frames tokens e = refl
  part_or_shown false holds level place tree other frames tokens e = climbing level place frames tokens _ _ e

  by_or_shown : (b : Bool) (holds : PartialForm) (level : ℕ) (place : Place) (tree : Tree) (other : V) (frames : List OpenForm) (tokens : List Token)
      → show.tree tree ≡ other
      → shown (by_or b (frame level place holds) tree frames tokens) ≡ G.by_or make b (G.frame level place (holding holds)) other (frames_ frames) tokens
  by_or_shown true holds level place tree other frames tokens e = refl
  by_or_shown false holds level place tree other frames tokens e = climbing level place frames tokens _ _ e

  elements_shown : (b : Bracket) (done : Trees) (level : ℕ) (place : Place) (tree : Tree) (present : Bool) (frames : List OpenForm) (tokens : List Token)
      → shown (close_by (Elements b done) level place tree present frames tokens)
      ≡ G.close_by make (holding (Elements b done)) level place (show.tree tree) present (frames_ frames) tokens
  elements_shown b done level place tree present frames tokens =
      element_shown (is_separator (separator_of b) (next tokens)) (is_closer b (next tokens)) b done level place tree present frames tokens
      ∙ ap (λ s. G.element_by make (is_separator s (next tokens)) (is_closer b (next tokens)) (bracket b) (show.trees done) level place (show.tree tree) present
      (frames_ frames) tokens) (separator_shown b)
      ∙ ap (λ c. G.element_by make (is_separator (G.separator_of (bracket b)) (next tokens)) c (bracket b) (show.trees done) level place
      (show.tree tree) present (frames_ frames) tokens) (closer_shown b (next tokens))

  close_shown : (holds : PartialForm) (level : ℕ) (place : Place) (tree : Tree) (present : Bool) (frames : List OpenForm) (tokens : List Token)
      → shown (close_by holds level place tree present frames tokens)
      ≡ G.close_by make (holding holds) level place (show.tree tree) present (frames_ frames) tokens
  close_shown (Elements b done) level place tree present frames tokens = elements_shown b done level place tree present frames tokens
  close_shown (SectionEnd kind subject from) level place tree present frames tokens =
      provided_shown (is_close_bracket (next tokens)) _ _ (climbing level place frames (behind tokens) _ _ (show.section place kind subject from tree))
  close_shown (PrefixOperand operator) level place tree present frames tokens = climbing level place frames tokens _ _ (show.prefix place operator tree)
  close_shown NotOperand level place tree present frames tokens = climbing level place frames tokens _ _ (show.not_form place tree)
  close_shown (RightOperand operator left) level place tree present frames tokens =
      climbing level place frames tokens _ _ (show.binary place operator left tree)
  close_shown (ToOperand from) level place tree present frames tokens =
      by_or_shown (is_by (next tokens)) (ByOperand from tree) level place _ _ frames tokens (show.to_form place from tree)
  close_shown (ByOperand from to) level place tree present frames tokens = climbing level place frames tokens _ _ (show.to_form_and place from to tree)
  close_shown Condition level place tree present frames tokens = provided_shown (is_then (next tokens)) _ _ refl
  close_shown (Consequence condition) level place tree present frames tokens =
      part_or_shown (is_else (next tokens)) (Alternative condition tree) level place _ _ frames tokens (show.if_form place condition tree)
  close_shown (Alternative condition first) level place tree present frames tokens =
      climbing level place frames tokens _ _ (show.if_form_and place condition first tree)
  close_shown CaseSubject level place tree present frames tokens = provided_shown (is_of (next tokens) && is_open_brace (next (behind tokens)))
      _ _ (clause_shown (is_default (next (behind (behind tokens)))) level place tree NoClauses frames (behind (behind tokens))
      ∙ ap (λ c. G.clause_step make level place (show.tree tree) c (frames_ frames) (behind (behind tokens))) show.no_clauses)
  close_shown (ClauseGuard subject done at) level place tree present frames tokens = provided_shown (is_colon (next tokens)) _ _ refl
  close_shown (GuardedValue subject done at guard) level place tree present frames tokens =
      clause_end_shown (is_separator BySemicolon (next tokens)) level place subject _ _ (show.with_guarded done at guard tree) frames tokens
  close_shown (DefaultValue subject done at) level place tree present frames tokens =
      clause_end_shown (is_separator BySemicolon (next tokens)) level place subject _ _ (show.with_default done at tree) frames tokens
  close_shown (Control kind) level place tree present frames tokens =
      part_or_shown (is_do (next tokens)) (LoopBody kind tree) level place _ _ frames tokens (show.loop_form place kind tree)
  close_shown (LoopBody kind control) level place tree present frames tokens =
      climbing level place frames tokens _ _ (show.loop_form_and place kind control tree)
  close_shown RepeatBody level place tree present frames tokens = climbing level place frames tokens _ _ (show.repeat_form place tree)
  close_shown CreateBody level place tree present frames tokens = climbing level place frames tokens _ _ (show.create_form place tree)
  close_shown BreakValue level place tree present frames tokens = climbing level place frames tokens _ _ (show.break_form place tree)
  close_shown ReturnValue level place tree present frames tokens = climbing level place frames tokens _ _ (show.return_form place tree)
  close_shown SuspendValue level place tree present frames tokens =
      part_or_shown (is_do (next tokens)) (SuspendBody tree) level place _ _ frames tokens (show.suspend_form place tree)
  close_shown (SuspendBody value) level place tree present frames tokens = climbing level place frames tokens _ _ (show.suspend_form_and place value tree)

  closing_shown : (frames : List OpenForm) (tree : Tree) (present : Bool) (tokens : List Token)
      → shown (close_step tree present frames tokens) ≡ G.close_step make (show.tree tree) present (frames_ frames) tokens
  closing_shown [] tree present tokens = refl
  closing_shown (newest ∷ frames) tree present tokens = close_shown newest.holds newest.level newest.place tree present frames tokens

  pub step_shown : (state : ReadingState) → shown (step state) ≡ G.step make (shown state)
  step_shown (Starting level frames tokens) = start_shown level frames tokens
  step_shown (Climbing level place tree frames tokens) = climb_shown level place tree frames tokens
  step_shown (Closing tree present frames tokens) = closing_shown frames tree present tokens
  step_shown (Finished tree tokens) = refl
  step_shown Broken = refl

  pub run_shown : (n : ℕ) (state : ReadingState) → shown (run n state) ≡ G.run make n (shown state)
  unfolding run G.run
  run_shown zero state = refl
  run_shown (suc n) state = run_shown n (step state) ∙ ap (G.run make n) (step_shown state)
