-- What the automaton has read stands by the grammar.
use Rattle.std.proofs.Common.{◌≡◌, ℕ, zero, suc, ◌+◌, ◌<◌, ◌≤◌, Bool, true, false, cond, ◌&&◌, ◌||◌, nat_le, ◌⊎◌, inl, inr, List, [], ◌∷◌, Option, Some, None, is_some, refl, sym, ap, subst, ◌∙◌, arith, le_trans, eq-or-lt_of_le, le_of_suc-le-suc, codes}
use Rattle.std.proofs.lemmas.Bool.{leb-false, leb-true, lt-leb, le-leb, and_left, and_right, and_from, or_parts, or_from, and_parts, false≢true, true≢false}
use Rattle.std.proofs.lemmas.Option.{none-some, same_Some}
use Rattle.icn_tree.specs.declared.token.Kind.{Kind}
use Rattle.icn_tree.specs.declared.token.Kind.TheVariants.{Identifier as IdentifierKind, Integer as IntegerKind, Text as TextKind, Cset as CsetKind, Word as WordKind, Operator as OperatorKind, Augmented as AugmentedKind, Punctuation as PunctuationKind}
use Rattle.icn_tree.specs.declared.token.Token.{Token}
use Rattle.icn_tree.specs.declared.token.Word.{Word}
use Rattle.icn_tree.specs.declared.token.Word.TheVariants as Words
use Rattle.icn_tree.specs.declared.token.Operator.{Operator}
use Rattle.icn_tree.specs.declared.token.Punctuation.{Punctuation}
use Rattle.icn_tree.specs.declared.token.Punctuation.TheVariants.{OpenParenthesis, CloseParenthesis, OpenBracket, CloseBracket, OpenBrace, CloseBrace, Comma, Semicolon, Colon, PlusColon, MinusColon}
use Rattle.icn_tree.specs.declared.tree.Place.{Place}
use Rattle.icn_tree.specs.declared.tree.Name.{Name}
use Rattle.icn_tree.specs.declared.tree.Literal.TheVariants.{Integer, Text, Cset}
use Rattle.icn_tree.specs.declared.tree.Infix.{Infix}
use Rattle.icn_tree.specs.declared.tree.Infix.TheVariants.{Plain, Augmented}
use Rattle.icn_tree.specs.declared.tree.SectionKind.{SectionKind}
use Rattle.icn_tree.specs.declared.tree.SectionKind.TheVariants.{Between, Forward, Backward}
use Rattle.icn_tree.specs.declared.tree.LoopKind.{LoopKind}
use Rattle.icn_tree.specs.declared.tree.LoopKind.TheVariants as Loops
use Rattle.icn_tree.specs.Trees.{Tree, Trees, Clause, Clauses, Empty, Constant, Identifier, Keyword, Parentheses, Listing, Compound, Call, CoCall, Subscript, Section, Field, Prefix, Not, Binary, To, If, Case, Loop, Repeat, Create, Next, Fail, Break, Return, Suspend, Absent, Present, NoTrees, More, Default, Guarded, NoClauses, MoreClauses}
use Rattle.icn_tree.specs.declared.token.Operator.TheVariants.{Ampersand, Dot}
use Rattle.icn_tree.specs.declared.tree.Literal.{Literal}
use Rattle.icn_tree.specs.Levels.{operator_level, groups_right, infix_level, infix_kind, left_level, right_level, level_of, is_present, prefix_of, kind_begins, begins, kind_goes_on, goes_on, is_else, is_do, is_by}
use Rattle.icn_tree.specs.Wants.{wants}
use Rattle.icn_tree.specs.Phrases.{Phrase, next, place_of, token_at, sign}
use Rattle.icn_tree.specs.Grammar.{identifier, keyword, Part, Spells, SpellsList, SpellsMore, SpellsClause, SpellsClauses, SpellsMoreClauses, before, IsPrefix, Separator, ByComma, BySemicolon, separator, literal_kind, section_sign, loop_word}
use Rattle.icn_expr.proofs.Automaton.{Bracket, Round, Square, Curly, Arguments, CoArguments, Subscripts, PartialForm, Elements, SectionEnd, PrefixOperand, NotOperand, RightOperand, ToOperand, ByOperand, Condition, Consequence, Alternative, CaseSubject, ClauseGuard, GuardedValue, DefaultValue, Control, LoopBody, RepeatBody, CreateBody, BreakValue, ReturnValue, SuspendValue, SuspendBody, OpenForm, ReadingState, Starting, Climbing, Closing, Finished, Broken, behind, is_separator, is_close_parenthesis, is_close_bracket, is_close_brace, is_open_brace, is_colon, is_then, is_of, is_default, is_dot, section_kind, name_by, identifier_text, keyword_text, unless_broken, provided, climbing_level, frame, word_step, operator_step, mark_step, operand_step, empty_step, start_by, start_step, infix_step, plain_step, suffix_step, extend_step, climb_by, climb_step, separator_of, is_closer, bracketed, section_subject, section_by, element_by, clause_by, clause_step, clause_end, part_or, by_or, close_by, close_step, step, run}
use Rattle.icn_expr.specs.Capped.{with_last, with_last_clause}
use Rattle.icn_tree.specs.Phrases.{nothing, sign_at, ◌⨾◌, starts_at}
use Rattle.icn_tree.specs.Grammar.{infix_sign, mark, word, mark_at, word_at}
use Rattle.icn_tree.proofs.LevelFacts.{edge, level_edge, right_one}
use Rattle.icn_expr.proofs.MeantParts.{is_nonempty, present_ends}
use Rattle.icn_tree.specs.declared.token.Operator.TheVariants as Operators

-- Elements with a separator behind each
abbrev pub SoFar : Separator → Trees → Phrase
SoFar by NoTrees = nothing
SoFar by (More tree trees) = Part 0 tree (Spells tree) ⨾ mark (separator by) ⨾ SoFar by trees

abbrev pub ClausesSoFar : Clauses → Phrase
ClausesSoFar NoClauses = nothing
ClausesSoFar (MoreClauses clause others) = SpellsClause clause ⨾ mark Semicolon ⨾ ClausesSoFar others

-- what was read before the first element
abbrev pub Opened : Bracket → Place → Phrase
Opened Round place = mark_at place OpenParenthesis
Opened Square place = mark_at place OpenBracket
Opened Curly place = mark_at place OpenBrace
Opened (Arguments callee) place = starts_at place (Part 13 callee (Spells callee) ⨾ mark OpenParenthesis)
Opened (CoArguments callee) place = starts_at place (Part 13 callee (Spells callee) ⨾ mark OpenBrace)
Opened (Subscripts subject) place = starts_at place (Part 13 subject (Spells subject) ⨾ mark OpenBracket)

-- what was read of a `case` before its clauses
abbrev pub CaseHead : Tree → Place → Phrase
CaseHead subject place = word_at place Words.Case ⨾ Part 1 subject (Spells subject) ⨾ word Words.Of ⨾ mark OpenBrace

-- what an open form has read
abbrev pub Held : PartialForm → Place → ℕ → Phrase
Held (Elements bracket done) place level = Opened bracket place ⨾ SoFar (separator_of bracket) done
Held (SectionEnd kind subject from) place level =
    starts_at place (Part 13 subject (Spells subject) ⨾ mark OpenBracket ⨾ Part 1 from (Spells from) ⨾ mark (section_sign kind))
Held (PrefixOperand operator) place level = IsPrefix place operator
Held NotOperand place level = word_at place Words.Not
Held (RightOperand operator left) place level = λ here after. (level ≤ infix_level operator)
    × starts_at place (Part (left_level (infix_level operator)) left (Spells left) ⨾ infix_sign operator) here after
Held (ToOperand from) place level = λ here after. (level ≤ 4) × starts_at place (Part 4 from (Spells from) ⨾ word Words.To) here after
Held (ByOperand from to) place level =
    λ here after. (level ≤ 4) × starts_at place (Part 4 from (Spells from) ⨾ word Words.To ⨾ Part 5 to (Spells to) ⨾ word Words.By) here after
Held Condition place level = word_at place Words.If
Held (Consequence condition) place level = word_at place Words.If ⨾ Part 1 condition (Spells condition) ⨾ word Words.Then
Held (Alternative condition first) place level =
    word_at place Words.If ⨾ Part 1 condition (Spells condition) ⨾ word Words.Then ⨾ Part 1 first (Spells first) ⨾ word Words.Else
Held CaseSubject place level = word_at place Words.Case
Held (ClauseGuard subject clauses at) place level = λ here after. (CaseHead subject place ⨾ ClausesSoFar clauses) here after × (place_of after ≡ at)
Held (GuardedValue subject clauses at guard) place level =
    (CaseHead subject place ⨾ ClausesSoFar clauses) ⨾ starts_at at (Part 1 guard (Spells guard) ⨾ mark Colon)
Held (DefaultValue subject clauses at) place level = (CaseHead subject place ⨾ ClausesSoFar clauses) ⨾ word_at at Words.Default ⨾ mark Colon
Held (Control kind) place level = word_at place (loop_word kind)
Held (LoopBody kind control) place level = word_at place (loop_word kind) ⨾ Part 1 control (Spells control) ⨾ word Words.Do
Held RepeatBody place level = word_at place Words.Repeat
Held CreateBody place level = word_at place Words.Create
Held BreakValue place level = word_at place Words.Break
Held ReturnValue place level = word_at place Words.Return
Held SuspendValue place level = word_at place Words.Suspend
Held (SuspendBody value) place level = word_at place Words.Suspend ⨾ Part 0 value (Spells value) ⨾ word Words.Do

-- the level of the part that an open form waits for
abbrev pub awaits : PartialForm → ℕ
awaits (Elements bracket done) = 0
awaits (PrefixOperand operator) = 12
awaits NotOperand = 12
awaits (RightOperand operator left) = right_level (infix_level operator)
awaits (ToOperand from) = 5
awaits (ByOperand from to) = 5
awaits BreakValue = 0
awaits ReturnValue = 0
awaits SuspendValue = 0
awaits _ = 1

abbrev pub awaited : List OpenForm → ℕ → ℕ
awaited [] level = level
awaited (newest ∷ frames) level = awaits newest.holds

-- an open form stands on those below it
pub record Open (holds : PartialForm) (level : ℕ) (place : Place) (below : ℕ) (under : List Token → Type 0) (here : List Token) : Type 0 where
  pub begin : List Token
  pub held : Held holds place level begin here
  pub is_level : level ≡ climbing_level below
  pub is_place : place_of begin ≡ place
  pub rest : under begin

-- what the open forms have read from the first token on
abbrev pub Standing : List OpenForm → ℕ → List Token → List Token → Type 0
Standing [] whole first here = here ≡ first
Standing (newest ∷ frames) whole first here = Open newest.holds newest.level newest.place (awaited frames whole) (Standing frames whole first) here

-- what stands behind a part does not go on with it
abbrev pub Ends : ℕ → Tree → List Token → Type 0
Ends level tree after = (goes_on (climbing_level level) (next after) && is_present tree) ≡ false

-- a tree that was read from some token on
pub record Climbed (level : ℕ) (place : Place) (tree : Tree) (below : ℕ) (under : List Token → Type 0) (here : List Token) : Type 0 where
  pub begin : List Token
  pub is_level : level ≡ climbing_level below
  pub is_place : place_of begin ≡ place
  pub rest : under begin
  pub spells : Spells tree begin here
  pub fits : level ≤ level_of tree
  pub longest : wants tree (next here) ≡ false
  pub edged : goes_on (edge tree) (next here) ≡ false

pub record Closed (tree : Tree) (present : Bool) (below : ℕ) (under : List Token → Type 0) (here : List Token) : Type 0 where
  pub begin : List Token
  pub rest : under begin
  pub part : Part below tree (Spells tree) begin here
  pub ends : Ends below tree here
  pub is_present : is_present tree ≡ present

-- the tokens up to here are those of what is open
abbrev pub Sound : ℕ → List Token → ReadingState → Type 0
Sound whole first (Starting level frames here) = (level ≡ awaited frames whole) × Standing frames whole first here
Sound whole first (Climbing level place tree frames here) = Climbed level place tree (awaited frames whole) (Standing frames whole first) here
Sound whole first (Closing tree present frames here) = Closed tree present (awaited frames whole) (Standing frames whole first) here
Sound whole first (Finished tree here) = Part whole tree (Spells tree) first here × Ends whole tree here
Sound whole first Broken = Unit {0}

-- Levels

pub operator_bound : (operator : Operator) → operator_level operator ≤ 11
operator_bound Dot = omega arith
operator_bound _ = omega arith

pub right_of_bound : (b : Bool) (level : ℕ) → level ≤ 11 → cond b level (suc level) ≤ 12
right_of_bound true level h = omega arith
right_of_bound false level h = omega arith

pub infix_bound : (operator : Infix) → infix_level operator ≤ 11
infix_bound (Plain operator) = operator_bound operator
infix_bound (Augmented operator) = omega arith

pub awaits_bound : (holds : PartialForm) → awaits holds ≤ 12
awaits_bound (RightOperand operator left) = right_of_bound (groups_right (infix_level operator)) (infix_level operator) (infix_bound operator)
awaits_bound _ = omega arith

pub awaited_bound : (frames : List OpenForm) (whole : ℕ) → whole ≤ 12 → awaited frames whole ≤ 12
awaited_bound [] whole h = h
awaited_bound (newest ∷ frames) whole h = awaits_bound newest.holds

pub climbing_bound : (level : ℕ) → level ≤ 12 → climbing_level level ≤ 12
climbing_bound zero h = omega arith
climbing_bound (suc level) h = h

pub below_climbing : (level : ℕ) → level ≤ climbing_level level
below_climbing zero = omega arith
below_climbing (suc level) = omega arith

pub one_climbing : (level : ℕ) → 1 ≤ climbing_level level
one_climbing zero = omega arith
one_climbing (suc level) = omega arith

pub word_bound : (word : Word) → kind_goes_on (WordKind word) ≤ 13
word_bound Words.To = omega arith
word_bound _ = omega arith

pub operator_goes_bound : (operator : Operator) → kind_goes_on (OperatorKind operator) ≤ 13
operator_goes_bound Dot = omega arith
operator_goes_bound _ = omega arith

pub mark_bound : (mark : Punctuation) → kind_goes_on (PunctuationKind mark) ≤ 13
mark_bound OpenParenthesis = omega arith
mark_bound _ = omega arith

pub kind_bound : (kind : Kind) → kind_goes_on kind ≤ 13
kind_bound (WordKind word) = word_bound word
kind_bound (OperatorKind operator) = operator_goes_bound operator
kind_bound (AugmentedKind operator) = omega arith
kind_bound (PunctuationKind mark) = mark_bound mark
kind_bound _ = omega arith

pub beyond : (kind : Option Kind) → goes_on 14 kind ≡ false
beyond None = refl
beyond (Some kind) = lt-leb 14 (kind_goes_on kind) (omega (arith, kind_bound kind))

pub left_over : (b : Bool) (level : ℕ) → cond b (suc level) level ≤ suc level
left_over true level = omega arith
left_over false level = omega arith

pub left_same : (level other : ℕ) → level ≡ other → groups_right other ≡ false → left_level level ≤ other
left_same level other e g = subst (λ n. left_level n ≤ other) (sym e) (subst (λ b. cond b (suc other) other ≤ other) (sym g) (omega arith))

pub binary_left : (b : Bool) (level other : ℕ) → groups_right other ≡ b → level < cond b other (suc other) → left_level level ≤ other
binary_left true level other g h = omega (arith, h, left_over (groups_right level) level)
binary_left false level other g h = by_order (eq-or-lt_of_le (le_of_suc-le-suc h))
  where
    by_order : (level ≡ other) ⊎ (level < other) → left_level level ≤ other
    by_order (inl e) = left_same level other e g
    by_order (inr l) = omega (arith, l, left_over (groups_right level) level)

pub fits_left : (level : ℕ) (tree : Tree) → 1 ≤ level_of tree → level < edge tree → left_level level ≤ level_of tree
fits_left level Empty one h = absurd (omega (arith, one))
fits_left level (Binary place operator left right) one h = binary_left (groups_right (infix_level operator)) level (infix_level operator) refl h
fits_left level (To place from to by) one h = binary_left false level 4 refl h
fits_left level (Prefix place operator operand) one h = omega (arith, h, left_over (groups_right level) level)
fits_left level (Not place operand) one h = omega (arith, h, left_over (groups_right level) level)
fits_left level _ one h = binary_left false level 13 refl h

pub present_of : (tree : Tree) → 1 ≤ level_of tree → is_present tree ≡ true
present_of Empty h = absurd (omega (arith, h))
present_of _ h = refl

pub ends_of : (b c : Bool) → (b && c) ≡ false → c ≡ true → b ≡ false
ends_of b true e f = present_ends b e
ends_of b false e f = absurd (false≢true f)

-- a part that is not empty ends where nothing goes on with it
pub ends_alone : (level : ℕ) (tree : Tree) (here after : List Token) → Part (suc level) tree (Spells tree) here after → Ends (suc level) tree after
    → goes_on (suc level) (next after) ≡ false
ends_alone level tree here after p e = ends_of (goes_on (suc level) (next after)) (is_present tree) e (present_of tree (omega (arith, p.fits)))

-- Signs

pub sign_of : (token : Token) (tokens : List Token) (kind : Kind) → token.kind ≡ kind → sign kind (token ∷ tokens) tokens
sign_of token tokens kind e = (record { line = token.line; file = token.file }, ap (λ k. record { kind = k; line = token.line; file = token.file } ∷ tokens) e)

pub at_sign : (test : Option Kind → Bool) (kind : Kind) → ((k : Kind) → test (Some k) ≡ true → k ≡ kind) → test None ≡ false → (here : List Token)
    → test (next here) ≡ true → sign kind here (behind here)
at_sign test kind f n [] e = absurd (false≢true (sym n ∙ e))
at_sign test kind f n (token ∷ tokens) e = sign_of token tokens kind (f token.kind e)

pub then_kind : (k : Kind) → is_then (Some k) ≡ true → k ≡ WordKind Words.Then
then_kind (WordKind Words.Then) e = refl
then_kind _ e = absurd (false≢true e)

pub of_kind : (k : Kind) → is_of (Some k) ≡ true → k ≡ WordKind Words.Of
of_kind (WordKind Words.Of) e = refl
of_kind _ e = absurd (false≢true e)

pub else_kind : (k : Kind) → is_else (Some k) ≡ true → k ≡ WordKind Words.Else
else_kind (WordKind Words.Else) e = refl
else_kind _ e = absurd (false≢true e)

pub do_kind : (k : Kind) → is_do (Some k) ≡ true → k ≡ WordKind Words.Do
do_kind (WordKind Words.Do) e = refl
do_kind _ e = absurd (false≢true e)

pub by_kind : (k : Kind) → is_by (Some k) ≡ true → k ≡ WordKind Words.By
by_kind (WordKind Words.By) e = refl
by_kind _ e = absurd (false≢true e)

pub default_kind : (k : Kind) → is_default (Some k) ≡ true → k ≡ WordKind Words.Default
default_kind (WordKind Words.Default) e = refl
default_kind _ e = absurd (false≢true e)

pub colon_kind : (k : Kind) → is_colon (Some k) ≡ true → k ≡ PunctuationKind Colon
colon_kind (PunctuationKind Colon) e = refl
colon_kind _ e = absurd (false≢true e)

pub open_brace_kind : (k : Kind) → is_open_brace (Some k) ≡ true → k ≡ PunctuationKind OpenBrace
open_brace_kind (PunctuationKind OpenBrace) e = refl
open_brace_kind _ e = absurd (false≢true e)

pub close_brace_kind : (k : Kind) → is_close_brace (Some k) ≡ true → k ≡ PunctuationKind CloseBrace
close_brace_kind (PunctuationKind CloseBrace) e = refl
close_brace_kind _ e = absurd (false≢true e)

pub close_bracket_kind : (k : Kind) → is_close_bracket (Some k) ≡ true → k ≡ PunctuationKind CloseBracket
close_bracket_kind (PunctuationKind CloseBracket) e = refl
close_bracket_kind _ e = absurd (false≢true e)

pub close_parenthesis_kind : (k : Kind) → is_close_parenthesis (Some k) ≡ true → k ≡ PunctuationKind CloseParenthesis
close_parenthesis_kind (PunctuationKind CloseParenthesis) e = refl
close_parenthesis_kind _ e = absurd (false≢true e)

pub separator_kind : (by : Separator) (k : Kind) → is_separator by (Some k) ≡ true → k ≡ PunctuationKind (separator by)
separator_kind ByComma (PunctuationKind Comma) e = refl
separator_kind BySemicolon (PunctuationKind Semicolon) e = refl
separator_kind _ _ e = absurd (false≢true e)

pub no_separator : (by : Separator) → is_separator by None ≡ false
no_separator ByComma = refl
no_separator BySemicolon = refl

pub separator_sign : (by : Separator) (here : List Token) → is_separator by (next here) ≡ true → mark (separator by) here (behind here)
separator_sign by here e = at_sign (is_separator by) (PunctuationKind (separator by)) (separator_kind by) (no_separator by) here e

pub section_sign_of : (kind : SectionKind) (k : Kind) → section_kind (Some k) ≡ Some kind → k ≡ PunctuationKind (section_sign kind)
section_sign_of kind (PunctuationKind Colon) e = ap (λ s. PunctuationKind (section_sign s)) (same_Some Between kind e)
section_sign_of kind (PunctuationKind PlusColon) e = ap (λ s. PunctuationKind (section_sign s)) (same_Some Forward kind e)
section_sign_of kind (PunctuationKind MinusColon) e = ap (λ s. PunctuationKind (section_sign s)) (same_Some Backward kind e)
section_sign_of kind _ e = absurd (none-some kind e)

pub section_mark : (kind : SectionKind) (here : List Token) → section_kind (next here) ≡ Some kind → mark (section_sign kind) here (behind here)
section_mark kind [] e = absurd (none-some kind e)
section_mark kind (token ∷ tokens) e = sign_of token tokens (PunctuationKind (section_sign kind)) (section_sign_of kind token.kind e)

-- Lists of what was read so far

pub more_of_list : (by : Separator) (trees : Trees) (here middle after : List Token) → mark (separator by) here middle → SpellsList by trees middle after
    → SpellsMore by trees here after
more_of_list by NoTrees here middle after s l = absurd l
more_of_list by (More tree trees) here middle after s l = (middle, s, l)

pub list_so_far : (by : Separator) (done : Trees) (tree : Tree) (begin here after : List Token) → SoFar by done begin here
    → Part 0 tree (Spells tree) here after → SpellsList by (with_last done tree) begin after
list_so_far by NoTrees tree begin here after s p = (after, subst (λ tokens. Part 0 tree (Spells tree) tokens after) (sym s) p, refl)
list_so_far by (More first done) tree begin here after s p =
    (s.0, s.1, more_of_list by (with_last done tree) s.0 s.2.0 after s.2.1 (list_so_far by done tree s.2.0 here after s.2.2 p))

pub more_so_far : (by : Separator) (done : Trees) (tree : Tree) (begin here middle after : List Token) → SoFar by done begin here
    → Part 0 tree (Spells tree) here middle → mark (separator by) middle after → SoFar by (with_last done tree) begin after
more_so_far by NoTrees tree begin here middle after s p m = (middle, subst (λ tokens. Part 0 tree (Spells tree) tokens middle) (sym s) p, (after, m, refl))
more_so_far by (More first done) tree begin here middle after s p m = (s.0, s.1, (s.2.0, s.2.1, more_so_far by done tree s.2.0 here middle after s.2.2 p m))

pub more_of_clauses : (further : Clauses) (here middle after : List Token) → mark Semicolon here middle → SpellsClauses further middle after
    → SpellsMoreClauses further here after
more_of_clauses NoClauses here middle after s l = absurd l
more_of_clauses (MoreClauses clause others) here middle after s l = (middle, s, l)

pub clauses_list : (done : Clauses) (clause : Clause) (begin here after : List Token) → ClausesSoFar done begin here → SpellsClause clause here after
    → SpellsClauses (with_last_clause done clause) begin after
clauses_list NoClauses clause begin here after s p = (after, subst (λ tokens. SpellsClause clause tokens after) (sym s) p, refl)
clauses_list (MoreClauses first done) clause begin here after s p =
    (s.0, s.1, more_of_clauses (with_last_clause done clause) s.0 s.2.0 after s.2.1 (clauses_list done clause s.2.0 here after s.2.2 p))

pub clauses_more : (done : Clauses) (clause : Clause) (begin here middle after : List Token) → ClausesSoFar done begin here → SpellsClause clause here middle
    → mark Semicolon middle after → ClausesSoFar (with_last_clause done clause) begin after
clauses_more NoClauses clause begin here middle after s p m = (middle, subst (λ tokens. SpellsClause clause tokens middle) (sym s) p, (after, m, refl))
clauses_more (MoreClauses first done) clause begin here middle after s p m =
    (s.0, s.1, (s.2.0, s.2.1, clauses_more done clause s.2.0 here middle after s.2.2 p m))
