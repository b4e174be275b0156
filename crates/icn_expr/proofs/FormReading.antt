-- The automaton reads each form.
use Rattle.std.proofs.Common.{◌≡◌, ℕ, zero, suc, ◌+◌, ◌<◌, ◌≤◌, Bool, true, false, ◌&&◌, ◌||◌, nat_le, ◌⊎◌, inl, inr, List, [], ◌∷◌, Option, Some, None, is_some, refl, sym, ap, subst, ◌∙◌, arith, le_trans, codes}
use Rattle.std.proofs.lemmas.Bool.{leb-false, leb-true, lt-leb, le-leb, and_left, and_from, or_parts, or_from, false≢true, true≢false}
use Rattle.std.proofs.lemmas.Option.{none-some, same_Some}
use Rattle.icn_tree.specs.declared.token.Kind.{Kind}
use Rattle.icn_tree.specs.declared.token.Kind.TheVariants.{Identifier as IdentifierKind, Integer as IntegerKind, Text as TextKind, Cset as CsetKind, Word as WordKind, Operator as OperatorKind, Augmented as AugmentedKind, Punctuation as PunctuationKind}
use Rattle.icn_tree.specs.declared.token.Token.{Token}
use Rattle.icn_tree.specs.declared.token.Word.{Word}
use Rattle.icn_tree.specs.declared.token.Word.TheVariants as Words
use Rattle.icn_tree.specs.declared.token.Operator.{Operator}
use Rattle.icn_tree.specs.declared.token.Punctuation.{Punctuation}
use Rattle.icn_tree.specs.declared.token.Punctuation.TheVariants.{OpenParenthesis, CloseParenthesis, OpenBracket, CloseBracket, OpenBrace, CloseBrace, Comma, Semicolon, Colon, PlusColon, MinusColon}
use Rattle.icn_tree.specs.declared.tree.Place.{Place}
use Rattle.icn_tree.specs.declared.tree.Name.{Name}
use Rattle.icn_tree.specs.declared.tree.Literal.TheVariants.{Integer, Text, Cset}
use Rattle.icn_tree.specs.declared.tree.Infix.{Infix}
use Rattle.icn_tree.specs.declared.tree.Infix.TheVariants.{Plain, Augmented}
use Rattle.icn_tree.specs.declared.tree.SectionKind.{SectionKind}
use Rattle.icn_tree.specs.declared.tree.SectionKind.TheVariants.{Between, Forward, Backward}
use Rattle.icn_tree.specs.declared.tree.LoopKind.{LoopKind}
use Rattle.icn_tree.specs.declared.tree.LoopKind.TheVariants as Loops
use Rattle.icn_tree.specs.Trees.{Tree, Trees, Clause, Clauses, Empty, Constant, Identifier, Keyword, Parentheses, Listing, Compound, Call, CoCall, Subscript, Section, Field, Prefix, Not, Binary, To, If, Case, Loop, Repeat, Create, Next, Fail, Break, Return, Suspend, Absent, Present, NoTrees, More, Default, Guarded, NoClauses, MoreClauses}
use Rattle.icn_tree.specs.declared.token.Operator.TheVariants.{Ampersand, Dot}
use Rattle.icn_tree.specs.declared.tree.Literal.{Literal}
use Rattle.icn_tree.specs.Levels.{infix_level, infix_kind, left_level, right_level, level_of, is_present, prefix_of, kind_begins, begins, kind_goes_on, goes_on, is_else, is_do, is_by}
use Rattle.icn_tree.specs.Wants.{wants}
use Rattle.icn_tree.specs.Phrases.{Phrase, next, place_of, token_at, sign}
use Rattle.icn_tree.specs.Grammar.{identifier, keyword, Part, Spells, SpellsList, SpellsMore, SpellsClause, SpellsClauses, SpellsMoreClauses, before, IsPrefix, Separator, ByComma, BySemicolon, separator, literal_kind, section_sign, loop_word}
use Rattle.icn_expr.proofs.Automaton.{Bracket, Round, Square, Curly, Arguments, CoArguments, Subscripts, PartialForm, Elements, SectionEnd, PrefixOperand, NotOperand, RightOperand, ToOperand, ByOperand, Condition, Consequence, Alternative, CaseSubject, ClauseGuard, GuardedValue, DefaultValue, Control, LoopBody, RepeatBody, CreateBody, BreakValue, ReturnValue, SuspendValue, SuspendBody, OpenForm, ReadingState, Starting, Climbing, Closing, Finished, Broken, behind, is_separator, is_close_parenthesis, is_close_bracket, is_close_brace, is_open_brace, is_colon, is_then, is_of, is_default, is_dot, section_kind, name_by, identifier_text, keyword_text, unless_broken, provided, climbing_level, frame, word_step, operator_step, mark_step, operand_step, empty_step, start_by, start_step, infix_step, plain_step, suffix_step, extend_step, climb_by, climb_step, separator_of, is_closer, bracketed, section_subject, section_by, element_by, clause_by, clause_step, clause_end, part_or, by_or, close_by, close_step, step, run}
use Rattle.icn_expr.specs.Capped.{with_last, with_last_clause}
use Rattle.icn_tree.proofs.LevelFacts.{edge, level_edge, goes_on_up, operand_edge, goes_on_infix, begins_prefix, right_one, left_up}
use Rattle.icn_expr.proofs.MeantParts.{Leads, one_more, climbed_to, Found, part_read, optional_read, behind_sign, next_sign, ends_at, past, provided_so, part_or_no, part_or_yes, by_or_no, by_or_yes, begun_at, appended, FoundList, FoundMore, more_next, appended_clauses, FoundClauses}

begins_literal : (literal : Literal) → kind_begins (literal_kind literal) ≡ true
begins_literal (Integer n) = refl
begins_literal (Text bytes) = refl
begins_literal (Cset set) = refl

constant_step : (level : ℕ) (place : Place) (literal : Literal) (frames : List OpenForm) (tokens : List Token)
    → operand_step level place (literal_kind literal) frames tokens ≡ Climbing level place (Constant place literal) frames tokens
constant_step level place (Integer n) frames tokens = refl
constant_step level place (Text bytes) frames tokens = refl
constant_step level place (Cset set) frames tokens = refl

so : (state other : ReadingState) (r : Tree) (t : List Token) → state ≡ other → Leads other r t → Leads state r t
so state other r t e g = subst (λ s. Leads s r t) (sym e) g

pub found_constant : (place : Place) (literal : Literal) → Found (Constant place literal)
found_constant place literal level frames here after r t fits s longest ends g =
    begun_at place (literal_kind literal) level frames here after after (Constant place literal) r t s (begins_literal literal)
    (λ h. so _ _ r t (constant_step (climbing_level level) place literal frames after) h) g

pub found_identifier : (name : Name) → Found (Identifier name)
found_identifier name level frames here after r t fits s longest ends g =
    begun_at name.place (IdentifierKind name.text) level frames here after after (Identifier name) r t s refl (λ h. h) g

keyword_step_is : (level : ℕ) (place : Place) (name : Name) (frames : List OpenForm) (here after : List Token) → keyword name here after
    → operator_step level place None frames here ≡ Climbing level place (Keyword place name) frames after
keyword_step_is level place name frames here after (inl e) = ap (operator_step level place None frames) e
keyword_step_is level place name frames here after (inr s) = ap (operator_step level place None frames) s.1
    ∙ ap (λ text. Climbing level place (Keyword place (record { text = text; place = name.place })) frames after) (sym s.0)

pub found_keyword : (place : Place) (name : Name) → Found (Keyword place name)
found_keyword place name level frames here after r t fits s longest ends g =
    begun_at place (OperatorKind Ampersand) level frames here s.0 after (Keyword place name) r t s.1 refl
    (λ h. so _ _ r t (keyword_step_is (climbing_level level) place name frames s.0 after s.2) h) g

more_in_front : (first : Tree) (done trees : Trees) → appended (More first done) trees ≡ More first (appended done trees)
more_in_front first done NoTrees = refl
more_in_front first done (More tree trees) = more_in_front first (with_last done tree) trees

pub all_appended : (trees : Trees) → appended NoTrees trees ≡ trees
all_appended NoTrees = refl
all_appended (More tree trees) = more_in_front tree NoTrees trees ∙ ap (More tree) (all_appended trees)

clauses_in_front : (first : Clause) (done further : Clauses)
    → appended_clauses (MoreClauses first done) further ≡ MoreClauses first (appended_clauses done further)
clauses_in_front first done NoClauses = refl
clauses_in_front first done (MoreClauses clause others) = clauses_in_front first (with_last_clause done clause) others

all_clauses : (further : Clauses) → appended_clauses NoClauses further ≡ further
all_clauses NoClauses = refl
all_clauses (MoreClauses clause others) = clauses_in_front clause NoClauses others ∙ ap (MoreClauses clause) (all_clauses others)

-- a list in brackets, closed by this kind
list_read : (bracket : Bracket) (trees : Trees) → FoundList trees → (close : Punctuation)
    → is_separator (separator_of bracket) (Some (PunctuationKind close)) ≡ false → is_closer bracket (Some (PunctuationKind close)) ≡ true
    → goes_on 1 (Some (PunctuationKind close)) ≡ false
    → (level : ℕ) (place : Place) (frames : List OpenForm) (here middle after : List Token) (r : Tree) (t : List Token)
    → SpellsList (separator_of bracket) trees here middle → sign (PunctuationKind close) middle after
    → Leads (Climbing level place (bracketed bracket place trees) frames after) r t
    → Leads (Starting 0 (frame level place (Elements bracket NoTrees) ∷ frames) here) r t
list_read bracket trees f close e c ends level place frames here middle after r t s p g =
    let kind : Kind = PunctuationKind close in
    f bracket NoTrees level place frames here middle r t s (ap (is_separator (separator_of bracket)) (next_sign kind middle after p) ∙ e)
    (ap (is_closer bracket) (next_sign kind middle after p) ∙ c) (ends_at 1 kind middle after p ends)
    (past (Climbing level place (bracketed bracket place (appended NoTrees trees)) frames) kind middle after r t p
    (subst (λ all. Leads (Climbing level place (bracketed bracket place all) frames after) r t) (sym (all_appended trees)) g))

pub found_parentheses : (place : Place) (elements : Trees) → FoundList elements → Found (Parentheses place elements)
found_parentheses place elements f level frames here after r t fits s longest ends g =
    begun_at place (PunctuationKind OpenParenthesis) level frames here s.0 after (Parentheses place elements) r t s.1 refl (λ h.
    list_read Round elements f CloseParenthesis refl refl refl (climbing_level level) place frames s.0 s.2.0 after r t s.2.1 s.2.2 h) g

pub found_listing : (place : Place) (elements : Trees) → FoundList elements → Found (Listing place elements)
found_listing place elements f level frames here after r t fits s longest ends g =
    begun_at place (PunctuationKind OpenBracket) level frames here s.0 after (Listing place elements) r t s.1 refl (λ h.
    list_read Square elements f CloseBracket refl refl refl (climbing_level level) place frames s.0 s.2.0 after r t s.2.1 s.2.2 h) g

pub found_compound : (place : Place) (exprs : Trees) → FoundList exprs → Found (Compound place exprs)
found_compound place exprs f level frames here after r t fits s longest ends g =
    begun_at place (PunctuationKind OpenBrace) level frames here s.0 after (Compound place exprs) r t s.1 refl (λ h.
    list_read Curly exprs f CloseBrace refl refl refl (climbing_level level) place frames s.0 s.2.0 after r t s.2.1 s.2.2 h) g

-- Forms that go on with an operand

extended : (level : ℕ) (place at : Place) (left : Tree) (kind : Kind) (frames : List OpenForm) (tokens : List Token) (r : Tree) (t : List Token)
    → level ≤ kind_goes_on kind → Leads (extend_step level place left kind frames tokens) r t
    → Leads (Climbing level place left frames (token_at at kind ∷ tokens)) r t
extended level place at left kind frames tokens r t h g =
    one_more _ r t (subst (λ b. Leads (climb_by b level place left (token_at at kind) frames tokens) r t) (sym (le-leb level (kind_goes_on kind) h)) g)

extends_by : (level : ℕ) (left : Tree) → Found left → (kind : Kind) (frames : List OpenForm) (here middle after : List Token) (r : Tree) (t : List Token)
    → climbing_level level ≤ kind_goes_on kind
    → Part (left_level (kind_goes_on kind)) left (Spells left) here middle → sign kind middle after
    → Leads (extend_step (climbing_level level) (place_of here) left kind frames after) r t → Leads (Starting level frames here) r t
extends_by level left f kind frames here middle after r t h p s g =
    let ends : goes_on (edge left) (next middle) ≡ false = ap (goes_on (edge left)) (next_sign kind middle after s)
    ∙ lt-leb (edge left) (kind_goes_on kind) (operand_edge (kind_goes_on kind) left p.fits) in
    f level frames here middle r t (le_trans h (left_up (kind_goes_on kind) left p.fits)) p.spells p.longest ends
    (subst (λ (tokens : List Token). Leads (Climbing (climbing_level level) (place_of here) left frames tokens) r t) (sym s.1)
    (extended (climbing_level level) (place_of here) s.0 left kind frames after r t h g))

-- the place of the whole is that of its first token
placed : (make : Place → ReadingState) (place other : Place) (r : Tree) (t : List Token) → other ≡ place → Leads (make place) r t → Leads (make other) r t
placed make place other r t e g = subst (λ (p : Place). Leads (make p) r t) (sym e) g

pub found_call : (place : Place) (callee : Tree) (arguments : Trees) → Found callee → FoundList arguments → Found (Call place callee arguments)
found_call place callee arguments f l level frames here after r t fits s longest ends g =
    let q = s.1.2.2 in
    extends_by level callee f (PunctuationKind OpenParenthesis) frames here s.1.0 s.1.2.0 r t fits s.1.1 s.1.2.1
    (list_read (Arguments callee) arguments l CloseParenthesis refl refl refl (climbing_level level) (place_of here) frames s.1.2.0 q.0 after r t q.1 q.2
    (placed (λ p. Climbing (climbing_level level) (place_of here) (Call p callee arguments) frames after) place (place_of here) r t s.0 g))

pub found_co_call : (place : Place) (callee : Tree) (arguments : Trees) → Found callee → FoundList arguments → Found (CoCall place callee arguments)
found_co_call place callee arguments f l level frames here after r t fits s longest ends g =
    let q = s.1.2.2 in
    extends_by level callee f (PunctuationKind OpenBrace) frames here s.1.0 s.1.2.0 r t fits s.1.1 s.1.2.1
    (list_read (CoArguments callee) arguments l CloseBrace refl refl refl (climbing_level level) (place_of here) frames s.1.2.0 q.0 after r t q.1 q.2
    (placed (λ p. Climbing (climbing_level level) (place_of here) (CoCall p callee arguments) frames after) place (place_of here) r t s.0 g))

pub found_subscript : (place : Place) (subject : Tree) (subscripts : Trees) → Found subject → FoundList subscripts → Found (Subscript place subject subscripts)
found_subscript place subject subscripts f l level frames here after r t fits s longest ends g =
    let q = s.1.2.2 in
    extends_by level subject f (PunctuationKind OpenBracket) frames here s.1.0 s.1.2.0 r t fits s.1.1 s.1.2.1
    (list_read (Subscripts subject) subscripts l CloseBracket refl refl refl (climbing_level level) (place_of here) frames s.1.2.0 q.0 after r t q.1 q.2
    (placed (λ p. Climbing (climbing_level level) (place_of here) (Subscript p subject subscripts) frames after) place (place_of here) r t s.0 g))

section_is : (kind : SectionKind) → section_kind (Some (PunctuationKind (section_sign kind))) ≡ Some kind
section_is Between = refl
section_is Forward = refl
section_is Backward = refl

section_ends : (kind : SectionKind) → goes_on 1 (Some (PunctuationKind (section_sign kind))) ≡ false
section_ends Between = refl
section_ends Forward = refl
section_ends Backward = refl

-- the first position of a section is complete
position_step : (kind : SectionKind) (subject from : Tree) (level : ℕ) (place : Place) (frames : List OpenForm) (tokens : List Token) (r : Tree)
    (t : List Token)
    → next tokens ≡ Some (PunctuationKind (section_sign kind))
    → Leads (Starting 1 (frame level place (SectionEnd kind subject from) ∷ frames) (behind tokens)) r t
    → Leads (Closing from true (frame level place (Elements (Subscripts subject) NoTrees) ∷ frames) tokens) r t
position_step kind subject from level place frames tokens r t e g =
    one_more _ r t
    (subst (λ b. Leads (element_by b (is_closer (Subscripts subject) (next tokens)) (Subscripts subject) NoTrees level place from true frames tokens) r t)
    (sym (ap (is_separator ByComma) e ∙ no_separator kind))
    (subst (λ b. Leads (element_by false b (Subscripts subject) NoTrees level place from true frames tokens) r t) (sym (ap is_close_bracket e ∙ no_closer kind))
    (subst (λ k. Leads (section_by (Some subject) k level place from frames (behind tokens)) r t) (sym (ap section_kind e ∙ section_is kind)) g)))
  where
    no_separator : (kind : SectionKind) → is_separator ByComma (Some (PunctuationKind (section_sign kind))) ≡ false
    no_separator Between = refl
    no_separator Forward = refl
    no_separator Backward = refl

    no_closer : (kind : SectionKind) → is_close_bracket (Some (PunctuationKind (section_sign kind))) ≡ false
    no_closer Between = refl
    no_closer Forward = refl
    no_closer Backward = refl

pub found_section : (place : Place) (kind : SectionKind) (subject from to : Tree) → Found subject → Found from → Found to
    → Found (Section place kind subject from to)
found_section place kind subject from to f h b level frames here after r t fits s longest ends g =
    let close : Kind = PunctuationKind CloseBracket in
    let colon : Kind = PunctuationKind (section_sign kind) in
    let m = s.1.2.2 in
    let q = m.2.2 in
    let open_bracket : ReadingState = Starting 0 (frame (climbing_level level) (place_of here) (Elements (Subscripts subject) NoTrees) ∷ frames) s.1.2.0 in
    let first_ends : goes_on 1 (next m.0) ≡ false = ends_at 1 colon m.0 m.2.0 m.2.1 (section_ends kind) in
    extends_by level subject f (PunctuationKind OpenBracket) frames here s.1.0 s.1.2.0 r t fits s.1.1 s.1.2.1
    (first_position from h (frame (climbing_level level) (place_of here) (Elements (Subscripts subject) NoTrees) ∷ frames) s.1.2.0 m.0 r t m.1 first_ends
    (position_step kind subject from (climbing_level level) (place_of here) frames m.0 r t (next_sign colon m.0 m.2.0 m.2.1)
    (past (Starting 1 (frame (climbing_level level) (place_of here) (SectionEnd kind subject from) ∷ frames)) colon m.0 m.2.0 r t m.2.1
    (part_read 0 to b _ m.2.0 q.0 r t q.1 (ends_at 1 close q.0 after q.2 refl)
    (one_more _ r t (provided_so (is_close_bracket (next q.0)) _ r t (ap is_close_bracket (next_sign close q.0 after q.2))
    (past (Climbing (climbing_level level) (place_of here) (Section (place_of here) kind subject from to) frames) close q.0 after r t q.2
    (placed (λ p. Climbing (climbing_level level) (place_of here) (Section p kind subject from to) frames after) place (place_of here) r t s.0 g))))))))
  where
    first_position : (tree : Tree) → Found tree → (frames : List OpenForm) (here after : List Token) (r : Tree) (t : List Token)
        → Part 1 tree (Spells tree) here after → goes_on 1 (next after) ≡ false → Leads (Closing tree true frames after) r t
        → Leads (Starting 0 frames here) r t
    first_position tree f frames here after r t p e g = f 0 frames here after r t p.fits p.spells p.longest
        (goes_on_up 1 (edge tree) (le_trans p.fits (level_edge tree)) (next after) e) (climbed_to 1 (place_of here) tree frames after r t e g)

field_step_is : (level : ℕ) (place : Place) (left : Tree) (name : Name) (frames : List OpenForm) (here after : List Token) → identifier name here after
    → plain_step true level place left Dot frames here ≡ Climbing level place (Field place left name) frames after
field_step_is level place left name frames here after e = ap (plain_step true level place left Dot frames) e

pub found_field : (place : Place) (subject : Tree) (name : Name) → Found subject → Found (Field place subject name)
found_field place subject name f level frames here after r t fits s longest ends g =
    extends_by level subject f (OperatorKind Dot) frames here s.1.0 s.1.2.0 r t fits s.1.1 s.1.2.1
    (so _ _ r t (field_step_is (climbing_level level) (place_of here) subject name frames s.1.2.0 after s.1.2.2)
    (placed (λ p. Climbing (climbing_level level) (place_of here) (Field p subject name) frames after) place (place_of here) r t s.0 g))

not_dot : (operator : Operator) → 1 ≤ infix_level (Plain operator) → is_dot operator ≡ false
not_dot Dot h = absurd (omega arith)
not_dot _ h = refl

extended_infix : (level : ℕ) (place : Place) (left : Tree) (operator : Infix) (frames : List OpenForm) (tokens : List Token) → 1 ≤ infix_level operator
    → extend_step level place left (infix_kind operator) frames tokens ≡ infix_step level place left operator frames tokens
extended_infix level place left (Plain operator) frames tokens h = ap (λ b. plain_step b level place left operator frames tokens) (not_dot operator h)
extended_infix level place left (Augmented operator) frames tokens h = refl

any_part_read : (level : ℕ) (tree : Tree) → Found tree → 1 ≤ level → (frames : List OpenForm) (here after : List Token) (r : Tree) (t : List Token)
    → Part level tree (Spells tree) here after → goes_on level (next after) ≡ false → Leads (Closing tree true frames after) r t
    → Leads (Starting level frames here) r t
any_part_read zero tree f one frames here after r t p e g = absurd (omega arith)
any_part_read (suc level) tree f one frames here after r t p e g = part_read level tree f frames here after r t p e g

pub found_binary : (place : Place) (operator : Infix) (left right : Tree) → Found left → Found right → Found (Binary place operator left right)
found_binary place operator left right l h level frames here after r t fits s longest ends g =
    let present : 1 ≤ infix_level operator = s.1.2.1.0 in
    let its_level : kind_goes_on (infix_kind operator) ≡ infix_level operator = goes_on_infix operator present in
    let first : Part (left_level (kind_goes_on (infix_kind operator))) left (Spells left) here s.1.0 =
    subst (λ n. Part (left_level n) left (Spells left) here s.1.0) (sym its_level) s.1.1 in
    let below : climbing_level level ≤ kind_goes_on (infix_kind operator) = subst (λ n. climbing_level level ≤ n) (sym its_level) fits in
    extends_by level left l (infix_kind operator) frames here s.1.0 s.1.2.0 r t below first s.1.2.1.1
    (so _ _ r t (extended_infix (climbing_level level) (place_of here) left operator frames s.1.2.0 present)
    (any_part_read (right_level (infix_level operator)) right h (right_one (infix_level operator) present) _ s.1.2.0 after r t s.1.2.2 ends
    (one_more _ r t
    (placed (λ p. Climbing (climbing_level level) (place_of here) (Binary p operator left right) frames after) place (place_of here) r t s.0 g))))

pub found_to : (place : Place) (from to : Tree) → Found from → Found to → Found (To place from to Absent)
found_to place from to f b level frames here after r t fits s longest ends g =
    extends_by level from f (WordKind Words.To) frames here s.1.0 s.1.2.0 r t fits s.1.1 s.1.2.1
    (part_read 4 to b _ s.1.2.0 after r t s.1.2.2 ends
    (one_more _ r t (by_or_no (is_by (next after)) _ _ _ _ r t longest
    (placed (λ p. Climbing (climbing_level level) (place_of here) (To p from to Absent) frames after) place (place_of here) r t s.0 g))))

pub found_to_by : (place : Place) (from to by : Tree) → Found from → Found to → Found by → Found (To place from to (Present by))
found_to_by place from to by f b c level frames here after r t fits s longest ends g =
    let kind : Kind = WordKind Words.By in
    let q = s.1.2.2 in
    extends_by level from f (WordKind Words.To) frames here s.1.0 s.1.2.0 r t fits s.1.1 s.1.2.1
    (part_read 4 to b _ s.1.2.0 q.0 r t q.1 (ends_at 5 kind q.0 q.2.0 q.2.1 refl)
    (one_more _ r t (by_or_yes (is_by (next q.0)) _ _ _ _ r t (ap is_by (next_sign kind q.0 q.2.0 q.2.1))
    (past (Starting 5 (frame (climbing_level level) (place_of here) (ByOperand from to) ∷ frames)) kind q.0 q.2.0 r t q.2.1
    (part_read 4 by c _ q.2.0 after r t q.2.2 ends (one_more _ r t
    (placed (λ p. Climbing (climbing_level level) (place_of here) (To p from to (Present by)) frames after) place (place_of here) r t s.0 g)))))))

-- Forms that begin with a token of their own

pub found_prefix : (place : Place) (operator : Operator) (operand : Tree) → Found operand → Found (Prefix place operator operand)
found_prefix place operator operand f level frames here after r t fits s longest ends g =
    let i = s.1 in
    begun_at place (OperatorKind i.characters) level frames here i.behind after (Prefix place operator operand) r t i.is_here
    (begins_prefix i.characters (operator, i.others) i.first) (λ h.
    subst (λ found. Leads (operator_step (climbing_level level) place found frames i.behind) r t) (sym i.first)
    (subst (λ (tokens : List Token). Leads (Starting 12 (frame (climbing_level level) place (PrefixOperand operator) ∷ frames) tokens) r t) i.is_after
    (part_read 11 operand f _ s.0 after r t s.2 ends (one_more _ r t h)))) g

pub found_not : (place : Place) (operand : Tree) → Found operand → Found (Not place operand)
found_not place operand f level frames here after r t fits s longest ends g =
    begun_at place (WordKind Words.Not) level frames here s.0 after (Not place operand) r t s.1 refl
    (λ h. part_read 11 operand f _ s.0 after r t s.2 ends (one_more _ r t h)) g

pub found_if : (place : Place) (condition first : Tree) → Found condition → Found first → Found (If place condition first Absent)
found_if place condition first c f level frames here after r t fits s longest ends g =
    let then : Kind = WordKind Words.Then in
    let q = s.2.2 in
    let free = or_parts (is_else (next after)) (goes_on 1 (next after)) longest in
    begun_at place (WordKind Words.If) level frames here s.0 after (If place condition first Absent) r t s.1 refl (λ h.
    part_read 0 condition c _ s.0 s.2.0 r t s.2.1 (ends_at 1 then s.2.0 q.0 q.1 refl)
    (one_more _ r t (provided_so (is_then (next s.2.0)) _ r t (ap is_then (next_sign then s.2.0 q.0 q.1))
    (past (Starting 1 (frame (climbing_level level) place (Consequence condition) ∷ frames)) then s.2.0 q.0 r t q.1
    (part_read 0 first f _ q.0 after r t q.2 free.1 (one_more _ r t (part_or_no (is_else (next after)) _ _ _ _ r t free.0 h))))))) g

pub found_if_else : (place : Place) (condition first other : Tree) → Found condition → Found first → Found other
    → Found (If place condition first (Present other))
found_if_else place condition first other c f o level frames here after r t fits s longest ends g =
    let then : Kind = WordKind Words.Then in
    let else : Kind = WordKind Words.Else in
    let q = s.2.2 in
    let m = q.2.2 in
    begun_at place (WordKind Words.If) level frames here s.0 after (If place condition first (Present other)) r t s.1 refl (λ h.
    part_read 0 condition c _ s.0 s.2.0 r t s.2.1 (ends_at 1 then s.2.0 q.0 q.1 refl)
    (one_more _ r t (provided_so (is_then (next s.2.0)) _ r t (ap is_then (next_sign then s.2.0 q.0 q.1))
    (past (Starting 1 (frame (climbing_level level) place (Consequence condition) ∷ frames)) then s.2.0 q.0 r t q.1
    (part_read 0 first f _ q.0 q.2.0 r t q.2.1 (ends_at 1 else q.2.0 m.0 m.1 refl)
    (one_more _ r t (part_or_yes (is_else (next q.2.0)) _ _ _ _ r t (ap is_else (next_sign else q.2.0 m.0 m.1))
    (past (Starting 1 (frame (climbing_level level) place (Alternative condition first) ∷ frames)) else q.2.0 m.0 r t m.1
    (part_read 0 other o _ m.0 after r t m.2 longest (one_more _ r t h)))))))))) g

pub found_case : (place : Place) (subject : Tree) (clauses : Clauses) → Found subject → FoundClauses clauses → Found (Case place subject clauses)
found_case place subject clauses f c level frames here after r t fits s longest ends g =
    let of : Kind = WordKind Words.Of in
    let open_brace : Kind = PunctuationKind OpenBrace in
    let close : Kind = PunctuationKind CloseBrace in
    let q = s.2.2 in
    let m = q.2.2 in
    let inside : behind (behind s.2.0) ≡ q.2.0 = ap behind (behind_sign of s.2.0 q.0 q.1) ∙ behind_sign open_brace q.0 q.2.0 q.2.1 in
    let opened : is_open_brace (next (behind s.2.0)) ≡ true = ap (λ tokens. is_open_brace (next tokens)) (behind_sign of s.2.0 q.0 q.1)
    ∙ ap is_open_brace (next_sign open_brace q.0 q.2.0 q.2.1) in
    begun_at place (WordKind Words.Case) level frames here s.0 after (Case place subject clauses) r t s.1 refl (λ h.
    part_read 0 subject f _ s.0 s.2.0 r t s.2.1 (ends_at 1 of s.2.0 q.0 q.1 refl)
    (one_more _ r t (provided_so (is_of (next s.2.0) && is_open_brace (next (behind s.2.0))) _ r t (and_from _ _ (ap is_of (next_sign of s.2.0 q.0 q.1)) opened)
    (subst (λ (tokens : List Token). Leads (clause_step (climbing_level level) place subject NoClauses frames tokens) r t) (sym inside)
    (c (climbing_level level) place subject NoClauses frames q.2.0 m.0 r after m.1 m.2 t
    (past (Climbing (climbing_level level) place (Case place subject (appended_clauses NoClauses clauses)) frames) close m.0 after r t m.2
    (subst (λ all. Leads (Climbing (climbing_level level) place (Case place subject all) frames after) r t) (sym (all_clauses clauses)) h))))))) g

begins_loop : (kind : LoopKind) → kind_begins (WordKind (loop_word kind)) ≡ true
begins_loop Loops.While = refl
begins_loop Loops.Until = refl
begins_loop Loops.Every = refl

loop_step_is : (level : ℕ) (place : Place) (kind : LoopKind) (frames : List OpenForm) (tokens : List Token)
    → word_step level place (loop_word kind) frames tokens ≡ Starting 1 (frame level place (Control kind) ∷ frames) tokens
loop_step_is level place Loops.While frames tokens = refl
loop_step_is level place Loops.Until frames tokens = refl
loop_step_is level place Loops.Every frames tokens = refl

pub found_loop : (place : Place) (kind : LoopKind) (control : Tree) → Found control → Found (Loop place kind control Absent)
found_loop place kind control c level frames here after r t fits s longest ends g =
    let free = or_parts (is_do (next after)) (goes_on 1 (next after)) longest in
    begun_at place (WordKind (loop_word kind)) level frames here s.0 after (Loop place kind control Absent) r t s.1 (begins_loop kind) (λ h.
    so _ _ r t (loop_step_is (climbing_level level) place kind frames s.0)
    (part_read 0 control c _ s.0 after r t s.2 free.1 (one_more _ r t (part_or_no (is_do (next after)) _ _ _ _ r t free.0 h)))) g

pub found_loop_do : (place : Place) (kind : LoopKind) (control body : Tree) → Found control → Found body → Found (Loop place kind control (Present body))
found_loop_do place kind control body c b level frames here after r t fits s longest ends g =
    let do_word : Kind = WordKind Words.Do in
    let q = s.2.2 in
    begun_at place (WordKind (loop_word kind)) level frames here s.0 after (Loop place kind control (Present body)) r t s.1 (begins_loop kind) (λ h.
    so _ _ r t (loop_step_is (climbing_level level) place kind frames s.0)
    (part_read 0 control c _ s.0 s.2.0 r t s.2.1 (ends_at 1 do_word s.2.0 q.0 q.1 refl)
    (one_more _ r t (part_or_yes (is_do (next s.2.0)) _ _ _ _ r t (ap is_do (next_sign do_word s.2.0 q.0 q.1))
    (past (Starting 1 (frame (climbing_level level) place (LoopBody kind control) ∷ frames)) do_word s.2.0 q.0 r t q.1
    (part_read 0 body b _ q.0 after r t q.2 longest (one_more _ r t h))))))) g

pub found_repeat : (place : Place) (body : Tree) → Found body → Found (Repeat place body)
found_repeat place body f level frames here after r t fits s longest ends g =
    begun_at place (WordKind Words.Repeat) level frames here s.0 after (Repeat place body) r t s.1 refl
    (λ h. part_read 0 body f _ s.0 after r t s.2 longest (one_more _ r t h)) g

pub found_create : (place : Place) (body : Tree) → Found body → Found (Create place body)
found_create place body f level frames here after r t fits s longest ends g =
    begun_at place (WordKind Words.Create) level frames here s.0 after (Create place body) r t s.1 refl
    (λ h. part_read 0 body f _ s.0 after r t s.2 longest (one_more _ r t h)) g

pub found_next : (place : Place) → Found (Next place)
found_next place level frames here after r t fits s longest ends g =
    begun_at place (WordKind Words.Next) level frames here after after (Next place) r t s refl (λ h. h) g

pub found_fail : (place : Place) → Found (Fail place)
found_fail place level frames here after r t fits s longest ends g =
    begun_at place (WordKind Words.Fail) level frames here after after (Fail place) r t s refl (λ h. h) g

pub found_break : (place : Place) (value : Tree) → Found value → Found (Break place value)
found_break place value f level frames here after r t fits s longest ends g =
    begun_at place (WordKind Words.Break) level frames here s.0 after (Break place value) r t s.1 refl
    (λ h. optional_read value f _ s.0 after r t s.2 longest (one_more _ r t h)) g

pub found_return : (place : Place) (value : Tree) → Found value → Found (Return place value)
found_return place value f level frames here after r t fits s longest ends g =
    begun_at place (WordKind Words.Return) level frames here s.0 after (Return place value) r t s.1 refl
    (λ h. optional_read value f _ s.0 after r t s.2 longest (one_more _ r t h)) g

pub found_suspend : (place : Place) (value : Tree) → Found value → Found (Suspend place value Absent)
found_suspend place value f level frames here after r t fits s longest ends g =
    let free = or_parts (is_do (next after)) (goes_on 1 (next after) && is_present value) longest in
    begun_at place (WordKind Words.Suspend) level frames here s.0 after (Suspend place value Absent) r t s.1 refl (λ h.
    optional_read value f _ s.0 after r t s.2 free.1 (one_more _ r t (part_or_no (is_do (next after)) _ _ _ _ r t free.0 h))) g

pub found_suspend_do : (place : Place) (value body : Tree) → Found value → Found body → Found (Suspend place value (Present body))
found_suspend_do place value body f b level frames here after r t fits s longest ends g =
    let do_word : Kind = WordKind Words.Do in
    let q = s.2.2 in
    begun_at place (WordKind Words.Suspend) level frames here s.0 after (Suspend place value (Present body)) r t s.1 refl (λ h.
    optional_read value f _ s.0 s.2.0 r t s.2.1 (and_left (goes_on 1 (next s.2.0)) (is_present value) (ends_at 1 do_word s.2.0 q.0 q.1 refl))
    (one_more _ r t (part_or_yes (is_do (next s.2.0)) _ _ _ _ r t (ap is_do (next_sign do_word s.2.0 q.0 q.1))
    (past (Starting 1 (frame (climbing_level level) place (SuspendBody value) ∷ frames)) do_word s.2.0 q.0 r t q.1
    (part_read 0 body b _ q.0 after r t q.2 longest (one_more _ r t h)))))) g
