-- The automaton comes to the end of each meant part.
use Rattle.std.proofs.Common.{◌≡◌, ℕ, zero, suc, ◌+◌, ◌<◌, ◌≤◌, Bool, true, false, ◌&&◌, ◌||◌, nat_le, ◌⊎◌, inl, inr, List, [], ◌∷◌, Option, Some, None, is_some, refl, sym, ap, subst, ◌∙◌, arith, le_trans, codes}
use Rattle.std.proofs.lemmas.Bool.{leb-false, leb-true, lt-leb, le-leb, and_left, and_right, and_from, or_parts, or_from, and_parts, false≢true, true≢false}
use Rattle.std.proofs.lemmas.Option.{none-some, same_Some}
use Rattle.icn_tree.specs.declared.token.Kind.{Kind}
use Rattle.icn_tree.specs.declared.token.Kind.TheVariants.{Identifier as IdentifierKind, Integer as IntegerKind, Text as TextKind, Cset as CsetKind, Word as WordKind, Operator as OperatorKind, Augmented as AugmentedKind, Punctuation as PunctuationKind}
use Rattle.icn_tree.specs.declared.token.Token.{Token}
use Rattle.icn_tree.specs.declared.token.Word.{Word}
use Rattle.icn_tree.specs.declared.token.Word.TheVariants as Words
use Rattle.icn_tree.specs.declared.token.Operator.{Operator}
use Rattle.icn_tree.specs.declared.token.Punctuation.{Punctuation}
use Rattle.icn_tree.specs.declared.token.Punctuation.TheVariants.{OpenParenthesis, CloseParenthesis, OpenBracket, CloseBracket, OpenBrace, CloseBrace, Comma, Semicolon, Colon, PlusColon, MinusColon}
use Rattle.icn_tree.specs.declared.tree.Place.{Place}
use Rattle.icn_tree.specs.declared.tree.Name.{Name}
use Rattle.icn_tree.specs.declared.tree.Literal.TheVariants.{Integer, Text, Cset}
use Rattle.icn_tree.specs.declared.tree.Infix.{Infix}
use Rattle.icn_tree.specs.declared.tree.Infix.TheVariants.{Plain, Augmented}
use Rattle.icn_tree.specs.declared.tree.SectionKind.{SectionKind}
use Rattle.icn_tree.specs.declared.tree.SectionKind.TheVariants.{Between, Forward, Backward}
use Rattle.icn_tree.specs.declared.tree.LoopKind.{LoopKind}
use Rattle.icn_tree.specs.declared.tree.LoopKind.TheVariants as Loops
use Rattle.icn_tree.specs.Trees.{Tree, Trees, Clause, Clauses, Empty, Constant, Identifier, Keyword, Parentheses, Listing, Compound, Call, CoCall, Subscript, Section, Field, Prefix, Not, Binary, To, If, Case, Loop, Repeat, Create, Next, Fail, Break, Return, Suspend, Absent, Present, NoTrees, More, Default, Guarded, NoClauses, MoreClauses}
use Rattle.icn_tree.specs.declared.token.Operator.TheVariants.{Ampersand, Dot}
use Rattle.icn_tree.specs.declared.tree.Literal.{Literal}
use Rattle.icn_tree.specs.Levels.{infix_level, infix_kind, left_level, right_level, level_of, is_present, prefix_of, kind_begins, begins, kind_goes_on, goes_on, is_else, is_do, is_by}
use Rattle.icn_tree.specs.Wants.{wants}
use Rattle.icn_tree.specs.Phrases.{Phrase, next, place_of, token_at, sign}
use Rattle.icn_tree.specs.Grammar.{identifier, keyword, Part, Spells, SpellsList, SpellsMore, SpellsClause, SpellsClauses, SpellsMoreClauses, before, IsPrefix, Separator, ByComma, BySemicolon, separator, literal_kind, section_sign, loop_word}
use Rattle.icn_expr.proofs.Automaton.{Bracket, Round, Square, Curly, Arguments, CoArguments, Subscripts, PartialForm, Elements, SectionEnd, PrefixOperand, NotOperand, RightOperand, ToOperand, ByOperand, Condition, Consequence, Alternative, CaseSubject, ClauseGuard, GuardedValue, DefaultValue, Control, LoopBody, RepeatBody, CreateBody, BreakValue, ReturnValue, SuspendValue, SuspendBody, OpenForm, ReadingState, Starting, Climbing, Closing, Finished, Broken, behind, is_separator, is_close_parenthesis, is_close_bracket, is_close_brace, is_open_brace, is_colon, is_then, is_of, is_default, is_dot, section_kind, name_by, identifier_text, keyword_text, unless_broken, provided, climbing_level, frame, word_step, operator_step, mark_step, operand_step, empty_step, start_by, start_step, infix_step, plain_step, suffix_step, extend_step, climb_by, climb_step, separator_of, is_closer, bracketed, section_subject, section_by, element_by, clause_by, clause_step, clause_end, part_or, by_or, close_by, close_step, step, run}
use Rattle.icn_expr.specs.Capped.{with_last, with_last_clause}
use Rattle.icn_tree.proofs.LevelFacts.{edge, level_edge, goes_on_up, operand_edge, goes_on_infix, begins_prefix, right_one, left_up}

-- the automaton comes to this end
pub record Leads (state : ReadingState) (tree : Tree) (rest : List Token) : Type 0 where
  pub steps : ℕ
  pub is : run steps state ≡ Finished tree rest

pub one_more : (state : ReadingState) (tree : Tree) (rest : List Token) → Leads (step state) tree rest → Leads state tree rest
unfolding run
one_more state tree rest g = record { steps = suc g.steps; is = g.is }

pub climbed_to : (level : ℕ) (place : Place) (tree : Tree) (frames : List OpenForm) (after : List Token) (r : Tree) (t : List Token)
    → goes_on level (next after) ≡ false → Leads (Closing tree true frames after) r t → Leads (Climbing level place tree frames after) r t
climbed_to level place tree frames [] r t e g = one_more _ r t g
climbed_to level place tree frames (token ∷ tokens) r t e g =
    one_more _ r t (subst (λ b. Leads (climb_by b level place tree token frames tokens) r t) (sym e) g)

-- a meant tree is read from its first token on
abbrev pub Found : Tree → Type 0
Found tree = (level : ℕ) (frames : List OpenForm) (here after : List Token) (r : Tree) (t : List Token) → climbing_level level ≤ level_of tree
    → Spells tree here after → wants tree (next after) ≡ false → goes_on (edge tree) (next after) ≡ false
    → Leads (Climbing (climbing_level level) (place_of here) tree frames after) r t → Leads (Starting level frames here) r t

pub part_read : (level : ℕ) (tree : Tree) → Found tree → (frames : List OpenForm) (here after : List Token) (r : Tree) (t : List Token)
    → Part (suc level) tree (Spells tree) here after → goes_on (suc level) (next after) ≡ false → Leads (Closing tree true frames after) r t
    → Leads (Starting (suc level) frames here) r t
part_read level tree f frames here after r t p e g =
    f (suc level) frames here after r t p.fits p.spells p.longest (goes_on_up (suc level) (edge tree) (le_trans p.fits (level_edge tree)) (next after) e)
    (climbed_to (suc level) (place_of here) tree frames after r t e g)

pub is_nonempty : (tree : Tree) (here after : List Token) → Spells tree here after → is_present tree ≡ true → 1 ≤ level_of tree
is_nonempty Empty here after s e = absurd (false≢true e)
is_nonempty (Binary place operator left right) here after s e = s.1.2.1.0
is_nonempty _ here after s e = omega arith

pub present_ends : (b : Bool) → (b && true) ≡ false → b ≡ false
present_ends true e = e
present_ends false e = refl

present_read : (tree : Tree) → Found tree → is_present tree ≡ true → (frames : List OpenForm) (here after : List Token) (r : Tree) (t : List Token)
    → Part 0 tree (Spells tree) here after → goes_on 1 (next after) ≡ false → Leads (Closing tree true frames after) r t → Leads (Starting 0 frames here) r t
present_read tree f present frames here after r t p e g =
    let one : 1 ≤ level_of tree = is_nonempty tree here after p.spells present in
    f 0 frames here after r t one p.spells p.longest (goes_on_up 1 (edge tree) (le_trans one (level_edge tree)) (next after) e)
    (climbed_to 1 (place_of here) tree frames after r t e g)

nothing_begins : (frames : List OpenForm) (here : List Token) (r : Tree) (t : List Token) → begins (next here) ≡ false
    → Leads (Closing Empty false frames here) r t → Leads (Starting 0 frames here) r t
nothing_begins frames [] r t e g = one_more _ r t g
nothing_begins frames (token ∷ tokens) r t e g = one_more _ r t (subst (λ b. Leads (start_by b 0 token frames tokens) r t) (sym e) g)

pub optional_read : (tree : Tree) → Found tree → (frames : List OpenForm) (here after : List Token) (r : Tree) (t : List Token)
    → Part 0 tree (Spells tree) here after → (goes_on 1 (next after) && is_present tree) ≡ false → Leads (Closing tree (is_present tree) frames after) r t
    → Leads (Starting 0 frames here) r t
optional_read Empty f frames here after r t p e g = nothing_begins frames here r t (ap (λ tokens. begins (next tokens)) p.spells ∙ p.longest)
    (subst (λ tokens. Leads (Closing Empty false frames tokens) r t) (sym p.spells) g)
optional_read tree f frames here after r t p e g = present_read tree f refl frames here after r t p (present_ends (goes_on 1 (next after)) e) g

-- signs
pub behind_sign : (kind : Kind) (here after : List Token) → sign kind here after → behind here ≡ after
behind_sign kind here after s = ap behind s.1

pub next_sign : (kind : Kind) (here after : List Token) → sign kind here after → next here ≡ Some kind
next_sign kind here after s = ap next s.1

pub ends_at : (level : ℕ) (kind : Kind) (here after : List Token) → sign kind here after → goes_on level (Some kind) ≡ false → goes_on level (next here) ≡ false
ends_at level kind here after s e = ap (goes_on level) (next_sign kind here after s) ∙ e

-- a state past a sign
pub past : (P : List Token → ReadingState) (kind : Kind) (here after : List Token) (r : Tree) (t : List Token) → sign kind here after → Leads (P after) r t
    → Leads (P (behind here)) r t
past P kind here after r t s g = subst (λ tokens. Leads (P tokens) r t) (sym (behind_sign kind here after s)) g

pub provided_so : (b : Bool) (state : ReadingState) (r : Tree) (t : List Token) → b ≡ true → Leads state r t → Leads (provided b state) r t
provided_so b state r t e g = subst (λ c. Leads (provided c state) r t) (sym e) g

pub part_or_no : (b : Bool) (more : OpenForm) (tree : Tree) (frames : List OpenForm) (tokens : List Token) (r : Tree) (t : List Token) → b ≡ false
    → Leads (Climbing more.level more.place tree frames tokens) r t → Leads (part_or b more tree frames tokens) r t
part_or_no b more tree frames tokens r t e g = subst (λ c. Leads (part_or c more tree frames tokens) r t) (sym e) g

pub part_or_yes : (b : Bool) (more : OpenForm) (tree : Tree) (frames : List OpenForm) (tokens : List Token) (r : Tree) (t : List Token) → b ≡ true
    → Leads (Starting 1 (more ∷ frames) (behind tokens)) r t → Leads (part_or b more tree frames tokens) r t
part_or_yes b more tree frames tokens r t e g = subst (λ c. Leads (part_or c more tree frames tokens) r t) (sym e) g

pub by_or_no : (b : Bool) (more : OpenForm) (tree : Tree) (frames : List OpenForm) (tokens : List Token) (r : Tree) (t : List Token) → b ≡ false
    → Leads (Climbing more.level more.place tree frames tokens) r t → Leads (by_or b more tree frames tokens) r t
by_or_no b more tree frames tokens r t e g = subst (λ c. Leads (by_or c more tree frames tokens) r t) (sym e) g

pub by_or_yes : (b : Bool) (more : OpenForm) (tree : Tree) (frames : List OpenForm) (tokens : List Token) (r : Tree) (t : List Token) → b ≡ true
    → Leads (Starting 5 (more ∷ frames) (behind tokens)) r t → Leads (by_or b more tree frames tokens) r t
by_or_yes b more tree frames tokens r t e g = subst (λ c. Leads (by_or c more tree frames tokens) r t) (sym e) g

-- a form that begins with a token of its own
begun : (place : Place) (kind : Kind) (level : ℕ) (frames : List OpenForm) (rest : List Token) (r : Tree) (t : List Token) → kind_begins kind ≡ true
    → Leads (operand_step (climbing_level level) place kind frames rest) r t → Leads (Starting level frames (token_at place kind ∷ rest)) r t
begun place kind level frames rest r t b g = one_more _ r t (subst (λ c. Leads (start_by c level (token_at place kind) frames rest) r t) (sym b) g)

pub begun_at : (place : Place) (kind : Kind) (level : ℕ) (frames : List OpenForm) (here rest after : List Token) (tree : Tree) (r : Tree) (t : List Token)
    → here ≡ token_at place kind ∷ rest → kind_begins kind ≡ true
    → (Leads (Climbing (climbing_level level) place tree frames after) r t → Leads (operand_step (climbing_level level) place kind frames rest) r t)
    → Leads (Climbing (climbing_level level) (place_of here) tree frames after) r t → Leads (Starting level frames here) r t
begun_at place kind level frames here rest after tree r t e b f =
    subst (λ (tokens : List Token). Leads (Climbing (climbing_level level) (place_of tokens) tree frames after) r t → Leads (Starting level frames tokens) r t)
    (sym e) (λ g. begun place kind level frames rest r t b (f g))

-- Lists

abbrev pub appended : Trees → Trees → Trees
appended done NoTrees = done
appended done (More tree trees) = appended (with_last done tree) trees

abbrev pub FoundList : Trees → Type 0
FoundList trees = (bracket : Bracket) (done : Trees) (level : ℕ) (place : Place) (frames : List OpenForm) (here after : List Token) (r : Tree) (t : List Token)
    → SpellsList (separator_of bracket) trees here after
    → is_separator (separator_of bracket) (next after) ≡ false → is_closer bracket (next after) ≡ true → goes_on 1 (next after) ≡ false
    → Leads (Climbing level place (bracketed bracket place (appended done trees)) frames (behind after)) r t
    → Leads (Starting 0 (frame level place (Elements bracket done) ∷ frames) here) r t

abbrev pub FoundMore : Trees → Type 0
FoundMore trees =
    (bracket : Bracket) (done : Trees) (tree : Tree) (present : Bool) (level : ℕ) (place : Place) (frames : List OpenForm) (here after : List Token)
    (r : Tree) (t : List Token) → SpellsMore (separator_of bracket) trees here after
    → is_separator (separator_of bracket) (next after) ≡ false → is_closer bracket (next after) ≡ true → goes_on 1 (next after) ≡ false
    → Leads (Climbing level place (bracketed bracket place (appended (with_last done tree) trees)) frames (behind after)) r t
    → Leads (Closing tree present (frame level place (Elements bracket done) ∷ frames) here) r t

separates : (by : Separator) → is_separator by (Some (PunctuationKind (separator by))) ≡ true
separates ByComma = refl
separates BySemicolon = refl

separator_ends : (by : Separator) → goes_on 1 (Some (PunctuationKind (separator by))) ≡ false
separator_ends ByComma = refl
separator_ends BySemicolon = refl

-- what stands before further elements
pub more_next : (P : Option Kind → Type 0) (by : Separator) (trees : Trees) (here after : List Token) → SpellsMore by trees here after → P (next after)
    → P (Some (PunctuationKind (separator by))) → P (next here)
more_next P by NoTrees here after s p q = subst (λ tokens. P (next tokens)) (sym s) p
more_next P by (More tree trees) here after s p q = subst P (sym (next_sign (PunctuationKind (separator by)) here s.0 s.1)) q

pub list_found : (tree : Tree) (trees : Trees) → Found tree → FoundMore trees → FoundList (More tree trees)
list_found tree trees f m bracket done level place frames here after r t s e c ends g =
    let first_ends : goes_on 1 (next s.0)
    ≡ false = more_next (λ kind. goes_on 1 kind ≡ false) (separator_of bracket) trees s.0 after s.2 ends (separator_ends (separator_of bracket)) in
    optional_read tree f (frame level place (Elements bracket done) ∷ frames) here s.0 r t s.1 (and_left (goes_on 1 (next s.0)) (is_present tree) first_ends)
    (m bracket done tree (is_present tree) level place frames s.0 after r t s.2 e c ends g)

closed_list : (bracket : Bracket) (done : Trees) (level : ℕ) (place : Place) (tree : Tree) (present : Bool) (frames : List OpenForm) (tokens : List Token)
    (r : Tree) (t : List Token) → is_separator (separator_of bracket) (next tokens) ≡ false → is_closer bracket (next tokens) ≡ true
    → Leads (Climbing level place (bracketed bracket place (with_last done tree)) frames (behind tokens)) r t
    → Leads (Closing tree present (frame level place (Elements bracket done) ∷ frames) tokens) r t
closed_list bracket done level place tree present frames tokens r t e c g =
    one_more _ r t (subst (λ b. Leads (element_by b (is_closer bracket (next tokens)) bracket done level place tree present frames tokens) r t) (sym e)
    (subst (λ b. Leads (element_by false b bracket done level place tree present frames tokens) r t) (sym c) g))

pub no_more_found : FoundMore NoTrees
no_more_found bracket done tree present level place frames here after r t s e c ends g =
    subst (λ tokens. Leads (Closing tree present (frame level place (Elements bracket done) ∷ frames) tokens) r t) (sym s)
    (closed_list bracket done level place tree present frames after r t e c g)

pub more_found : (next_tree : Tree) (trees : Trees) → FoundList (More next_tree trees) → FoundMore (More next_tree trees)
more_found next_tree trees l bracket done tree present level place frames here after r t s e c ends g =
    let kind : Kind = PunctuationKind (separator (separator_of bracket)) in
    let separated : is_separator (separator_of bracket) (next here) ≡ true = ap (is_separator (separator_of bracket)) (next_sign kind here s.0 s.1)
    ∙ separates (separator_of bracket) in
    one_more _ r t (subst (λ b. Leads (element_by b (is_closer bracket (next here)) bracket done level place tree present frames here) r t) (sym separated)
    (past (λ tokens. Starting 0 (frame level place (Elements bracket (with_last done tree)) ∷ frames) tokens) kind here s.0 r t s.1
    (l bracket (with_last done tree) level place frames s.0 after r t s.2 e c ends g)))

-- Clauses

abbrev pub appended_clauses : Clauses → Clauses → Clauses
appended_clauses done NoClauses = done
appended_clauses done (MoreClauses clause others) = appended_clauses (with_last_clause done clause) others

-- a clause is read, and what follows it goes on
abbrev pub FoundClause : Clause → Type 0
FoundClause clause =
    (level : ℕ) (place : Place) (subject : Tree) (done : Clauses) (frames : List OpenForm) (here after : List Token) (r : Tree) (t : List Token)
    → SpellsClause clause here after → goes_on 1 (next after) ≡ false
    → Leads (clause_end (is_separator BySemicolon (next after)) level place subject (with_last_clause done clause) frames after) r t
    → Leads (clause_step level place subject done frames here) r t

abbrev pub FoundClauses : Clauses → Type 0
FoundClauses clauses =
    (level : ℕ) (place : Place) (subject : Tree) (done : Clauses) (frames : List OpenForm) (here after : List Token) (r : Tree) (t : List Token)
    → SpellsClauses clauses here after → sign (PunctuationKind CloseBrace) after t
    → (rest : List Token) → Leads (Climbing level place (Case place subject (appended_clauses done clauses)) frames (behind after)) r rest
    → Leads (clause_step level place subject done frames here) r rest

abbrev pub FoundMoreClauses : Clauses → Type 0
FoundMoreClauses clauses =
    (level : ℕ) (place : Place) (subject : Tree) (done : Clauses) (frames : List OpenForm) (here after : List Token) (r : Tree) (t : List Token)
    → SpellsMoreClauses clauses here after → sign (PunctuationKind CloseBrace) after t
    → (rest : List Token) → Leads (Climbing level place (Case place subject (appended_clauses done clauses)) frames (behind after)) r rest
    → Leads (clause_end (is_separator BySemicolon (next here)) level place subject done frames here) r rest

begins_not_default : (kind : Option Kind) → begins kind ≡ true → is_default kind ≡ false
begins_not_default (Some (WordKind Words.Default)) e = absurd (false≢true e)
begins_not_default _ e = refl

pub default_found : (at : Place) (value : Tree) → Found value → FoundClause (Default at value)
default_found at value f level place subject done frames here after r t s ends g =
    subst (λ tokens. Leads (clause_step level place subject done frames tokens) r t) (sym s.1)
    (provided_so (is_colon (next s.0)) _ r t (ap is_colon (next_sign (PunctuationKind Colon) s.0 s.2.0 s.2.1))
    (past (λ tokens. Starting 1 (frame level place (DefaultValue subject done at) ∷ frames) tokens) (PunctuationKind Colon) s.0 s.2.0 r t s.2.1
    (part_read 0 value f _ s.2.0 after r t s.2.2 ends (one_more _ r t g))))

pub guarded_found : (at : Place) (guard value : Tree) → Found guard → Found value
    → (begins_guard : (here after : List Token) → Part 1 guard (Spells guard) here after → goes_on 1 (next after) ≡ false → begins (next here) ≡ true)
    → FoundClause (Guarded at guard value)
guarded_found at guard value h f begins_guard level place subject done frames here after r t s ends g =
    let colon : Kind = PunctuationKind Colon in
    let guard_ends : goes_on 1 (next s.1.0) ≡ false = ends_at 1 colon s.1.0 s.1.2.0 s.1.2.1 refl in
    subst (λ b. Leads (clause_by b level place subject done frames here) r t) (sym (begins_not_default (next here) (begins_guard here s.1.0 s.1.1 guard_ends)))
    (part_read 0 guard h _ here s.1.0 r t s.1.1 guard_ends
    (one_more _ r t (provided_so (is_colon (next s.1.0)) _ r t (ap is_colon (next_sign colon s.1.0 s.1.2.0 s.1.2.1))
    (past (λ tokens. Starting 1 (frame level place (GuardedValue subject done (place_of here) guard) ∷ frames) tokens) colon s.1.0 s.1.2.0 r t s.1.2.1
    (part_read 0 value f _ s.1.2.0 after r t s.1.2.2 ends (one_more _ r t
    (subst (λ (p : Place). Leads (clause_end (is_separator BySemicolon (next after)) level place subject
    (with_last_clause done (Guarded p guard value)) frames after) r t) (sym s.0) g)))))))

more_clauses_next : (P : Option Kind → Type 0) (further : Clauses) (here after : List Token) → SpellsMoreClauses further here after → P (next after)
    → P (Some (PunctuationKind Semicolon)) → P (next here)
more_clauses_next P NoClauses here after s p q = subst (λ tokens. P (next tokens)) (sym s) p
more_clauses_next P (MoreClauses clause others) here after s p q = subst P (sym (next_sign (PunctuationKind Semicolon) here s.0 s.1)) q

pub clauses_found : (clause : Clause) (further : Clauses) → FoundClause clause → FoundMoreClauses further → FoundClauses (MoreClauses clause further)
clauses_found clause further f m level place subject done frames here after r t s close rest g =
    let brace : Kind = PunctuationKind CloseBrace in
    f level place subject done frames here s.0 r rest s.1
    (more_clauses_next (λ kind. goes_on 1 kind ≡ false) further s.0 after s.2 (ends_at 1 brace after t close refl) refl)
    (m level place subject (with_last_clause done clause) frames s.0 after r t s.2 close rest g)

pub no_more_clauses_found : FoundMoreClauses NoClauses
no_more_clauses_found level place subject done frames here after r t s close rest g =
    let brace : Kind = PunctuationKind CloseBrace in
    subst (λ tokens. Leads (clause_end (is_separator BySemicolon (next tokens)) level place subject done frames tokens) r rest) (sym s)
    (subst (λ b. Leads (clause_end b level place subject done frames after) r rest) (sym (ap (is_separator BySemicolon) (next_sign brace after t close)))
    (provided_so (is_close_brace (next after)) _ r rest (ap is_close_brace (next_sign brace after t close)) g))

pub more_clauses_found : (clause : Clause) (further : Clauses) → FoundClauses (MoreClauses clause further) → FoundMoreClauses (MoreClauses clause further)
more_clauses_found clause further f level place subject done frames here after r t s close rest g =
    let semicolon : Kind = PunctuationKind Semicolon in
    subst (λ b. Leads (clause_end b level place subject done frames here) r rest) (sym (ap (is_separator BySemicolon) (next_sign semicolon here s.0 s.1)))
    (subst (λ tokens. Leads (clause_step level place subject done frames tokens) r rest) (sym (behind_sign semicolon here s.0 s.1))
    (f level place subject done frames s.0 after r t s.2 close rest g))
