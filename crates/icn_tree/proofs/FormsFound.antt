-- The reader finds each form.
use Rattle.std.proofs.Common.{◌≡◌, ℕ, ◌≤◌, true, false, ◌&&◌, inl, inr, List, ◌∷◌, Some, None, refl, sym, ap, subst, ◌∙◌, arith, le_trans}
use Rattle.std.proofs.lemmas.Bool.{lt-leb, le-leb, and_left, or_parts}
use Rattle.icn_tree.specs.declared.token.Kind.{Kind}
use Rattle.icn_tree.specs.declared.token.Kind.TheVariants.{Identifier as IdentifierKind, Word as WordKind, Operator as OperatorKind, Punctuation as PunctuationKind}
use Rattle.icn_tree.specs.declared.token.Token.{Token}
use Rattle.icn_tree.specs.declared.token.Word.TheVariants as Words
use Rattle.icn_tree.specs.declared.token.Operator.{Operator}
use Rattle.icn_tree.specs.declared.token.Operator.TheVariants.{Ampersand, Dot}
use Rattle.icn_tree.specs.declared.token.Punctuation.{Punctuation}
use Rattle.icn_tree.specs.declared.token.Punctuation.TheVariants.{OpenParenthesis, CloseParenthesis, OpenBracket, CloseBracket, OpenBrace, CloseBrace}
use Rattle.icn_tree.specs.declared.tree.Place.{Place}
use Rattle.icn_tree.specs.declared.tree.Name.{Name}
use Rattle.icn_tree.specs.declared.tree.Literal.{Literal}
use Rattle.icn_tree.specs.declared.tree.Literal.TheVariants.{Integer, Text, Cset}
use Rattle.icn_tree.specs.declared.tree.Infix.{Infix}
use Rattle.icn_tree.specs.declared.tree.Infix.TheVariants.{Plain, Augmented}
use Rattle.icn_tree.specs.declared.tree.SectionKind.{SectionKind}
use Rattle.icn_tree.specs.declared.tree.SectionKind.TheVariants.{Between, Forward, Backward}
use Rattle.icn_tree.specs.declared.tree.LoopKind.{LoopKind}
use Rattle.icn_tree.specs.declared.tree.LoopKind.TheVariants as Loops
use Rattle.icn_tree.specs.Trees.{Tree, Trees, Clauses, Constant, Identifier, Keyword, Parentheses, Listing, Compound, Call, CoCall, Subscript, Section, Field, Prefix, Not, Binary, To, If, Case, Loop, Repeat, Create, Next, Fail, Break, Return, Suspend, Absent, Present, More}
use Rattle.icn_tree.specs.Levels.{infix_level, infix_kind, left_level, right_level, is_present, kind_begins, kind_goes_on, goes_on, is_else, is_do, is_by}
use Rattle.icn_tree.specs.Phrases.{next, place_of, token_at, sign}
use Rattle.icn_tree.specs.Grammar.{keyword, Part, Spells, Separator, ByComma, BySemicolon, literal_kind, section_sign, loop_word}
use Rattle.icn_tree.proofs.Reading.{Readers, name_here, behind, operand, operator_operand, word_operand, loop_operand, start, infix_extended, operator_extended, extended, bracket_extended, climb_by, climb_step, is_separator, section_kind, clauses_read}
use Rattle.icn_tree.proofs.ReaderResults.{Gives, gives_at_once, gives_then, gives_same, climbs}
use Rattle.icn_tree.proofs.LevelFacts.{right_one, left_up, edge, operand_edge, not_dot, goes_on_infix, begins_prefix}
use Rattle.icn_tree.proofs.ExpressionsFound.{Found, FoundList, FoundMore, FoundClauses, begun_at, part_read, part_before, optional_read, behind_sign, next_sign, ends_at, behind_read, maybe_absent, maybe_present, more_next}

begins_literal : (literal : Literal) → kind_begins (literal_kind literal) ≡ true
begins_literal (Integer n) = refl
begins_literal (Text bytes) = refl
begins_literal (Cset set) = refl

constant_operand : (self : Readers) (place : Place) (literal : Literal) (tokens : List Token)
    → operand self place (literal_kind literal) tokens ≡ Some (Constant place literal, tokens)
constant_operand self place (Integer n) tokens = refl
constant_operand self place (Text bytes) tokens = refl
constant_operand self place (Cset set) tokens = refl

pub found_constant : (place : Place) (literal : Literal) → Found (Constant place literal)
found_constant place literal level here after result one fits s longest ends g =
    begun_at place (literal_kind literal) level here after (Constant place literal) after result s (begins_literal literal)
    (gives_at_once _ _ (λ self. constant_operand self place literal after)) g

pub found_identifier : (name : Name) → Found (Identifier name)
found_identifier name level here after result one fits s longest ends g =
    begun_at name.place (IdentifierKind name.text) level here after (Identifier name) after result s refl (gives_at_once _ _ (λ self. refl)) g

keyword_named : (name : Name) (here after : List Token) → keyword name here after → (name_here here ≡ name) × (behind here ≡ after)
keyword_named name here after (inl e) = (ap name_here e, ap behind e)
keyword_named name here after (inr s) = (ap name_here s.1 ∙ ap (λ text. record { text = text; place = name.place }) (sym s.0), ap behind s.1)

pub found_keyword : (place : Place) (name : Name) → Found (Keyword place name)
found_keyword place name level here after result one fits s longest ends g =
    let named = keyword_named name s.0 after s.2 in
    begun_at place (OperatorKind Ampersand) level here s.0 (Keyword place name) after result s.1 refl
    (gives_at_once _ _ (λ self. ap (λ n. Some (Keyword place n, behind s.0)) named.0 ∙ ap (λ tokens. Some (Keyword place name, tokens)) named.1)) g

-- a list in brackets of its own
closed : (punctuation : Punctuation) (here after : List Token) (by : Separator) → sign (PunctuationKind punctuation) here after
    → is_separator by (Some (PunctuationKind punctuation)) ≡ false → is_separator by (next here) ≡ false
closed punctuation here after by s e = ap (is_separator by) (next_sign (PunctuationKind punctuation) here after s) ∙ e

pub found_parentheses : (place : Place) (elements : Trees) → FoundList elements → Found (Parentheses place elements)
found_parentheses place elements f level here after result one fits s longest ends g =
    let close : Kind = PunctuationKind CloseParenthesis in
    begun_at place (PunctuationKind OpenParenthesis) level here s.0 (Parentheses place elements) after result s.1 refl
    (gives_then _ _ (f ByComma s.0 s.2.0 s.2.1 (closed CloseParenthesis s.2.0 after ByComma s.2.2 refl) (ends_at 1 close s.2.0 after s.2.2 refl))
    (gives_at_once _ _ (λ self. ap (λ tokens. Some (Parentheses place elements, tokens)) (behind_sign close s.2.0 after s.2.2)))) g

pub found_listing : (place : Place) (elements : Trees) → FoundList elements → Found (Listing place elements)
found_listing place elements f level here after result one fits s longest ends g =
    let close : Kind = PunctuationKind CloseBracket in
    begun_at place (PunctuationKind OpenBracket) level here s.0 (Listing place elements) after result s.1 refl
    (gives_then _ _ (f ByComma s.0 s.2.0 s.2.1 (closed CloseBracket s.2.0 after ByComma s.2.2 refl) (ends_at 1 close s.2.0 after s.2.2 refl))
    (gives_at_once _ _ (λ self. ap (λ tokens. Some (Listing place elements, tokens)) (behind_sign close s.2.0 after s.2.2)))) g

pub found_compound : (place : Place) (exprs : Trees) → FoundList exprs → Found (Compound place exprs)
found_compound place exprs f level here after result one fits s longest ends g =
    let close : Kind = PunctuationKind CloseBrace in
    begun_at place (PunctuationKind OpenBrace) level here s.0 (Compound place exprs) after result s.1 refl
    (gives_then _ _ (f BySemicolon s.0 s.2.0 s.2.1 (closed CloseBrace s.2.0 after BySemicolon s.2.2 refl) (ends_at 1 close s.2.0 after s.2.2 refl))
    (gives_at_once _ _ (λ self. ap (λ tokens. Some (Compound place exprs, tokens)) (behind_sign close s.2.0 after s.2.2)))) g

-- Forms that go on with an operand

climbed : (level : ℕ) (place at : Place) (left : Tree) (kind : Kind) (tokens : List Token) (result : Tree × List Token) → level ≤ kind_goes_on kind
    → Gives (λ self. extended self level place left kind tokens) result
    → Gives (λ self. climb_step self level place left (token_at at kind ∷ tokens)) result
climbed level place at left kind tokens result h g =
    gives_same (λ self. ap (λ b. climb_by b self level place left (token_at at kind) tokens) (le-leb level (kind_goes_on kind) h)) g

extends_by : (level : ℕ) (left : Tree) → Found left → (kind : Kind) (here middle after : List Token) (result : Tree × List Token) → 1 ≤ level
    → level ≤ kind_goes_on kind
    → Part (left_level (kind_goes_on kind)) left (Spells left) here middle → sign kind middle after
    → Gives (λ self. extended self level (place_of here) left kind after) result → Gives (λ self. start self level here) result
extends_by level left f kind here middle after result one h p s g =
    let ends : goes_on (edge left) (next middle) ≡ false = ap (goes_on (edge left)) (next_sign kind middle after s)
    ∙ lt-leb (edge left) (kind_goes_on kind) (operand_edge (kind_goes_on kind) left p.fits) in
    let step : Gives (λ self. climb_step self level (place_of here) left middle) result = subst (λ tokens.
    Gives (λ self. climb_step self level (place_of here) left tokens) result) (sym s.1) (climbed level (place_of here) s.0 left kind after result h g) in
    f level here middle result one (le_trans h (left_up (kind_goes_on kind) left p.fits)) p.spells p.longest ends
    (climbs level (place_of here) left middle result step)

resumed : (level : ℕ) (at : Place) (make : Place → Tree) (place other : Place) (after tokens : List Token) (result : Tree × List Token) → other ≡ place
    → tokens ≡ after → Gives (λ self. self.climb level at (make place) after) result
    → Gives (λ self. self.climb level at (make other) tokens) result
resumed level at make place other after tokens result e f g =
    subst (λ (p : Place). Gives (λ self. self.climb level at (make p) tokens) result) (sym e)
    (subst (λ (t : List Token). Gives (λ self. self.climb level at (make place) t) result) (sym f) g)

pub found_call : (place : Place) (callee : Tree) (arguments : Trees) → Found callee → FoundList arguments → Found (Call place callee arguments)
found_call place callee arguments f l level here after result one fits s longest ends g =
    let close : Kind = PunctuationKind CloseParenthesis in
    let r = s.1.2.2 in
    extends_by level callee f (PunctuationKind OpenParenthesis) here s.1.0 s.1.2.0 result one fits s.1.1 s.1.2.1
    (gives_then _ _ (l ByComma s.1.2.0 r.0 r.1 (closed CloseParenthesis r.0 after ByComma r.2 refl) (ends_at 1 close r.0 after r.2 refl))
    (resumed level (place_of here) (λ p. Call p callee arguments) place (place_of here) after (behind r.0) result s.0 (behind_sign close r.0 after r.2) g))

pub found_co_call : (place : Place) (callee : Tree) (arguments : Trees) → Found callee → FoundList arguments → Found (CoCall place callee arguments)
found_co_call place callee arguments f l level here after result one fits s longest ends g =
    let close : Kind = PunctuationKind CloseBrace in
    let r = s.1.2.2 in
    extends_by level callee f (PunctuationKind OpenBrace) here s.1.0 s.1.2.0 result one fits s.1.1 s.1.2.1
    (gives_then _ _ (l ByComma s.1.2.0 r.0 r.1 (closed CloseBrace r.0 after ByComma r.2 refl) (ends_at 1 close r.0 after r.2 refl))
    (resumed level (place_of here) (λ p. CoCall p callee arguments) place (place_of here) after (behind r.0) result s.0 (behind_sign close r.0 after r.2) g))

no_section : (kind : Kind) (here after : List Token) → sign kind here after → section_kind (Some kind) ≡ None → section_kind (next here) ≡ None
no_section kind here after s e = ap section_kind (next_sign kind here after s) ∙ e

pub found_subscript : (place : Place) (subject first : Tree) (others : Trees) → Found subject → Found first → FoundMore others
    → Found (Subscript place subject (More first others))
found_subscript place subject first others f h m level here after result one fits s longest ends g =
    let close : Kind = PunctuationKind CloseBracket in
    let r = s.1.2.2 in
    let close_ends : goes_on 1 (next r.0) ≡ false = ends_at 1 close r.0 after r.2 refl in
    let first_ends : goes_on 1 (next r.1.0) ≡ false = more_next (λ kind. goes_on 1 kind ≡ false) ByComma others r.1.0 r.0 r.1.2 close_ends refl in
    let no_range : section_kind (next r.1.0)
    ≡ None = more_next (λ kind. section_kind kind ≡ None) ByComma others r.1.0 r.0 r.1.2 (no_section close r.0 after r.2 refl) refl in
    extends_by level subject f (PunctuationKind OpenBracket) here s.1.0 s.1.2.0 result one fits s.1.1 s.1.2.1
    (gives_then _ _ (optional_read first h s.1.2.0 r.1.0 r.1.1 (and_left (goes_on 1 (next r.1.0)) (is_present first) first_ends))
    (gives_same (λ self. ap (λ k. bracket_extended self level (place_of here) subject (first, r.1.0) k) no_range)
    (gives_then _ _ (m ByComma r.1.0 r.0 r.1.2 (closed CloseBracket r.0 after ByComma r.2 refl) close_ends)
    (resumed level (place_of here) (λ p. Subscript p subject (More first others)) place (place_of here) after (behind r.0) result s.0
    (behind_sign close r.0 after r.2) g))))

section_is : (kind : SectionKind) → section_kind (Some (PunctuationKind (section_sign kind))) ≡ Some kind
section_is Between = refl
section_is Forward = refl
section_is Backward = refl

section_ends : (kind : SectionKind) → goes_on 1 (Some (PunctuationKind (section_sign kind))) ≡ false
section_ends Between = refl
section_ends Forward = refl
section_ends Backward = refl

pub found_section : (place : Place) (kind : SectionKind) (subject from to : Tree) → Found subject → Found from → Found to
    → Found (Section place kind subject from to)
found_section place kind subject from to f h t level here after result one fits s longest ends g =
    let close : Kind = PunctuationKind CloseBracket in
    let colon : Kind = PunctuationKind (section_sign kind) in
    let r = s.1.2.2 in
    let q = r.2.2 in
    let first_ends : goes_on 1 (next r.0) ≡ false = ends_at 1 colon r.0 r.2.0 r.2.1 (section_ends kind) in
    let first : Part 0 from (Spells from) s.1.2.0 r.0 = record { fits = omega arith; spells = r.1.spells; longest = r.1.longest } in
    extends_by level subject f (PunctuationKind OpenBracket) here s.1.0 s.1.2.0 result one fits s.1.1 s.1.2.1
    (gives_then _ _ (optional_read from h s.1.2.0 r.0 first (and_left (goes_on 1 (next r.0)) (is_present from) first_ends))
    (gives_same (λ self. ap (λ k. bracket_extended self level (place_of here) subject (from, r.0) k) (ap section_kind (next_sign colon r.0 r.2.0 r.2.1)
    ∙ section_is kind))
    (gives_then _ _ (behind_read 1 colon r.0 r.2.0 (to, q.0) r.2.1 (part_before 1 to t (omega arith) close r.2.0 q.0 after q.1 q.2 refl))
    (resumed level (place_of here) (λ p. Section p kind subject from to) place (place_of here) after (behind q.0) result s.0
    (behind_sign close q.0 after q.2) g))))

pub found_field : (place : Place) (subject : Tree) (name : Name) → Found subject → Found (Field place subject name)
found_field place subject name f level here after result one fits s longest ends g =
    let r = s.1.2.2 in
    extends_by level subject f (OperatorKind Dot) here s.1.0 s.1.2.0 result one fits s.1.1 s.1.2.1
    (subst (λ (t : List Token). Gives (λ self. self.climb level (place_of here) (Field (place_of here) subject (name_here t)) (behind t)) result) (sym r)
    (resumed level (place_of here) (λ p. Field p subject name) place (place_of here) after after result s.0 refl g))

extended_infix : (self : Readers) (level : ℕ) (place : Place) (left : Tree) (operator : Infix) (tokens : List Token) → 1 ≤ infix_level operator
    → extended self level place left (infix_kind operator) tokens ≡ infix_extended self level place left operator tokens
extended_infix self level place left (Plain operator) tokens h = ap (λ b. operator_extended b self level place left operator tokens) (not_dot operator h)
extended_infix self level place left (Augmented operator) tokens h = refl

pub found_binary : (place : Place) (operator : Infix) (left right : Tree) → Found left → Found right → Found (Binary place operator left right)
found_binary place operator left right l r level here after result one fits s longest ends g =
    let present : 1 ≤ infix_level operator = s.1.2.1.0 in
    let its_level : kind_goes_on (infix_kind operator) ≡ infix_level operator = goes_on_infix operator present in
    let first : Part (left_level (kind_goes_on (infix_kind operator))) left (Spells left) here s.1.0 =
    subst (λ n. Part (left_level n) left (Spells left) here s.1.0) (sym its_level) s.1.1 in
    let below : level ≤ kind_goes_on (infix_kind operator) = subst (λ n. level ≤ n) (sym its_level) fits in
    extends_by level left l (infix_kind operator) here s.1.0 s.1.2.0 result one below first s.1.2.1.1
    (gives_same (λ self. extended_infix self level (place_of here) left operator s.1.2.0 present)
    (gives_then _ _ (part_read (right_level (infix_level operator)) right r (right_one (infix_level operator) present) s.1.2.0 after s.1.2.2 ends)
    (resumed level (place_of here) (λ p. Binary p operator left right) place (place_of here) after after result s.0 refl g)))

pub found_to : (place : Place) (from to : Tree) → Found from → Found to → Found (To place from to Absent)
found_to place from to f t level here after result one fits s longest ends g =
    extends_by level from f (WordKind Words.To) here s.1.0 s.1.2.0 result one fits s.1.1 s.1.2.1
    (gives_then _ _ (part_read 5 to t (omega arith) s.1.2.0 after s.1.2.2 ends)
    (gives_then _ _ (maybe_absent (is_by (next after)) 5 after longest)
    (resumed level (place_of here) (λ p. To p from to Absent) place (place_of here) after after result s.0 refl g)))

pub found_to_by : (place : Place) (from to by : Tree) → Found from → Found to → Found by → Found (To place from to (Present by))
found_to_by place from to by f t b level here after result one fits s longest ends g =
    let kind : Kind = WordKind Words.By in
    let r = s.1.2.2 in
    extends_by level from f (WordKind Words.To) here s.1.0 s.1.2.0 result one fits s.1.1 s.1.2.1
    (gives_then _ _ (part_before 5 to t (omega arith) kind s.1.2.0 r.0 r.2.0 r.1 r.2.1 refl)
    (gives_then _ _ (maybe_present (is_by (next r.0)) 5 kind r.0 r.2.0 by after (ap is_by (next_sign kind r.0 r.2.0 r.2.1)) r.2.1
    (part_read 5 by b (omega arith) r.2.0 after r.2.2 ends))
    (resumed level (place_of here) (λ p. To p from to (Present by)) place (place_of here) after after result s.0 refl g)))

-- Forms that begin with a token of their own

pub found_prefix : (place : Place) (operator : Operator) (operand : Tree) → Found operand → Found (Prefix place operator operand)
found_prefix place operator operand f level here after result one fits s longest ends g =
    let i = s.1 in
    begun_at place (OperatorKind i.characters) level here i.behind (Prefix place operator operand) after result i.is_here
    (begins_prefix i.characters (operator, i.others) i.first)
    (gives_same (λ self. ap (λ found. operator_operand self place found i.behind) i.first)
    (gives_then _ _ (subst (λ (t : List Token). Gives (λ self. self.read 12 t) (operand, after)) i.is_after
    (part_read 12 operand f (omega arith) s.0 after s.2 ends)) (gives_at_once _ _ (λ self. refl)))) g

pub found_not : (place : Place) (operand : Tree) → Found operand → Found (Not place operand)
found_not place operand f level here after result one fits s longest ends g =
    begun_at place (WordKind Words.Not) level here s.0 (Not place operand) after result s.1 refl
    (gives_then _ _ (part_read 12 operand f (omega arith) s.0 after s.2 ends) (gives_at_once _ _ (λ self. refl))) g

pub found_if : (place : Place) (condition first : Tree) → Found condition → Found first → Found (If place condition first Absent)
found_if place condition first c f level here after result one fits s longest ends g =
    let then : Kind = WordKind Words.Then in
    let r = s.2.2 in
    let free = or_parts (is_else (next after)) (goes_on 1 (next after)) longest in
    begun_at place (WordKind Words.If) level here s.0 (If place condition first Absent) after result s.1 refl
    (gives_then _ _ (part_before 1 condition c (omega arith) then s.0 s.2.0 r.0 s.2.1 r.1 refl)
    (gives_then _ _ (behind_read 1 then s.2.0 r.0 (first, after) r.1 (part_read 1 first f (omega arith) r.0 after r.2 free.1))
    (gives_then _ _ (maybe_absent (is_else (next after)) 1 after free.0) (gives_at_once _ _ (λ self. refl))))) g

pub found_if_else : (place : Place) (condition first other : Tree) → Found condition → Found first → Found other
    → Found (If place condition first (Present other))
found_if_else place condition first other c f o level here after result one fits s longest ends g =
    let then : Kind = WordKind Words.Then in
    let else : Kind = WordKind Words.Else in
    let r = s.2.2 in
    let q = r.2.2 in
    begun_at place (WordKind Words.If) level here s.0 (If place condition first (Present other)) after result s.1 refl
    (gives_then _ _ (part_before 1 condition c (omega arith) then s.0 s.2.0 r.0 s.2.1 r.1 refl)
    (gives_then _ _ (behind_read 1 then s.2.0 r.0 (first, r.2.0) r.1 (part_before 1 first f (omega arith) else r.0 r.2.0 q.0 r.2.1 q.1 refl))
    (gives_then _ _ (maybe_present (is_else (next r.2.0)) 1 else r.2.0 q.0 other after (ap is_else (next_sign else r.2.0 q.0 q.1)) q.1
    (part_read 1 other o (omega arith) q.0 after q.2 longest)) (gives_at_once _ _ (λ self. refl))))) g

pub found_case : (place : Place) (subject : Tree) (clauses : Clauses) → Found subject → FoundClauses clauses → Found (Case place subject clauses)
found_case place subject clauses f c level here after result one fits s longest ends g =
    let of : Kind = WordKind Words.Of in
    let open_brace : Kind = PunctuationKind OpenBrace in
    let close : Kind = PunctuationKind CloseBrace in
    let r = s.2.2 in
    let q = r.2.2 in
    let inside : behind (behind s.2.0) ≡ r.2.0 = ap behind (behind_sign of s.2.0 r.0 r.1) ∙ behind_sign open_brace r.0 r.2.0 r.2.1 in
    begun_at place (WordKind Words.Case) level here s.0 (Case place subject clauses) after result s.1 refl
    (gives_then _ _ (part_before 1 subject f (omega arith) of s.0 s.2.0 r.0 s.2.1 r.1 refl)
    (gives_then _ _ (subst (λ (t : List Token). Gives (λ self. clauses_read self t) (clauses, q.0)) (sym inside)
    (c r.2.0 q.0 q.1 (closed CloseBrace q.0 after BySemicolon q.2 refl) (ends_at 1 close q.0 after q.2 refl)))
    (gives_at_once _ _ (λ self. ap (λ tokens. Some (Case place subject clauses, tokens)) (behind_sign close q.0 after q.2))))) g

begins_loop : (kind : LoopKind) → kind_begins (WordKind (loop_word kind)) ≡ true
begins_loop Loops.While = refl
begins_loop Loops.Until = refl
begins_loop Loops.Every = refl

loop_is : (self : Readers) (place : Place) (kind : LoopKind) (tokens : List Token)
    → word_operand self place (loop_word kind) tokens ≡ loop_operand self place kind tokens
loop_is self place Loops.While tokens = refl
loop_is self place Loops.Until tokens = refl
loop_is self place Loops.Every tokens = refl

pub found_loop : (place : Place) (kind : LoopKind) (control : Tree) → Found control → Found (Loop place kind control Absent)
found_loop place kind control c level here after result one fits s longest ends g =
    let free = or_parts (is_do (next after)) (goes_on 1 (next after)) longest in
    begun_at place (WordKind (loop_word kind)) level here s.0 (Loop place kind control Absent) after result s.1 (begins_loop kind)
    (gives_same (λ self. loop_is self place kind s.0)
    (gives_then _ _ (part_read 1 control c (omega arith) s.0 after s.2 free.1)
    (gives_then _ _ (maybe_absent (is_do (next after)) 1 after free.0) (gives_at_once _ _ (λ self. refl))))) g

pub found_loop_do : (place : Place) (kind : LoopKind) (control body : Tree) → Found control → Found body → Found (Loop place kind control (Present body))
found_loop_do place kind control body c b level here after result one fits s longest ends g =
    let do_word : Kind = WordKind Words.Do in
    let r = s.2.2 in
    begun_at place (WordKind (loop_word kind)) level here s.0 (Loop place kind control (Present body)) after result s.1 (begins_loop kind)
    (gives_same (λ self. loop_is self place kind s.0)
    (gives_then _ _ (part_before 1 control c (omega arith) do_word s.0 s.2.0 r.0 s.2.1 r.1 refl)
    (gives_then _ _ (maybe_present (is_do (next s.2.0)) 1 do_word s.2.0 r.0 body after (ap is_do (next_sign do_word s.2.0 r.0 r.1)) r.1
    (part_read 1 body b (omega arith) r.0 after r.2 longest)) (gives_at_once _ _ (λ self. refl))))) g

pub found_repeat : (place : Place) (body : Tree) → Found body → Found (Repeat place body)
found_repeat place body f level here after result one fits s longest ends g =
    begun_at place (WordKind Words.Repeat) level here s.0 (Repeat place body) after result s.1 refl
    (gives_then _ _ (part_read 1 body f (omega arith) s.0 after s.2 longest) (gives_at_once _ _ (λ self. refl))) g

pub found_create : (place : Place) (body : Tree) → Found body → Found (Create place body)
found_create place body f level here after result one fits s longest ends g =
    begun_at place (WordKind Words.Create) level here s.0 (Create place body) after result s.1 refl
    (gives_then _ _ (part_read 1 body f (omega arith) s.0 after s.2 longest) (gives_at_once _ _ (λ self. refl))) g

pub found_next : (place : Place) → Found (Next place)
found_next place level here after result one fits s longest ends g =
    begun_at place (WordKind Words.Next) level here after (Next place) after result s refl (gives_at_once _ _ (λ self. refl)) g

pub found_fail : (place : Place) → Found (Fail place)
found_fail place level here after result one fits s longest ends g =
    begun_at place (WordKind Words.Fail) level here after (Fail place) after result s refl (gives_at_once _ _ (λ self. refl)) g

pub found_break : (place : Place) (value : Tree) → Found value → Found (Break place value)
found_break place value f level here after result one fits s longest ends g =
    begun_at place (WordKind Words.Break) level here s.0 (Break place value) after result s.1 refl
    (gives_then _ _ (optional_read value f s.0 after s.2 longest) (gives_at_once _ _ (λ self. refl))) g

pub found_return : (place : Place) (value : Tree) → Found value → Found (Return place value)
found_return place value f level here after result one fits s longest ends g =
    begun_at place (WordKind Words.Return) level here s.0 (Return place value) after result s.1 refl
    (gives_then _ _ (optional_read value f s.0 after s.2 longest) (gives_at_once _ _ (λ self. refl))) g

pub found_suspend : (place : Place) (value : Tree) → Found value → Found (Suspend place value Absent)
found_suspend place value f level here after result one fits s longest ends g =
    let free = or_parts (is_do (next after)) (goes_on 1 (next after) && is_present value) longest in
    begun_at place (WordKind Words.Suspend) level here s.0 (Suspend place value Absent) after result s.1 refl
    (gives_then _ _ (optional_read value f s.0 after s.2 free.1)
    (gives_then _ _ (maybe_absent (is_do (next after)) 1 after free.0) (gives_at_once _ _ (λ self. refl)))) g

pub found_suspend_do : (place : Place) (value body : Tree) → Found value → Found body → Found (Suspend place value (Present body))
found_suspend_do place value body f b level here after result one fits s longest ends g =
    let do_word : Kind = WordKind Words.Do in
    let r = s.2.2 in
    begun_at place (WordKind Words.Suspend) level here s.0 (Suspend place value (Present body)) after result s.1 refl
    (gives_then _ _ (optional_read value f s.0 s.2.0 s.2.1 (and_left (goes_on 1 (next s.2.0)) (is_present value) (ends_at 1 do_word s.2.0 r.0 r.1 refl)))
    (gives_then _ _ (maybe_present (is_do (next s.2.0)) 1 do_word s.2.0 r.0 body after (ap is_do (next_sign do_word s.2.0 r.0 r.1)) r.1
    (part_read 1 body b (omega arith) r.0 after r.2 longest)) (gives_at_once _ _ (λ self. refl)))) g
