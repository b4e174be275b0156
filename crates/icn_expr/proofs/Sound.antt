-- Each step of the automaton keeps to the grammar.
use Rattle.std.proofs.Common.{◌≡◌, ℕ, zero, suc, ◌+◌, ◌<◌, ◌≤◌, Bool, true, false, cond, ◌&&◌, ◌||◌, nat_le, ◌⊎◌, inl, inr, List, [], ◌∷◌, Option, Some, None, is_some, refl, sym, ap, subst, ◌∙◌, arith, le_trans, eq-or-lt_of_le, le_of_suc-le-suc, codes}
use Rattle.std.proofs.lemmas.Bool.{leb-false, leb-true, lt-leb, le-leb, and_left, and_right, and_from, or_parts, or_from, and_parts, false≢true, true≢false}
use Rattle.std.proofs.lemmas.Option.{none-some, same_Some}
use Rattle.icn_tree.specs.declared.token.Kind.{Kind}
use Rattle.icn_tree.specs.declared.token.Kind.TheVariants.{Identifier as IdentifierKind, Integer as IntegerKind, Text as TextKind, Cset as CsetKind, Word as WordKind, Operator as OperatorKind, Augmented as AugmentedKind, Punctuation as PunctuationKind}
use Rattle.icn_tree.specs.declared.token.Token.{Token}
use Rattle.icn_tree.specs.declared.token.Word.{Word}
use Rattle.icn_tree.specs.declared.token.Word.TheVariants as Words
use Rattle.icn_tree.specs.declared.token.Operator.{Operator}
use Rattle.icn_tree.specs.declared.token.Punctuation.{Punctuation}
use Rattle.icn_tree.specs.declared.token.Punctuation.TheVariants.{OpenParenthesis, CloseParenthesis, OpenBracket, CloseBracket, OpenBrace, CloseBrace, Comma, Semicolon, Colon, PlusColon, MinusColon}
use Rattle.icn_tree.specs.declared.tree.Place.{Place}
use Rattle.icn_tree.specs.declared.tree.Name.{Name}
use Rattle.icn_tree.specs.declared.tree.Literal.TheVariants.{Integer, Text, Cset}
use Rattle.icn_tree.specs.declared.tree.Infix.{Infix}
use Rattle.icn_tree.specs.declared.tree.Infix.TheVariants.{Plain, Augmented}
use Rattle.icn_tree.specs.declared.tree.SectionKind.{SectionKind}
use Rattle.icn_tree.specs.declared.tree.SectionKind.TheVariants.{Between, Forward, Backward}
use Rattle.icn_tree.specs.declared.tree.LoopKind.{LoopKind}
use Rattle.icn_tree.specs.declared.tree.LoopKind.TheVariants as Loops
use Rattle.icn_tree.specs.Trees.{Tree, Trees, Clause, Clauses, Empty, Constant, Identifier, Keyword, Parentheses, Listing, Compound, Call, CoCall, Subscript, Section, Field, Prefix, Not, Binary, To, If, Case, Loop, Repeat, Create, Next, Fail, Break, Return, Suspend, Absent, Present, NoTrees, More, Default, Guarded, NoClauses, MoreClauses}
use Rattle.icn_tree.specs.declared.token.Operator.TheVariants.{Ampersand, Dot}
use Rattle.icn_tree.specs.declared.tree.Literal.{Literal}
use Rattle.icn_tree.specs.Levels.{operator_level, groups_right, infix_level, infix_kind, left_level, right_level, level_of, is_present, prefix_of, kind_begins, begins, kind_goes_on, goes_on, is_else, is_do, is_by}
use Rattle.icn_tree.specs.Wants.{wants}
use Rattle.icn_tree.specs.Phrases.{Phrase, next, place_of, token_at, sign}
use Rattle.icn_tree.specs.Grammar.{identifier, keyword, Part, Spells, SpellsList, SpellsMore, SpellsClause, SpellsClauses, SpellsMoreClauses, before, IsPrefix, Separator, ByComma, BySemicolon, separator, literal_kind, section_sign, loop_word}
use Rattle.icn_expr.proofs.Automaton.{Bracket, Round, Square, Curly, Arguments, CoArguments, Subscripts, PartialForm, Elements, SectionEnd, PrefixOperand, NotOperand, RightOperand, ToOperand, ByOperand, Condition, Consequence, Alternative, CaseSubject, ClauseGuard, GuardedValue, DefaultValue, Control, LoopBody, RepeatBody, CreateBody, BreakValue, ReturnValue, SuspendValue, SuspendBody, OpenForm, ReadingState, Starting, Climbing, Closing, Finished, Broken, behind, is_separator, is_close_parenthesis, is_close_bracket, is_close_brace, is_open_brace, is_colon, is_then, is_of, is_default, is_dot, section_kind, name_by, identifier_text, keyword_text, unless_broken, provided, climbing_level, frame, word_step, operator_step, mark_step, operand_step, empty_step, start_by, start_step, infix_step, plain_step, suffix_step, extend_step, climb_by, climb_step, separator_of, is_closer, bracketed, section_subject, section_by, element_by, clause_by, clause_step, clause_end, part_or, by_or, close_by, close_step, step, run}
use Rattle.icn_expr.specs.Capped.{with_last, with_last_clause}
use Rattle.icn_tree.specs.Phrases.{nothing, sign_at, ◌⨾◌, starts_at}
use Rattle.icn_tree.specs.Grammar.{infix_sign, mark, word, mark_at, word_at}
use Rattle.icn_tree.specs.Levels.{operator_begins, operator_goes_on}
use Rattle.icn_tree.proofs.LevelFacts.{edge, level_edge, right_one}
use Rattle.icn_expr.proofs.MeantParts.{is_nonempty, present_ends}
use Rattle.icn_expr.proofs.ReadByGrammar.{SoFar, ClausesSoFar, Opened, CaseHead, Held, awaits, awaited, Open, Standing, Ends, Climbed, Closed, Sound, awaited_bound, climbing_bound, below_climbing, one_climbing, beyond, fits_left, ends_alone, present_of, sign_of, at_sign, then_kind, of_kind, else_kind, do_kind, by_kind, default_kind, colon_kind, open_brace_kind, close_brace_kind, close_bracket_kind, close_parenthesis_kind, separator_sign, section_mark, list_so_far, more_so_far, clauses_list, clauses_more, infix_bound}

-- Starting

-- a form that stands by itself
settled : (frames : List OpenForm) (whole : ℕ) (first begin here : List Token) (tree : Tree) → whole ≤ 12 → Standing frames whole first begin
    → Spells tree begin here → 12 ≤ level_of tree → wants tree (next here) ≡ false → goes_on (edge tree) (next here) ≡ false
    → Climbed (climbing_level (awaited frames whole)) (place_of begin) tree (awaited frames whole) (Standing frames whole first) here
settled frames whole first begin here tree w st s l n e = record {
  begin = begin;
  is_level = refl;
  is_place = refl;
  rest = st;
  spells = s;
  fits = omega (arith, l, climbing_bound (awaited frames whole) (awaited_bound frames whole w));
  longest = n;
  edged = e;
}

-- a form whose first token was read
entered : (holds : PartialForm) (frames : List OpenForm) (whole : ℕ) (first begin here : List Token) → Standing frames whole first begin
    → Held holds (place_of begin) (climbing_level (awaited frames whole)) begin here
    → Open holds (climbing_level (awaited frames whole)) (place_of begin) (awaited frames whole) (Standing frames whole first) here
entered holds frames whole first begin here st h = record { begin = begin; held = h; is_level = refl; is_place = refl; rest = st }

word_sound : (word : Word) (place : Place) (frames : List OpenForm) (whole : ℕ) (first tokens : List Token)
    → whole ≤ 12 → Standing frames whole first (token_at place (WordKind word) ∷ tokens)
    → Sound whole first (word_step (climbing_level (awaited frames whole)) place word frames tokens)
word_sound Words.Not place frames whole first tokens w st = (refl, entered NotOperand frames whole first _ tokens st refl)
word_sound Words.If place frames whole first tokens w st = (refl, entered Condition frames whole first _ tokens st refl)
word_sound Words.Case place frames whole first tokens w st = (refl, entered CaseSubject frames whole first _ tokens st refl)
word_sound Words.While place frames whole first tokens w st = (refl, entered (Control Loops.While) frames whole first _ tokens st refl)
word_sound Words.Until place frames whole first tokens w st = (refl, entered (Control Loops.Until) frames whole first _ tokens st refl)
word_sound Words.Every place frames whole first tokens w st = (refl, entered (Control Loops.Every) frames whole first _ tokens st refl)
word_sound Words.Repeat place frames whole first tokens w st = (refl, entered RepeatBody frames whole first _ tokens st refl)
word_sound Words.Create place frames whole first tokens w st = (refl, entered CreateBody frames whole first _ tokens st refl)
word_sound Words.Next place frames whole first tokens w st =
    settled frames whole first _ tokens (Next place) w st refl (omega arith) refl (beyond (next tokens))
word_sound Words.Fail place frames whole first tokens w st =
    settled frames whole first _ tokens (Fail place) w st refl (omega arith) refl (beyond (next tokens))
word_sound Words.Break place frames whole first tokens w st = (refl, entered BreakValue frames whole first _ tokens st refl)
word_sound Words.Return place frames whole first tokens w st = (refl, entered ReturnValue frames whole first _ tokens st refl)
word_sound Words.Suspend place frames whole first tokens w st = (refl, entered SuspendValue frames whole first _ tokens st refl)
word_sound _ place frames whole first tokens w st = tt

-- what stands behind `&`
keyword_token : (kind : Kind) (at : Place) (tokens : List Token) (place : Place) (frames : List OpenForm) (whole : ℕ) (first : List Token) → whole ≤ 12
    → Standing frames whole first (token_at place (OperatorKind Ampersand) ∷ token_at at kind ∷ tokens)
    → Sound whole first (operator_step (climbing_level (awaited frames whole)) place None frames (token_at at kind ∷ tokens))
keyword_token (IdentifierKind text) at tokens place frames whole first w st =
    settled frames whole first _ tokens (Keyword place (record { text = text; place = at })) w st (_, refl, inl refl) (omega arith) refl (beyond (next tokens))
keyword_token (WordKind Words.Fail) at tokens place frames whole first w st = settled frames whole first
    _ tokens (Keyword place (record { text = codes "fail"; place = at })) w st (_, refl, inr (refl, refl)) (omega arith) refl (beyond (next tokens))
keyword_token _ at tokens place frames whole first w st = tt

keyword_sound : (tokens : List Token) (place : Place) (frames : List OpenForm) (whole : ℕ) (first : List Token) → whole ≤ 12
    → Standing frames whole first (token_at place (OperatorKind Ampersand) ∷ tokens)
    → Sound whole first (operator_step (climbing_level (awaited frames whole)) place None frames tokens)
keyword_sound [] place frames whole first w st = tt
keyword_sound (token ∷ tokens) place frames whole first w st =
    keyword_token token.kind (record { line = token.line; file = token.file }) tokens place frames whole first w st

ampersand_of : (operator : Operator) → operator_begins operator ≡ true → prefix_of operator ≡ None → operator ≡ Ampersand
ampersand_of Ampersand b e = refl
ampersand_of _ b e = absurd (false≢true (sym (ap is_some e) ∙ b))

operator_sound : (found : Option (Operator × Option Operator)) (operator : Operator) → prefix_of operator ≡ found
    → operator_begins operator ≡ true → (place : Place) (frames : List OpenForm) (whole : ℕ) (first tokens : List Token) → whole ≤ 12
    → Standing frames whole first (token_at place (OperatorKind operator) ∷ tokens)
    → Sound whole first (operator_step (climbing_level (awaited frames whole)) place found frames tokens)
operator_sound None operator e b place frames whole first tokens w st = keyword_sound tokens place frames whole first w
    (subst (λ o. Standing frames whole first (token_at place (OperatorKind o) ∷ tokens)) (ampersand_of operator b e) st)
operator_sound (Some found) operator e b place frames whole first tokens w st = (
  refl,
  entered (PrefixOperand found.0) frames whole first _ (before place found.1 tokens) st
      (record { characters = operator; others = found.1; behind = tokens; first = e; is_here = refl; is_after = refl }),
)

mark_sound : (punctuation : Punctuation) (place : Place) (frames : List OpenForm) (whole : ℕ) (first tokens : List Token)
    → whole ≤ 12 → Standing frames whole first (token_at place (PunctuationKind punctuation) ∷ tokens)
    → Sound whole first (mark_step (climbing_level (awaited frames whole)) place punctuation frames tokens)
mark_sound OpenParenthesis place frames whole first tokens w st = (refl, entered (Elements Round NoTrees) frames whole first _ tokens st (tokens, refl, refl))
mark_sound OpenBracket place frames whole first tokens w st = (refl, entered (Elements Square NoTrees) frames whole first _ tokens st (tokens, refl, refl))
mark_sound OpenBrace place frames whole first tokens w st = (refl, entered (Elements Curly NoTrees) frames whole first _ tokens st (tokens, refl, refl))
mark_sound _ place frames whole first tokens w st = tt

operand_sound : (kind : Kind) (place : Place) (frames : List OpenForm) (whole : ℕ) (first tokens : List Token)
    → whole ≤ 12 → kind_begins kind ≡ true → Standing frames whole first (token_at place kind ∷ tokens)
    → Sound whole first (operand_step (climbing_level (awaited frames whole)) place kind frames tokens)
operand_sound (IdentifierKind text) place frames whole first tokens w b st =
    settled frames whole first _ tokens (Identifier (record { text = text; place = place })) w st refl (omega arith) refl (beyond (next tokens))
operand_sound (IntegerKind n) place frames whole first tokens w b st =
    settled frames whole first _ tokens (Constant place (Integer n)) w st refl (omega arith) refl (beyond (next tokens))
operand_sound (TextKind text) place frames whole first tokens w b st =
    settled frames whole first _ tokens (Constant place (Text text)) w st refl (omega arith) refl (beyond (next tokens))
operand_sound (CsetKind set) place frames whole first tokens w b st =
    settled frames whole first _ tokens (Constant place (Cset set)) w st refl (omega arith) refl (beyond (next tokens))
operand_sound (WordKind word) place frames whole first tokens w b st = word_sound word place frames whole first tokens w st
operand_sound (OperatorKind operator) place frames whole first tokens w b st =
    operator_sound (prefix_of operator) operator refl b place frames whole first tokens w st
operand_sound (AugmentedKind operator) place frames whole first tokens w b st = tt
operand_sound (PunctuationKind punctuation) place frames whole first tokens w b st = mark_sound punctuation place frames whole first tokens w st

empty_sound : (level : ℕ) (frames : List OpenForm) (whole : ℕ) (first here : List Token) → level ≡ awaited frames whole → begins (next here) ≡ false
    → Standing frames whole first here → Sound whole first (empty_step level frames here)
empty_sound zero frames whole first here e b st = record {
  begin = here;
  rest = st;
  part = record { fits = subst (λ n. n ≤ 0) e (omega arith); spells = refl; longest = b };
  ends = and_right (goes_on (climbing_level (awaited frames whole)) (next here)) false refl;
  is_present = refl;
}
empty_sound (suc level) frames whole first here e b st = tt

start_by_sound : (b : Bool) (level : ℕ) (token : Token) (frames : List OpenForm) (whole : ℕ) (first tokens : List Token) → whole ≤ 12
    → kind_begins token.kind ≡ b
    → level ≡ awaited frames whole → Standing frames whole first (token ∷ tokens) → Sound whole first (start_by b level token frames tokens)
start_by_sound true level token frames whole first tokens w b e st = subst (λ n. Sound whole first (start_by true n token frames tokens)) (sym e)
    (operand_sound token.kind (record { line = token.line; file = token.file }) frames whole first tokens w b st)
start_by_sound false level token frames whole first tokens w b e st = empty_sound level frames whole first (token ∷ tokens) e b st

start_sound : (level : ℕ) (frames : List OpenForm) (whole : ℕ) (first here : List Token) → whole ≤ 12 → level ≡ awaited frames whole
    → Standing frames whole first here → Sound whole first (start_step level frames here)
start_sound level frames whole first [] w e st = empty_sound level frames whole first [] e refl st
start_sound level frames whole first (token ∷ tokens) w e st = start_by_sound (kind_begins token.kind) level token frames whole first tokens w refl e st

-- Climbing

-- the tree as the left operand of what goes on with it
left_part : (n level : ℕ) (place : Place) (tree : Tree) (frames : List OpenForm) (whole : ℕ) (first : List Token) (token : Token) (tokens : List Token)
    → kind_goes_on token.kind ≡ n → (c : Climbed level place tree (awaited frames whole) (Standing frames whole first) (token ∷ tokens))
    → Part (left_level n) tree (Spells tree) c.begin (token ∷ tokens)
left_part n level place tree frames whole first token tokens e c = record {
  fits = fits_left n tree (omega (arith, c.fits, one_climbing (awaited frames whole), level_at_least c.is_level))
      (subst (λ m. m < edge tree) e (leb-false (edge tree) (kind_goes_on token.kind) c.edged));
  spells = c.spells;
  longest = c.longest;
}
  where
    level_at_least : {level other : ℕ} → level ≡ other → other ≤ level
    level_at_least {level} e = subst (λ n. n ≤ level) e (omega arith)

-- a form that a tree was made the first part of
grown : (holds : PartialForm) (level : ℕ) (place : Place) (tree : Tree) (frames : List OpenForm) (whole : ℕ) (first here after : List Token)
    → (c : Climbed level place tree (awaited frames whole) (Standing frames whole first) here) → Held holds place level c.begin after
    → Open holds level place (awaited frames whole) (Standing frames whole first) after
grown holds level place tree frames whole first here after c h =
    record { begin = c.begin; held = h; is_level = c.is_level; is_place = c.is_place; rest = c.rest }

field_token : (kind : Kind)
    (at dot : Place) (tokens : List Token) (level : ℕ) (place : Place) (tree : Tree) (frames : List OpenForm) (whole : ℕ) (first : List Token)
    → level ≤ 13 → Climbed level place tree (awaited frames whole) (Standing frames whole first) (token_at dot (OperatorKind Dot) ∷ token_at at kind ∷ tokens)
    → Sound whole first (plain_step true level place tree Dot frames (token_at at kind ∷ tokens))
field_token (IdentifierKind text) at dot tokens level place tree frames whole first l c =
    record {
      begin = c.begin;
      is_level = c.is_level;
      is_place = c.is_place;
      rest = c.rest;
      spells = (c.is_place, (_, left_part 13 level place tree frames whole first _ _ refl c, (_, (dot, refl), refl)));
      fits = l;
      longest = refl;
      edged = beyond (next tokens);
    }
field_token _ at dot tokens level place tree frames whole first l c = tt

field_sound : (dot : Place) (tokens : List Token) (level : ℕ) (place : Place) (tree : Tree) (frames : List OpenForm) (whole : ℕ) (first : List Token)
    → level ≤ 13
    → Climbed level place tree (awaited frames whole) (Standing frames whole first) (token_at dot (OperatorKind Dot) ∷ tokens)
    → Sound whole first (plain_step true level place tree Dot frames tokens)
field_sound dot [] level place tree frames whole first l c = tt
field_sound dot (token ∷ tokens) level place tree frames whole first l c =
    field_token token.kind (record { line = token.line; file = token.file }) dot tokens level place tree frames whole first l c

infix_sound : (operator : Infix) (at : Place) (tokens : List Token) (level : ℕ) (place : Place) (tree : Tree) (frames : List OpenForm) (whole : ℕ)
    (first : List Token) → kind_goes_on (infix_kind operator) ≡ infix_level operator → 1 ≤ level → level ≤ infix_level operator
    → Climbed level place tree (awaited frames whole) (Standing frames whole first) (token_at at (infix_kind operator) ∷ tokens)
    → Sound whole first (infix_step level place tree operator frames tokens)
infix_sound operator at tokens level place tree frames whole first e one l c = (
  refl,
  grown (RightOperand operator tree) level place tree frames whole first _ tokens c
      (l, (c.is_place, (_, left_part (infix_level operator) level place tree frames whole first _ _ e c, (omega (arith, one, l), (at, refl))))),
)

plain_sound : (operator : Operator) (at : Place) (tokens : List Token) (level : ℕ) (place : Place) (tree : Tree) (frames : List OpenForm) (whole : ℕ)
    (first : List Token) → 1 ≤ level → level ≤ operator_goes_on operator
    → Climbed level place tree (awaited frames whole) (Standing frames whole first) (token_at at (OperatorKind operator) ∷ tokens)
    → Sound whole first (plain_step (is_dot operator) level place tree operator frames tokens)
plain_sound Dot at tokens level place tree frames whole first one l c = field_sound at tokens level place tree frames whole first l c
plain_sound operator at tokens level place tree frames whole first one l c =
    infix_sound (Plain operator) at tokens level place tree frames whole first refl one l c

to_sound : (word : Word) (at : Place) (tokens : List Token) (level : ℕ) (place : Place) (tree : Tree) (frames : List OpenForm) (whole : ℕ) (first : List Token)
    → 1 ≤ level → level ≤ kind_goes_on (WordKind word)
    → Climbed level place tree (awaited frames whole) (Standing frames whole first) (token_at at (WordKind word) ∷ tokens)
    → Sound whole first (extend_step level place tree (WordKind word) frames tokens)
to_sound Words.To at tokens level place tree frames whole first one l c =
    (refl, grown (ToOperand tree) level place tree frames whole first _ tokens c (l, (c.is_place, (_, left_part 4 level place tree frames whole first _ _ refl c, (at, refl)))))
to_sound _ at tokens level place tree frames whole first one l c = absurd (omega (arith, one, l))

suffix_sound : (punctuation : Punctuation) (at : Place) (tokens : List Token) (level : ℕ) (place : Place) (tree : Tree) (frames : List OpenForm) (whole : ℕ)
    (first : List Token)
    → Climbed level place tree (awaited frames whole) (Standing frames whole first) (token_at at (PunctuationKind punctuation) ∷ tokens)
    → Sound whole first (suffix_step level place tree punctuation frames tokens)
suffix_sound OpenParenthesis at tokens level place tree frames whole first c =
    (refl, grown (Elements (Arguments tree) NoTrees) level place tree frames whole first _ tokens c (tokens, (c.is_place, (_, left_part 13 level place tree frames whole first _ _ refl c, (at, refl))), refl))
suffix_sound OpenBracket at tokens level place tree frames whole first c =
    (refl, grown (Elements (Subscripts tree) NoTrees) level place tree frames whole first _ tokens c (tokens, (c.is_place, (_, left_part 13 level place tree frames whole first _ _ refl c, (at, refl))), refl))
suffix_sound OpenBrace at tokens level place tree frames whole first c =
    (refl, grown (Elements (CoArguments tree) NoTrees) level place tree frames whole first _ tokens c (tokens, (c.is_place, (_, left_part 13 level place tree frames whole first _ _ refl c, (at, refl))), refl))
suffix_sound _ at tokens level place tree frames whole first c = tt

extend_sound : (kind : Kind) (at : Place) (tokens : List Token) (level : ℕ) (place : Place) (tree : Tree) (frames : List OpenForm) (whole : ℕ)
    (first : List Token)
    → 1 ≤ level → level ≤ kind_goes_on kind
    → Climbed level place tree (awaited frames whole) (Standing frames whole first) (token_at at kind ∷ tokens)
    → Sound whole first (extend_step level place tree kind frames tokens)
extend_sound (OperatorKind operator) at tokens level place tree frames whole first one l c =
    plain_sound operator at tokens level place tree frames whole first one l c
extend_sound (AugmentedKind operator) at tokens level place tree frames whole first one l c =
    infix_sound (Augmented operator) at tokens level place tree frames whole first refl one l c
extend_sound (WordKind word) at tokens level place tree frames whole first one l c = to_sound word at tokens level place tree frames whole first one l c
extend_sound (PunctuationKind punctuation) at tokens level place tree frames whole first one l c =
    suffix_sound punctuation at tokens level place tree frames whole first c
extend_sound _ at tokens level place tree frames whole first one l c = tt

-- a tree with which nothing goes on
full : (level : ℕ) (place : Place) (tree : Tree) (frames : List OpenForm) (whole : ℕ) (first here : List Token)
    → goes_on level (next here) ≡ false → Climbed level place tree (awaited frames whole) (Standing frames whole first) here
    → Closed tree true (awaited frames whole) (Standing frames whole first) here
full level place tree frames whole first here e c =
    let fits : climbing_level (awaited frames whole) ≤ level_of tree = subst (λ n. n ≤ level_of tree) c.is_level c.fits in
    record {
      begin = c.begin;
      rest = c.rest;
      part = record { fits = le_trans (below_climbing (awaited frames whole)) fits; spells = c.spells; longest = c.longest };
      ends = and_left (goes_on (climbing_level (awaited frames whole)) (next here)) (is_present tree) (subst (λ n. goes_on n (next here) ≡ false) c.is_level e);
      is_present = present_of tree (le_trans (one_climbing (awaited frames whole)) fits);
    }

climb_by_sound : (b : Bool) (level : ℕ) (place : Place) (tree : Tree) (token : Token) (frames : List OpenForm) (whole : ℕ) (first tokens : List Token)
    → nat_le level (kind_goes_on token.kind) ≡ b → 1 ≤ level → Climbed level place tree (awaited frames whole) (Standing frames whole first) (token ∷ tokens)
    → Sound whole first (climb_by b level place tree token frames tokens)
climb_by_sound true level place tree token frames whole first tokens e one c = extend_sound token.kind
    (record { line = token.line; file = token.file }) tokens level place tree frames whole first one (leb-true level (kind_goes_on token.kind) e) c
climb_by_sound false level place tree token frames whole first tokens e one c = full level place tree frames whole first (token ∷ tokens) e c

climb_sound : (level : ℕ) (place : Place) (tree : Tree) (frames : List OpenForm) (whole : ℕ) (first here : List Token)
    → Climbed level place tree (awaited frames whole) (Standing frames whole first) here → Sound whole first (climb_step level place tree frames here)
climb_sound level place tree frames whole first [] c = full level place tree frames whole first [] refl c
climb_sound level place tree frames whole first (token ∷ tokens) c = climb_by_sound (nat_le level (kind_goes_on token.kind)) level place tree token frames whole
    first tokens refl (subst (λ n. 1 ≤ n) (sym c.is_level) (one_climbing (awaited frames whole))) c

-- Closing

abbrev Below : PartialForm → ℕ → Place → List OpenForm → ℕ → List Token → List Token → Type 0
Below holds level place frames whole first here = Open holds level place (awaited frames whole) (Standing frames whole first) here

-- a form that is complete
reduced : (holds : PartialForm) (level : ℕ) (place : Place) (tree : Tree) (frames : List OpenForm) (whole : ℕ) (first here after : List Token)
    → (o : Below holds level place frames whole first here) → Spells tree o.begin after → level ≤ level_of tree → wants tree (next after) ≡ false
    → goes_on (edge tree) (next after) ≡ false
    → Climbed level place tree (awaited frames whole) (Standing frames whole first) after
reduced holds level place tree frames whole first here after o s l n e =
    record { begin = o.begin; is_level = o.is_level; is_place = o.is_place; rest = o.rest; spells = s; fits = l; longest = n; edged = e }

-- a form that has read one part more
kept : (holds other : PartialForm) (level : ℕ) (place : Place) (frames : List OpenForm) (whole : ℕ) (first here after : List Token)
    → (o : Below holds level place frames whole first here) → Held other place level o.begin after → Below other level place frames whole first after
kept holds other level place frames whole first here after o h =
    record { begin = o.begin; held = h; is_level = o.is_level; is_place = o.is_place; rest = o.rest }

level_bound : (holds : PartialForm) (level : ℕ) (place : Place) (frames : List OpenForm) (whole : ℕ) (first here : List Token) → whole ≤ 12
    → Below holds level place frames whole first here → level ≤ 12
level_bound holds level place frames whole first here w o =
    subst (λ n. n ≤ 12) (sym o.is_level) (climbing_bound (awaited frames whole) (awaited_bound frames whole w))

provided_sound : (b : Bool) (state : ReadingState) (whole : ℕ) (first : List Token) → (b ≡ true → Sound whole first state)
    → Sound whole first (provided b state)
provided_sound true state whole first f = f refl
provided_sound false state whole first f = tt

part_or_sound : (b : Bool) (more : OpenForm) (tree : Tree) (frames : List OpenForm) (whole : ℕ) (first tokens : List Token)
    → (b ≡ true → Sound whole first (Starting 1 (more ∷ frames) (behind tokens)))
    → (b ≡ false → Sound whole first (Climbing more.level more.place tree frames tokens)) → Sound whole first (part_or b more tree frames tokens)
part_or_sound true more tree frames whole first tokens f g = f refl
part_or_sound false more tree frames whole first tokens f g = g refl

by_or_sound : (b : Bool) (more : OpenForm) (tree : Tree) (frames : List OpenForm) (whole : ℕ) (first tokens : List Token)
    → (b ≡ true → Sound whole first (Starting 5 (more ∷ frames) (behind tokens)))
    → (b ≡ false → Sound whole first (Climbing more.level more.place tree frames tokens)) → Sound whole first (by_or b more tree frames tokens)
by_or_sound true more tree frames whole first tokens f g = f refl
by_or_sound false more tree frames whole first tokens f g = g refl

abbrev CloseSound : PartialForm → Type 0
CloseSound holds = (level : ℕ) (place : Place) (tree : Tree) (present : Bool) (frames : List OpenForm) (whole : ℕ) (first here : List Token)
    → whole ≤ 12 → Closed tree present (awaits holds) (λ tokens. Below holds level place frames whole first tokens) here
    → Sound whole first (close_by holds level place tree present frames here)

-- a list that is closed
bracket_spells : (bracket : Bracket) (place : Place) (trees : Trees) (begin middle here : List Token) → Opened bracket place begin middle
    → SpellsList (separator_of bracket) trees middle here → is_closer bracket (next here) ≡ true → Spells (bracketed bracket place trees) begin (behind here)
bracket_spells Round place trees begin middle here o l c =
    (middle, o, (here, l, at_sign is_close_parenthesis (PunctuationKind CloseParenthesis) close_parenthesis_kind refl here c))
bracket_spells Square place trees begin middle here o l c =
    (middle, o, (here, l, at_sign is_close_bracket (PunctuationKind CloseBracket) close_bracket_kind refl here c))
bracket_spells Curly place trees begin middle here o l c =
    (middle, o, (here, l, at_sign is_close_brace (PunctuationKind CloseBrace) close_brace_kind refl here c))
bracket_spells (Arguments callee) place trees begin middle here o l c =
    (o.0, (o.1.0, o.1.1, (middle, o.1.2, (here, l, at_sign is_close_parenthesis (PunctuationKind CloseParenthesis) close_parenthesis_kind refl here c))))
bracket_spells (CoArguments callee) place trees begin middle here o l c =
    (o.0, (o.1.0, o.1.1, (middle, o.1.2, (here, l, at_sign is_close_brace (PunctuationKind CloseBrace) close_brace_kind refl here c))))
bracket_spells (Subscripts subject) place trees begin middle here o l c =
    (o.0, (o.1.0, o.1.1, (middle, o.1.2, (here, l, at_sign is_close_bracket (PunctuationKind CloseBracket) close_bracket_kind refl here c))))

bracket_level : (bracket : Bracket) (place : Place) (trees : Trees) → 12 ≤ level_of (bracketed bracket place trees)
bracket_level Round place trees = omega arith
bracket_level Square place trees = omega arith
bracket_level Curly place trees = omega arith
bracket_level (Arguments callee) place trees = omega arith
bracket_level (CoArguments callee) place trees = omega arith
bracket_level (Subscripts subject) place trees = omega arith

bracket_wants : (bracket : Bracket) (place : Place) (trees : Trees) (kind : Option Kind) → wants (bracketed bracket place trees) kind ≡ false
bracket_wants Round place trees kind = refl
bracket_wants Square place trees kind = refl
bracket_wants Curly place trees kind = refl
bracket_wants (Arguments callee) place trees kind = refl
bracket_wants (CoArguments callee) place trees kind = refl
bracket_wants (Subscripts subject) place trees kind = refl

bracket_edge : (bracket : Bracket) (place : Place) (trees : Trees) (kind : Option Kind) → goes_on (edge (bracketed bracket place trees)) kind ≡ false
bracket_edge Round place trees kind = beyond kind
bracket_edge Square place trees kind = beyond kind
bracket_edge Curly place trees kind = beyond kind
bracket_edge (Arguments callee) place trees kind = beyond kind
bracket_edge (CoArguments callee) place trees kind = beyond kind
bracket_edge (Subscripts subject) place trees kind = beyond kind

-- the first position of a section
section_sound : (subject : Tree) (kind : Option SectionKind) (level : ℕ) (place : Place) (tree : Tree) (frames : List OpenForm) (whole : ℕ)
    (first here : List Token) → section_kind (next here) ≡ kind
    → Closed tree true 0 (λ tokens. Below (Elements (Subscripts subject) NoTrees) level place frames whole first tokens) here
    → Sound whole first (section_by (Some subject) kind level place tree frames (behind here))
section_sound subject None level place tree frames whole first here e c = tt
section_sound subject (Some kind) level place tree frames whole first here e c =
    let o = c.rest in
    let h = o.held in
    let one : Part 1 tree (Spells tree) c.begin here =
    record { fits = is_nonempty tree c.begin here c.part.spells c.is_present; spells = c.part.spells; longest = c.part.longest } in (
      refl,
      kept _ (SectionEnd kind subject tree) level place frames whole first c.begin (behind here) o
          (h.1.0, (h.1.1.0, h.1.1.1, (c.begin, subst (λ tokens. mark OpenBracket h.1.1.0 tokens) h.2 h.1.1.2, (here, one, section_mark kind here e)))),
    )

no_section : (bracket : Bracket) (done : Trees) (present : Bool) (level : ℕ) (place : Place) (tree : Tree) (frames : List OpenForm) (whole : ℕ)
    (first here : List Token) → Closed tree present 0 (λ tokens. Below (Elements bracket done) level place frames whole first tokens) here
    → Sound whole first (section_by (section_subject bracket done present) (section_kind (next here)) level place tree frames (behind here))
no_section (Subscripts subject) NoTrees true level place tree frames whole first here c =
    section_sound subject (section_kind (next here)) level place tree frames whole first here refl c
no_section _ _ _ level place tree frames whole first here c = tt

element_sound : (separated closes : Bool) (bracket : Bracket) (done : Trees) (level : ℕ) (place : Place) (tree : Tree) (present : Bool) (frames : List OpenForm)
    (whole : ℕ) (first here : List Token) → is_separator (separator_of bracket) (next here) ≡ separated → is_closer bracket (next here) ≡ closes → whole ≤ 12
    → Closed tree present 0 (λ tokens. Below (Elements bracket done) level place frames whole first tokens) here
    → Sound whole first (element_by separated closes bracket done level place tree present frames here)
element_sound true closes bracket done level place tree present frames whole first here e f w c =
    let o = c.rest in (
      refl,
      kept _ (Elements bracket (with_last done tree)) level place frames whole first c.begin (behind here) o (
        o.held.0,
        o.held.1,
        more_so_far (separator_of bracket) done tree o.held.0 c.begin here (behind here) o.held.2 c.part (separator_sign (separator_of bracket) here e),
      ),
    )
element_sound false true bracket done level place tree present frames whole first here e f w c =
    let o = c.rest in
    reduced _ level place (bracketed bracket place (with_last done tree)) frames whole first c.begin (behind here) o
    (bracket_spells bracket place (with_last done tree) o.begin o.held.0 here o.held.1
    (list_so_far (separator_of bracket) done tree o.held.0 c.begin here o.held.2 c.part) f)
    (le_trans (level_bound _ level place frames whole first c.begin w o) (bracket_level bracket place (with_last done tree)))
    (bracket_wants bracket place (with_last done tree) (next (behind here))) (bracket_edge bracket place (with_last done tree) (next (behind here)))
element_sound false false bracket done level place tree present frames whole first here e f w c =
    no_section bracket done present level place tree frames whole first here c

elements_close : (bracket : Bracket) (done : Trees) → CloseSound (Elements bracket done)
elements_close bracket done level place tree present frames whole first here w c = element_sound (is_separator (separator_of bracket) (next here))
    (is_closer bracket (next here)) bracket done level place tree present frames whole first here refl refl w c

section_close : (kind : SectionKind) (subject from : Tree) → CloseSound (SectionEnd kind subject from)
section_close kind subject from level place tree present frames whole first here w c = provided_sound (is_close_bracket (next here)) _ whole first (λ e.
    let o = c.rest in
    let h = o.held in
    reduced _ level place (Section place kind subject from tree) frames whole first c.begin (behind here) o
    (h.0, (h.1.0, h.1.1, (h.1.2.0, h.1.2.1, (h.1.2.2.0, h.1.2.2.1, (c.begin, h.1.2.2.2, (here, c.part, at_sign is_close_bracket (PunctuationKind CloseBracket) close_bracket_kind refl here e))))))
    (omega (arith, level_bound _ level place frames whole first c.begin w o)) refl (beyond (next (behind here))))

prefix_close : (operator : Operator) → CloseSound (PrefixOperand operator)
prefix_close operator level place tree present frames whole first here w c =
    let o = c.rest in
    reduced _ level place (Prefix place operator tree) frames whole first c.begin here o (c.begin, o.held, c.part)
    (level_bound _ level place frames whole first c.begin w o) refl (ends_alone 11 tree c.begin here c.part c.ends)

not_close : CloseSound NotOperand
not_close level place tree present frames whole first here w c =
    let o = c.rest in
    reduced _ level place (Not place tree) frames whole first c.begin here o (c.begin, o.held, c.part)
    (level_bound _ level place frames whole first c.begin w o) refl (ends_alone 11 tree c.begin here c.part c.ends)

any_ends_alone : (level : ℕ) (tree : Tree) (here after : List Token) → 1 ≤ level → Part level tree (Spells tree) here after → Ends level tree after
    → goes_on level (next after) ≡ false
any_ends_alone zero tree here after one p e = absurd (omega (arith, one))
any_ends_alone (suc level) tree here after one p e = ends_alone level tree here after p e

right_close : (operator : Infix) (left : Tree) → CloseSound (RightOperand operator left)
right_close operator left level place tree present frames whole first here w c =
    let o = c.rest in
    let h = o.held in
    reduced _ level place (Binary place operator left tree) frames whole first c.begin here o (h.1.0, (h.1.1.0, h.1.1.1, (c.begin, h.1.1.2, c.part))) h.0 refl
    (any_ends_alone (right_level (infix_level operator)) tree c.begin here (right_one (infix_level operator) h.1.1.2.0) c.part c.ends)

to_close : (from : Tree) → CloseSound (ToOperand from)
to_close from level place tree present frames whole first here w c =
    let o = c.rest in
    let h = o.held in
    by_or_sound (is_by (next here)) _ _ frames whole first here
    (λ e. (refl, kept _ (ByOperand from tree) level place frames whole first c.begin (behind here) o (h.0, (h.1.0, (h.1.1.0, h.1.1.1, (c.begin, h.1.1.2, (here, c.part, at_sign is_by (WordKind Words.By) by_kind refl here e)))))))
    (λ e. reduced _ level place (To place from tree Absent) frames whole first c.begin here o (h.1.0, (h.1.1.0, h.1.1.1, (c.begin, h.1.1.2, c.part))) h.0 e
    (ends_alone 4 tree c.begin here c.part c.ends))

by_close : (from to : Tree) → CloseSound (ByOperand from to)
by_close from to level place tree present frames whole first here w c =
    let o = c.rest in
    let h = o.held in
    reduced _ level place (To place from to (Present tree)) frames whole first c.begin here o
    (h.1.0, (h.1.1.0, h.1.1.1, (h.1.1.2.0, h.1.1.2.1, (h.1.1.2.2.0, h.1.1.2.2.1, (c.begin, h.1.1.2.2.2, c.part))))) h.0 refl
    (ends_alone 4 tree c.begin here c.part c.ends)

condition_close : CloseSound Condition
condition_close level place tree present frames whole first here w c = provided_sound (is_then (next here)) _ whole first (λ e.
    let o = c.rest in (
      refl,
      kept _ (Consequence tree) level place frames whole first c.begin (behind here) o
          (c.begin, o.held, (here, c.part, at_sign is_then (WordKind Words.Then) then_kind refl here e)),
    ))

consequence_close : (condition : Tree) → CloseSound (Consequence condition)
consequence_close condition level place tree present frames whole first here w c =
    let o = c.rest in
    let h = o.held in
    part_or_sound (is_else (next here)) _ _ frames whole first here
    (λ e. (refl, kept _ (Alternative condition tree) level place frames whole first c.begin (behind here) o (h.0, h.1, (h.2.0, h.2.1, (c.begin, h.2.2, (here, c.part, at_sign is_else (WordKind Words.Else) else_kind refl here e))))))
    (λ e. reduced _ level place (If place condition tree Absent) frames whole first c.begin here o (h.0, h.1, (h.2.0, h.2.1, (c.begin, h.2.2, c.part)))
    (omega (arith, level_bound _ level place frames whole first c.begin w o))
    (or_from (is_else (next here)) (goes_on 1 (next here)) e (ends_alone 0 tree c.begin here c.part c.ends)) (beyond (next here)))

alternative_close : (condition other : Tree) → CloseSound (Alternative condition other)
alternative_close condition other level place tree present frames whole first here w c =
    let o = c.rest in
    let h = o.held in
    reduced _ level place (If place condition other (Present tree)) frames whole first c.begin here o
    (h.0, h.1, (h.2.0, h.2.1, (h.2.2.0, h.2.2.1, (h.2.2.2.0, h.2.2.2.1, (c.begin, h.2.2.2.2, c.part)))))
    (omega (arith, level_bound _ level place frames whole first c.begin w o)) (ends_alone 0 tree c.begin here c.part c.ends) (beyond (next here))

-- a `case` whose clauses begin or go on here
clause_sound : (b : Bool)
    (holds : PartialForm) (level : ℕ) (place : Place) (subject : Tree) (done : Clauses) (frames : List OpenForm) (whole : ℕ) (first here after : List Token)
    → is_default (next after) ≡ b → (o : Below holds level place frames whole first here) → (CaseHead subject place ⨾ ClausesSoFar done) o.begin after
    → Sound whole first (clause_by b level place subject done frames after)
clause_sound true holds level place subject done frames whole first here after e o h = provided_sound (is_colon (next (behind after))) _ whole first (λ f.
    let d = at_sign is_default (WordKind Words.Default) default_kind refl after e in (
      refl,
      kept _ (DefaultValue subject done (place_of after)) level place frames whole first here (behind (behind after)) o (
        after,
        h,
        (
          behind after,
          subst (λ (p : Place). word_at p Words.Default after (behind after)) (sym (ap place_of d.1)) d.1,
          at_sign is_colon (PunctuationKind Colon) colon_kind refl (behind after) f,
        ),
      ),
    ))
clause_sound false holds level place subject done frames whole first here after e o h =
    (refl, kept _ (ClauseGuard subject done (place_of after)) level place frames whole first here after o (h, refl))

case_close : CloseSound CaseSubject
case_close level place tree present frames whole first here w c = provided_sound (is_of (next here) && is_open_brace (next (behind here))) _ whole first (λ e.
    let o = c.rest in
    let both = and_parts (is_of (next here)) (is_open_brace (next (behind here))) e in
    clause_sound (is_default (next (behind (behind here)))) CaseSubject level place tree NoClauses frames whole first c.begin (behind (behind here)) refl o (
      behind (behind here),
      (
        c.begin,
        o.held,
        (
          here,
          c.part,
          (
            behind here,
            at_sign is_of (WordKind Words.Of) of_kind refl here both.0,
            at_sign is_open_brace (PunctuationKind OpenBrace) open_brace_kind refl (behind here) both.1,
          ),
        ),
      ),
      refl,
    ))

guard_close : (subject : Tree) (done : Clauses) (at : Place) → CloseSound (ClauseGuard subject done at)
guard_close subject done at level place tree present frames whole first here w c = provided_sound (is_colon (next here)) _ whole first (λ e.
    let o = c.rest in (
      refl,
      kept _ (GuardedValue subject done at tree) level place frames whole first c.begin (behind here) o
          (c.begin, o.held.0, (o.held.1, (here, c.part, at_sign is_colon (PunctuationKind Colon) colon_kind refl here e))),
    ))

-- a clause is complete
clause_end_sound : (b : Bool) (holds : PartialForm) (clause : Clause) (level : ℕ) (place : Place) (subject : Tree) (done : Clauses) (frames : List OpenForm)
    (whole : ℕ) (first here after : List Token) → is_separator BySemicolon (next after) ≡ b → whole ≤ 12 → (o : Below holds level place frames whole first here)
    → (CaseHead subject place ⨾ ClausesSoFar done ⨾ SpellsClause clause) o.begin after
    → Sound whole first (clause_end b level place subject (with_last_clause done clause) frames after)
clause_end_sound true holds clause level place subject done frames whole first here after e w o h =
    clause_sound (is_default (next (behind after))) holds level place subject (with_last_clause done clause) frames whole first here (behind after) refl o
    (h.0, h.1, clauses_more done clause h.0 h.2.0 after (behind after) h.2.1 h.2.2 (separator_sign BySemicolon after e))
clause_end_sound false holds clause level place subject done frames whole first here after e w o h =
    provided_sound (is_close_brace (next after)) _ whole first (λ f.
    let head = h.1 in
    reduced holds level place (Case place subject (with_last_clause done clause)) frames whole first here (behind after) o
    (head.0, head.1, (head.2.0, head.2.1, (head.2.2.0, head.2.2.1, (h.0, head.2.2.2, (after, clauses_list done clause h.0 h.2.0 after h.2.1 h.2.2, at_sign is_close_brace (PunctuationKind CloseBrace) close_brace_kind refl after f)))))
    (omega (arith, level_bound holds level place frames whole first here w o)) refl (beyond (next (behind after))))

guarded_close : (subject : Tree) (done : Clauses) (at : Place) (guard : Tree) → CloseSound (GuardedValue subject done at guard)
guarded_close subject done at guard level place tree present frames whole first here w c =
    let o = c.rest in
    let h = o.held in
    let g = h.2 in
    clause_end_sound (is_separator BySemicolon (next here)) _ (Guarded at guard tree) level place subject done frames whole first c.begin here refl w o
    (h.1.0, h.1.1, (h.0, h.1.2, (g.0, (g.1.0, g.1.1, (c.begin, g.1.2, c.part)))))

default_close : (subject : Tree) (done : Clauses) (at : Place) → CloseSound (DefaultValue subject done at)
default_close subject done at level place tree present frames whole first here w c =
    let o = c.rest in
    let h = o.held in
    let g = h.2 in
    clause_end_sound (is_separator BySemicolon (next here)) _ (Default at tree) level place subject done frames whole first c.begin here refl w o
    (h.1.0, h.1.1, (h.0, h.1.2, (g.0, g.1, (c.begin, g.2, c.part))))

control_close : (kind : LoopKind) → CloseSound (Control kind)
control_close kind level place tree present frames whole first here w c =
    let o = c.rest in
    part_or_sound (is_do (next here)) _ _ frames whole first here
    (λ e. (
      refl,
      kept _ (LoopBody kind tree) level place frames whole first c.begin (behind here) o
          (c.begin, o.held, (here, c.part, at_sign is_do (WordKind Words.Do) do_kind refl here e)),
    ))
    (λ e. reduced _ level place (Loop place kind tree Absent) frames whole first c.begin here o (c.begin, o.held, c.part)
    (omega (arith, level_bound _ level place frames whole first c.begin w o))
    (or_from (is_do (next here)) (goes_on 1 (next here)) e (ends_alone 0 tree c.begin here c.part c.ends)) (beyond (next here)))

body_close : (kind : LoopKind) (control : Tree) → CloseSound (LoopBody kind control)
body_close kind control level place tree present frames whole first here w c =
    let o = c.rest in
    let h = o.held in
    reduced _ level place (Loop place kind control (Present tree)) frames whole first c.begin here o (h.0, h.1, (h.2.0, h.2.1, (c.begin, h.2.2, c.part)))
    (omega (arith, level_bound _ level place frames whole first c.begin w o)) (ends_alone 0 tree c.begin here c.part c.ends) (beyond (next here))

repeat_close : CloseSound RepeatBody
repeat_close level place tree present frames whole first here w c =
    let o = c.rest in
    reduced _ level place (Repeat place tree) frames whole first c.begin here o (c.begin, o.held, c.part)
    (omega (arith, level_bound _ level place frames whole first c.begin w o)) (ends_alone 0 tree c.begin here c.part c.ends) (beyond (next here))

create_close : CloseSound CreateBody
create_close level place tree present frames whole first here w c =
    let o = c.rest in
    reduced _ level place (Create place tree) frames whole first c.begin here o (c.begin, o.held, c.part)
    (omega (arith, level_bound _ level place frames whole first c.begin w o)) (ends_alone 0 tree c.begin here c.part c.ends) (beyond (next here))

break_close : CloseSound BreakValue
break_close level place tree present frames whole first here w c =
    let o = c.rest in
    reduced _ level place (Break place tree) frames whole first c.begin here o (c.begin, o.held, c.part)
    (omega (arith, level_bound _ level place frames whole first c.begin w o)) c.ends (beyond (next here))

return_close : CloseSound ReturnValue
return_close level place tree present frames whole first here w c =
    let o = c.rest in
    reduced _ level place (Return place tree) frames whole first c.begin here o (c.begin, o.held, c.part)
    (omega (arith, level_bound _ level place frames whole first c.begin w o)) c.ends (beyond (next here))

suspend_close : CloseSound SuspendValue
suspend_close level place tree present frames whole first here w c =
    let o = c.rest in
    part_or_sound (is_do (next here)) _ _ frames whole first here
    (λ e. (
      refl,
      kept _ (SuspendBody tree) level place frames whole first c.begin (behind here) o
          (c.begin, o.held, (here, c.part, at_sign is_do (WordKind Words.Do) do_kind refl here e)),
    ))
    (λ e. reduced _ level place (Suspend place tree Absent) frames whole first c.begin here o (c.begin, o.held, c.part)
    (omega (arith, level_bound _ level place frames whole first c.begin w o)) (or_from (is_do (next here)) (goes_on 1 (next here) && is_present tree) e c.ends)
    (beyond (next here)))

suspend_body_close : (value : Tree) → CloseSound (SuspendBody value)
suspend_body_close value level place tree present frames whole first here w c =
    let o = c.rest in
    let h = o.held in
    reduced _ level place (Suspend place value (Present tree)) frames whole first c.begin here o (h.0, h.1, (h.2.0, h.2.1, (c.begin, h.2.2, c.part)))
    (omega (arith, level_bound _ level place frames whole first c.begin w o)) (ends_alone 0 tree c.begin here c.part c.ends) (beyond (next here))

close_sound : (holds : PartialForm) → CloseSound holds
close_sound (Elements bracket done) = elements_close bracket done
close_sound (SectionEnd kind subject from) = section_close kind subject from
close_sound (PrefixOperand operator) = prefix_close operator
close_sound NotOperand = not_close
close_sound (RightOperand operator left) = right_close operator left
close_sound (ToOperand from) = to_close from
close_sound (ByOperand from to) = by_close from to
close_sound Condition = condition_close
close_sound (Consequence condition) = consequence_close condition
close_sound (Alternative condition other) = alternative_close condition other
close_sound CaseSubject = case_close
close_sound (ClauseGuard subject done at) = guard_close subject done at
close_sound (GuardedValue subject done at guard) = guarded_close subject done at guard
close_sound (DefaultValue subject done at) = default_close subject done at
close_sound (Control kind) = control_close kind
close_sound (LoopBody kind control) = body_close kind control
close_sound RepeatBody = repeat_close
close_sound CreateBody = create_close
close_sound BreakValue = break_close
close_sound ReturnValue = return_close
close_sound SuspendValue = suspend_close
close_sound (SuspendBody value) = suspend_body_close value

closing_sound : (frames : List OpenForm) (tree : Tree) (present : Bool) (whole : ℕ) (first here : List Token) → whole ≤ 12
    → Closed tree present (awaited frames whole) (Standing frames whole first) here → Sound whole first (close_step tree present frames here)
closing_sound [] tree present whole first here w c = (subst (λ tokens. Part whole tree (Spells tree) tokens here) c.rest c.part, c.ends)
closing_sound (newest ∷ frames) tree present whole first here w c = close_sound newest.holds newest.level newest.place tree present frames whole first here w c

pub step_sound : (state : ReadingState) (whole : ℕ) (first : List Token) → whole ≤ 12 → Sound whole first state → Sound whole first (step state)
step_sound (Starting level frames here) whole first w s = start_sound level frames whole first here w s.0 s.1
step_sound (Climbing level place tree frames here) whole first w s = climb_sound level place tree frames whole first here s
step_sound (Closing tree present frames here) whole first w s = closing_sound frames tree present whole first here w s
step_sound (Finished tree here) whole first w s = s
step_sound Broken whole first w s = tt

pub run_sound : (n : ℕ) (state : ReadingState) (whole : ℕ) (first : List Token) → whole ≤ 12 → Sound whole first state → Sound whole first (run n state)
unfolding run
run_sound zero state whole first w s = s
run_sound (suc n) state whole first w s = run_sound n (step state) whole first w (step_sound state whole first w s)

-- what the automaton reads is a part
pub reads_part : (whole : ℕ) (first here : List Token) (tree : Tree) (n : ℕ) → whole ≤ 12 → run n (Starting whole [] first) ≡ Finished tree here
    → Part whole tree (Spells tree) first here × Ends whole tree here
reads_part whole first here tree n w e = subst (λ state. Sound whole first state) e (run_sound n (Starting whole [] first) whole first w (refl, refl))
