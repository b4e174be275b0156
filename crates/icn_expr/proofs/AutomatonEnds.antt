-- The automaton comes to an end.
use Rattle.std.proofs.Common.{◌≡◌, ℕ, zero, suc, ◌+◌, ◌-◌, ◌*◌, ◌<◌, ◌≤◌, Bool, true, false, ◌&&◌, nat_le, List, [], ◌∷◌, length, Option, Some, None, refl, sym, ap, subst, ◌∙◌, arith}
use Rattle.std.proofs.lemmas.Bool.{false≢true, and_parts}
use Rattle.std.proofs.lemmas.Option.{none-some, same_Some}
use Rattle.icn_tree.specs.declared.token.Kind.{Kind}
use Rattle.icn_tree.specs.declared.token.Kind.TheVariants.{Identifier as IdentifierKind, Integer as IntegerKind, Text as TextKind, Cset as CsetKind, Word as WordKind, Operator as OperatorKind, Augmented as AugmentedKind, Punctuation as PunctuationKind}
use Rattle.icn_tree.specs.declared.token.Token.{Token}
use Rattle.icn_tree.specs.declared.token.Word.{Word}
use Rattle.icn_tree.specs.declared.token.Word.TheVariants as Words
use Rattle.icn_tree.specs.declared.token.Operator.{Operator}
use Rattle.icn_tree.specs.declared.token.Operator.TheVariants.{Bang, At, Ampersand, Star, StarStar, Plus, PlusPlus, Minus, MinusMinus, Slash, Percent, Backslash, Caret, Bar, BarBar, BarBarBar, Dot, Question, Tilde, Equal, NotEqual, EqualEqual, NotEqualEqual, EqualEqualEqual, NotEqualEqualEqual}
use Rattle.icn_tree.specs.declared.token.Punctuation.{Punctuation}
use Rattle.icn_tree.specs.declared.token.Punctuation.TheVariants.{OpenParenthesis, CloseParenthesis, OpenBracket, CloseBracket, OpenBrace, CloseBrace, Comma, Semicolon, Colon, PlusColon, MinusColon}
use Rattle.icn_tree.specs.declared.tree.Place.{Place}
use Rattle.icn_tree.specs.declared.tree.Name.{Name}
use Rattle.icn_tree.specs.declared.tree.Infix.{Infix}
use Rattle.icn_tree.specs.declared.tree.Infix.TheVariants.{Plain, Augmented}
use Rattle.icn_tree.specs.declared.tree.SectionKind.{SectionKind}
use Rattle.icn_tree.specs.Levels.{prefix_of, kind_begins, kind_goes_on, is_else, is_do, is_by}
use Rattle.icn_tree.specs.Phrases.{next, place_of}
use Rattle.icn_tree.specs.Grammar.{before, Separator, ByComma, BySemicolon}
use Rattle.icn_expr.specs.Reading.{operator_weight, kind_weight, weight, steps_left, result, end_of}
use Rattle.icn_expr.specs.Automata.{Builds, Bracket, Round, Square, Curly, Arguments, CoArguments, Subscripts, PartialForm, Elements, SectionEnd, PrefixOperand, NotOperand, RightOperand, ToOperand, ByOperand, Condition, Consequence, Alternative, CaseSubject, ClauseGuard, GuardedValue, DefaultValue, Control, LoopBody, RepeatBody, CreateBody, BreakValue, ReturnValue, SuspendValue, SuspendBody, OpenForm, ReadingState, Starting, Climbing, Closing, Finished, Broken, behind, is_separator, is_close_parenthesis, is_close_bracket, is_close_brace, is_open_brace, is_colon, is_then, is_of, is_default, is_dot, section_kind, name_by, identifier_text, keyword_text, unless_broken, state_if, climbing_level, frame, word_step, operator_step, mark_step, operand_step, empty_step, start_by, start_step, infix_step, plain_step, suffix_step, extend_step, climb_by, climb_step, separator_of, is_closer, bracket_tree, section_subject, section_by, element_by, clause_by, clause_step, clause_end, part_or, by_or, close_by, close_step, step, run}

one_operator : (operator : Operator) → 1 ≤ operator_weight operator
one_operator BarBar = omega arith
one_operator _ = omega arith

one_kind : (kind : Kind) → 1 ≤ kind_weight kind
one_kind (OperatorKind operator) = one_operator operator
one_kind _ = omega arith

pub behind_less : (tokens : List Token) → weight (behind tokens) ≤ weight tokens
behind_less [] = omega arith
behind_less (token ∷ tokens) = omega (arith, one_kind token.kind)

abbrev other_weight : Option Operator → ℕ
other_weight (Some other) = operator_weight other
other_weight None = 0

abbrev others_weight : Option (Operator × Option Operator) → ℕ
others_weight (Some found) = other_weight found.1
others_weight None = 0

-- what is left of a token that was one operator before others
lighter : (characters : Operator) → others_weight (prefix_of characters) < operator_weight characters
lighter BarBar = omega arith
lighter _ = omega arith

before_weight : (place : Place) (others : Option Operator) (tokens : List Token) → weight (before place others tokens) ≡ other_weight others + weight tokens
before_weight place None tokens = omega arith
before_weight place (Some other) tokens = refl

consumed_by : (test : Option Kind → Bool) → test None ≡ false → (tokens : List Token) → test (next tokens) ≡ true → weight (behind tokens) < weight tokens
consumed_by test n [] e = absurd (false≢true (sym n ∙ e))
consumed_by test n (token ∷ tokens) e = omega (arith, one_kind token.kind)

module _ (V L C : Type 0) (make : Builds V L C) where
  word_less : (word : Word) (level : ℕ) (place : Place) (frames : List (OpenForm V L C)) (tokens : List Token)
      → steps_left (word_step make level place word frames tokens) ≤ 8 * weight tokens + 4 * length frames + 7
  word_less Words.Next level place frames tokens = omega arith
  word_less _ level place frames tokens = omega arith

  unless_less : (n : ℕ) (name : Option Name) (f : Name → ReadingState V L C) → ((x : Name) → steps_left (f x) ≤ n) → steps_left (unless_broken name f) ≤ n
  unless_less n None f h = omega arith
  unless_less n (Some x) f h = h x

  operator_less : (found : Option (Operator × Option Operator)) (level : ℕ) (place : Place) (frames : List (OpenForm V L C)) (tokens : List Token)
      → steps_left (operator_step make level place found frames tokens) ≤ 8 * (others_weight found + weight tokens) + 4 * length frames + 7
  operator_less None level place frames tokens = unless_less _ (name_by (keyword_text (next tokens)) tokens) _ (λ x. omega (arith, behind_less tokens))
  operator_less (Some found) level place frames tokens = omega (arith, before_weight place found.1 tokens)

  mark_less : (mark : Punctuation) (level : ℕ) (place : Place) (frames : List (OpenForm V L C)) (tokens : List Token)
      → steps_left (mark_step make level place mark frames tokens) ≤ 8 * weight tokens + 4 * length frames + 7
  mark_less OpenParenthesis level place frames tokens = omega arith
  mark_less _ level place frames tokens = omega arith

  operand_less : (kind : Kind) (level : ℕ) (place : Place) (frames : List (OpenForm V L C)) (tokens : List Token)
      → steps_left (operand_step make level place kind frames tokens) < 8 * (kind_weight kind + weight tokens) + 4 * length frames + 3
  operand_less (WordKind word) level place frames tokens = omega (arith, word_less word level place frames tokens)
  operand_less (OperatorKind operator) level place frames tokens = omega (arith, operator_less (prefix_of operator) level place frames tokens, lighter operator)
  operand_less (PunctuationKind mark) level place frames tokens = omega (arith, mark_less mark level place frames tokens)
  operand_less _ level place frames tokens = omega arith

  empty_less : (level : ℕ) (frames : List (OpenForm V L C)) (tokens : List Token)
      → steps_left (empty_step make level frames tokens) < 8 * weight tokens + 4 * length frames + 3
  empty_less zero frames tokens = omega arith
  empty_less (suc level) frames tokens = omega arith

  start_by_less : (b : Bool) (level : ℕ) (token : Token) (frames : List (OpenForm V L C)) (tokens : List Token)
      → steps_left (start_by make b level token frames tokens) < 8 * (kind_weight token.kind + weight tokens) + 4 * length frames + 3
  start_by_less true level token frames tokens = operand_less token.kind (climbing_level level) (record { line = token.line; file = token.file }) frames tokens
  start_by_less false level token frames tokens = empty_less level frames (token ∷ tokens)

  start_less : (level : ℕ) (frames : List (OpenForm V L C)) (tokens : List Token)
      → steps_left (start_step make level frames tokens) < 8 * weight tokens + 4 * length frames + 3
  start_less level frames [] = empty_less level frames []
  start_less level frames (token ∷ tokens) = start_by_less (kind_begins token.kind) level token frames tokens

  plain_less : (b : Bool) (operator : Operator) (level : ℕ) (place : Place) (tree : V) (frames : List (OpenForm V L C)) (tokens : List Token)
      → steps_left (plain_step make b level place tree operator frames tokens) ≤ 8 * weight tokens + 4 * length frames + 7
  plain_less true operator level place tree frames tokens =
      unless_less _ (name_by (identifier_text (next tokens)) tokens) _ (λ x. omega (arith, behind_less tokens))
  plain_less false operator level place tree frames tokens = omega arith

  suffix_less : (mark : Punctuation) (level : ℕ) (place : Place) (tree : V) (frames : List (OpenForm V L C)) (tokens : List Token)
      → steps_left (suffix_step make level place tree mark frames tokens) ≤ 8 * weight tokens + 4 * length frames + 7
  suffix_less OpenParenthesis level place tree frames tokens = omega arith
  suffix_less _ level place tree frames tokens = omega arith

  extend_less : (kind : Kind) (level : ℕ) (place : Place) (tree : V) (frames : List (OpenForm V L C)) (tokens : List Token)
      → steps_left (extend_step make level place tree kind frames tokens) ≤ 8 * weight tokens + 4 * length frames + 7
  extend_less (OperatorKind operator) level place tree frames tokens = plain_less (is_dot operator) operator level place tree frames tokens
  extend_less (PunctuationKind mark) level place tree frames tokens = suffix_less mark level place tree frames tokens
  extend_less _ level place tree frames tokens = omega arith

  climb_by_less : (b : Bool) (level : ℕ) (place : Place) (tree : V) (token : Token) (frames : List (OpenForm V L C)) (tokens : List Token)
      → steps_left (climb_by make b level place tree token frames tokens) < 8 * (kind_weight token.kind + weight tokens) + 4 * length frames + 2
  climb_by_less true level place tree token frames tokens = omega (arith, extend_less token.kind level place tree frames tokens, one_kind token.kind)
  climb_by_less false level place tree token frames tokens = omega arith

  climb_less : (level : ℕ) (place : Place) (tree : V) (frames : List (OpenForm V L C)) (tokens : List Token)
      → steps_left (climb_step make level place tree frames tokens) < 8 * weight tokens + 4 * length frames + 2
  climb_less level place tree frames [] = omega arith
  climb_less level place tree frames (token ∷ tokens) = climb_by_less (nat_le level (kind_goes_on token.kind)) level place tree token frames tokens

  -- where a form was complete
  abbrev bound : List (OpenForm V L C) → List Token → ℕ
  bound frames tokens = 8 * weight tokens + 4 * length frames + 5

  provided_less : (n : ℕ) (b : Bool) (state : ReadingState V L C) → 0 < n → (b ≡ true → steps_left state < n) → steps_left (state_if b state) < n
  provided_less n true state some h = h refl
  provided_less n false state some h = some

  section_less : (kind : Option SectionKind) (subject : Option V) (level : ℕ) (place : Place) (tree : V) (frames : List (OpenForm V L C)) (tokens : List Token)
      → section_kind (next tokens) ≡ kind → steps_left (section_by make subject kind level place tree frames (behind tokens)) < bound frames tokens
  section_less (Some kind) (Some subject) level place tree frames [] e = absurd (none-some kind e)
  section_less (Some kind) (Some subject) level place tree frames (token ∷ tokens) e = omega (arith, one_kind token.kind)
  section_less None (Some subject) level place tree frames tokens e = omega arith
  section_less (Some kind) None level place tree frames tokens e = omega arith
  section_less None None level place tree frames tokens e = omega arith

  separator_consumed : (by : Separator) (tokens : List Token) → is_separator by (next tokens) ≡ true → weight (behind tokens) < weight tokens
  separator_consumed ByComma tokens e = consumed_by (is_separator ByComma) refl tokens e
  separator_consumed BySemicolon tokens e = consumed_by (is_separator BySemicolon) refl tokens e

  element_less : (separated closes : Bool) (b : Bracket V) (done : L) (level : ℕ) (place : Place) (tree : V) (present : Bool)
      (frames : List (OpenForm V L C)) (tokens : List Token) → is_separator (separator_of b) (next tokens) ≡ separated
      → steps_left (element_by make separated closes b done level place tree present frames tokens) < bound frames tokens
  element_less true closes b done level place tree present frames tokens e = omega (arith, separator_consumed (separator_of b) tokens e)
  element_less false true b done level place tree present frames tokens e = omega (arith, behind_less tokens)
  element_less false false b done level place tree present frames tokens e =
      section_less (section_kind (next tokens)) (section_subject make b (make.has_none done) present) level place tree frames tokens refl

  clause_by_less : (b : Bool) (level : ℕ) (place : Place) (subject : V) (done : C) (frames : List (OpenForm V L C)) (tokens : List Token)
      → steps_left (clause_by make b level place subject done frames tokens) < 8 * weight tokens + 4 * length frames + 8
  clause_by_less true level place subject done frames tokens =
      provided_less _ (is_colon (next (behind tokens))) _ (omega arith) (λ e. omega (arith, behind_less tokens, behind_less (behind tokens)))
  clause_by_less false level place subject done frames tokens = omega arith

  clause_end_less : (b : Bool) (level : ℕ) (place : Place) (subject : V) (done : C) (frames : List (OpenForm V L C)) (tokens : List Token)
      → is_separator BySemicolon (next tokens) ≡ b → steps_left (clause_end make b level place subject done frames tokens) < bound frames tokens
  clause_end_less true level place subject done frames tokens e =
      omega (arith, clause_by_less (is_default (next (behind tokens))) level place subject done frames (behind tokens), separator_consumed BySemicolon tokens e)
  clause_end_less false level place subject done frames tokens e =
      provided_less _ (is_close_brace (next tokens)) _ (omega arith) (λ f. omega (arith, behind_less tokens))

  part_or_less : (b : Bool) (more : OpenForm V L C) (tree : V) (frames : List (OpenForm V L C)) (tokens : List Token)
      → (b ≡ true → weight (behind tokens) < weight tokens) → steps_left (part_or make b more tree frames tokens) < bound frames tokens
  part_or_less true more tree frames tokens h = omega (arith, h refl)
  part_or_less false more tree frames tokens h = omega arith

  by_or_less : (b : Bool) (more : OpenForm V L C) (tree : V) (frames : List (OpenForm V L C)) (tokens : List Token)
      → (b ≡ true → weight (behind tokens) < weight tokens) → steps_left (by_or make b more tree frames tokens) < bound frames tokens
  by_or_less true more tree frames tokens h = omega (arith, h refl)
  by_or_less false more tree frames tokens h = omega arith

  close_by_less : (holds : PartialForm V L C) (level : ℕ) (place : Place) (tree : V) (present : Bool) (frames : List (OpenForm V L C)) (tokens : List Token)
      → steps_left (close_by make holds level place tree present frames tokens) < bound frames tokens
  close_by_less (Elements b done) level place tree present frames tokens =
      element_less (is_separator (separator_of b) (next tokens)) (is_closer b (next tokens)) b done level place tree present frames tokens refl
  close_by_less (SectionEnd kind subject from) level place tree present frames tokens =
      provided_less _ (is_close_bracket (next tokens)) _ (omega arith) (λ e. omega (arith, behind_less tokens))
  close_by_less (ToOperand from) level place tree present frames tokens = by_or_less (is_by (next tokens)) _ _ frames tokens (consumed_by is_by refl tokens)
  close_by_less Condition level place tree present frames tokens =
      provided_less _ (is_then (next tokens)) _ (omega arith) (λ e. omega (arith, consumed_by is_then refl tokens e))
  close_by_less (Consequence condition) level place tree present frames tokens =
      part_or_less (is_else (next tokens)) _ _ frames tokens (consumed_by is_else refl tokens)
  close_by_less CaseSubject level place tree present frames tokens =
      provided_less _ (is_of (next tokens) && is_open_brace (next (behind tokens))) _ (omega arith) (λ e. omega (
        arith,
        clause_by_less (is_default (next (behind (behind tokens)))) level place tree make.no_clauses frames (behind (behind tokens)),
        consumed_by is_of refl tokens (and_parts _ _ e).0,
        behind_less (behind tokens),
      ))
  close_by_less (ClauseGuard subject done at) level place tree present frames tokens =
      provided_less _ (is_colon (next tokens)) _ (omega arith) (λ e. omega (arith, consumed_by is_colon refl tokens e))
  close_by_less (GuardedValue subject done at guard) level place tree present frames tokens =
      clause_end_less (is_separator BySemicolon (next tokens)) level place subject _ frames tokens refl
  close_by_less (DefaultValue subject done at) level place tree present frames tokens =
      clause_end_less (is_separator BySemicolon (next tokens)) level place subject _ frames tokens refl
  close_by_less (Control kind) level place tree present frames tokens = part_or_less (is_do (next tokens)) _ _ frames tokens (consumed_by is_do refl tokens)
  close_by_less SuspendValue level place tree present frames tokens = part_or_less (is_do (next tokens)) _ _ frames tokens (consumed_by is_do refl tokens)
  close_by_less _ level place tree present frames tokens = omega arith

  close_less : (frames : List (OpenForm V L C)) (tree : V) (present : Bool) (tokens : List Token)
      → steps_left (close_step make tree present frames tokens) < 8 * weight tokens + 4 * length frames + 1
  close_less [] tree present tokens = omega arith
  close_less (newest ∷ frames) tree present tokens = omega (arith, close_by_less newest.holds newest.level newest.place tree present frames tokens)

  abbrev pub is_over : ReadingState V L C → Bool
  is_over (Finished tree tokens) = true
  is_over Broken = true
  is_over _ = false

  pub step_less : (state : ReadingState V L C) → is_over state ≡ false → steps_left (step make state) < steps_left state
  step_less (Starting level frames tokens) e = start_less level frames tokens
  step_less (Climbing level place tree frames tokens) e = climb_less level place tree frames tokens
  step_less (Closing tree present frames tokens) e = close_less frames tree present tokens
  step_less (Finished tree tokens) e = absurd (false≢true (sym e))
  step_less Broken e = absurd (false≢true (sym e))

  -- once at the end, a state stays as it is
  over_stays : (n : ℕ) (state : ReadingState V L C) → is_over state ≡ true → run make n state ≡ state
  unfolding run
  over_stays zero state e = refl
  over_stays (suc n) (Starting level frames tokens) e = absurd (false≢true e)
  over_stays (suc n) (Climbing level place tree frames tokens) e = absurd (false≢true e)
  over_stays (suc n) (Closing tree present frames tokens) e = absurd (false≢true e)
  over_stays (suc n) (Finished tree tokens) e = over_stays n (Finished tree tokens) e
  over_stays (suc n) Broken e = over_stays n Broken e

  -- more steps than are left change nothing
  enough : (n : ℕ) (state : ReadingState V L C) → steps_left state ≤ n → is_over (run make n state) ≡ true
  unfolding run
  enough zero (Starting level frames tokens) h = absurd (omega (arith, h))
  enough zero (Climbing level place tree frames tokens) h = absurd (omega (arith, h))
  enough zero (Closing tree present frames tokens) h = absurd (omega (arith, h))
  enough zero (Finished tree tokens) h = refl
  enough zero Broken h = refl
  enough (suc n) (Starting level frames tokens) h =
      enough n (step make (Starting level frames tokens)) (omega (arith, h, step_less (Starting level frames tokens) refl))
  enough (suc n) (Climbing level place tree frames tokens) h =
      enough n (step make (Climbing level place tree frames tokens)) (omega (arith, h, step_less (Climbing level place tree frames tokens) refl))
  enough (suc n) (Closing tree present frames tokens) h =
      enough n (step make (Closing tree present frames tokens)) (omega (arith, h, step_less (Closing tree present frames tokens) refl))
  enough (suc n) (Finished tree tokens) h = enough n (Finished tree tokens) (omega arith)
  enough (suc n) Broken h = enough n Broken (omega arith)

  more_steps : (n m : ℕ) (state : ReadingState V L C) → run make (n + m) state ≡ run make m (run make n state)
  unfolding run
  more_steps zero m state = let e : 0 + m ≡ m = omega arith in ap (λ k. run make k state) e
  more_steps (suc n) m state = let e : suc n + m ≡ suc (n + m) = omega arith in ap (λ k. run make k state) e ∙ more_steps n m (step make state)

  -- a state that comes to an end is there once so many steps are taken
  pub comes_to : (n : ℕ) (state : ReadingState V L C) (tree : V) (tokens : List Token) → run make n state ≡ Finished tree tokens
      → run make (steps_left state) state ≡ Finished tree tokens
  comes_to n state tree tokens e =
      let there : run make (n + steps_left state) state ≡ Finished tree tokens = more_steps n (steps_left state) state ∙ ap (run make (steps_left state)) e
      ∙ over_stays (steps_left state) (Finished tree tokens) refl in
      let here : run make (steps_left state + n) state ≡ run make (steps_left state) state = more_steps (steps_left state) n state
      ∙ over_stays n (run make (steps_left state) state) (enough (steps_left state) state (omega arith)) in
      let swapped : steps_left state + n ≡ n + steps_left state = omega arith in
      sym here ∙ (ap (λ k. run make k state) swapped ∙ there)

  -- a step changes nothing about the end
  pub end_steps : (state : ReadingState V L C) → is_over state ≡ false → end_of make (step make state) ≡ end_of make state
  unfolding run
  end_steps state e = ap result (sym (later (steps_left state) state (step_less state e)))
    where
      later : (n : ℕ) (state : ReadingState V L C) → steps_left (step make state) < n
          → run make n state ≡ run make (steps_left (step make state)) (step make state)
      later zero state h = absurd (omega (arith, h))
      later (suc n) state h =
          let k : n ≡ steps_left (step make state) + (n - steps_left (step make state)) = omega (arith, h) in
          ap (λ m. run make m (step make state)) k ∙ more_steps (steps_left (step make state)) (n - steps_left (step make state)) (step make state)
          ∙ over_stays (n - steps_left (step make state)) (run make (steps_left (step make state)) (step make state))
          (enough (steps_left (step make state)) (step make state) (omega arith))

  pub end_finished : (tree : V) (tokens : List Token) → end_of make (Finished tree tokens) ≡ Some (tree, tokens)
  unfolding run
  end_finished tree tokens = refl

  pub end_broken : end_of make Broken ≡ None
  unfolding run
  end_broken = refl
