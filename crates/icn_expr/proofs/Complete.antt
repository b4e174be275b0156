-- The automaton reads each meant tree.
use Rattle.std.proofs.Common.{◌≡◌, ℕ, zero, suc, ◌+◌, ◌<◌, ◌≤◌, Bool, true, false, ◌&&◌, ◌||◌, nat_le, ◌⊎◌, inl, inr, List, [], ◌∷◌, Option, Some, None, is_some, refl, sym, ap, subst, ◌∙◌, arith, le_trans, codes}
use Rattle.std.proofs.lemmas.Bool.{leb-false, leb-true, lt-leb, le-leb, and_left, and_from, or_parts, or_from, false≢true, true≢false}
use Rattle.std.proofs.lemmas.Option.{none-some, same_Some}
use Rattle.icn_tree.specs.declared.token.Kind.{Kind}
use Rattle.icn_tree.specs.declared.token.Kind.TheVariants.{Identifier as IdentifierKind, Integer as IntegerKind, Text as TextKind, Cset as CsetKind, Word as WordKind, Operator as OperatorKind, Augmented as AugmentedKind, Punctuation as PunctuationKind}
use Rattle.icn_tree.specs.declared.token.Token.{Token}
use Rattle.icn_tree.specs.declared.token.Word.{Word}
use Rattle.icn_tree.specs.declared.token.Word.TheVariants as Words
use Rattle.icn_tree.specs.declared.token.Operator.{Operator}
use Rattle.icn_tree.specs.declared.token.Punctuation.{Punctuation}
use Rattle.icn_tree.specs.declared.token.Punctuation.TheVariants.{OpenParenthesis, CloseParenthesis, OpenBracket, CloseBracket, OpenBrace, CloseBrace, Comma, Semicolon, Colon, PlusColon, MinusColon}
use Rattle.icn_tree.specs.declared.tree.Place.{Place}
use Rattle.icn_tree.specs.declared.tree.Name.{Name}
use Rattle.icn_tree.specs.declared.tree.Literal.TheVariants.{Integer, Text, Cset}
use Rattle.icn_tree.specs.declared.tree.Infix.{Infix}
use Rattle.icn_tree.specs.declared.tree.Infix.TheVariants.{Plain, Augmented}
use Rattle.icn_tree.specs.declared.tree.SectionKind.{SectionKind}
use Rattle.icn_tree.specs.declared.tree.SectionKind.TheVariants.{Between, Forward, Backward}
use Rattle.icn_tree.specs.declared.tree.LoopKind.{LoopKind}
use Rattle.icn_tree.specs.declared.tree.LoopKind.TheVariants as Loops
use Rattle.icn_tree.specs.Trees.{Tree, Trees, Clause, Clauses, Empty, Constant, Identifier, Keyword, Parentheses, Listing, Compound, Call, CoCall, Subscript, Section, Field, Prefix, Not, Binary, To, If, Case, Loop, Repeat, Create, Next, Fail, Break, Return, Suspend, Absent, Present, NoTrees, More, Default, Guarded, NoClauses, MoreClauses}
use Rattle.icn_tree.specs.declared.token.Operator.TheVariants.{Ampersand, Dot}
use Rattle.icn_tree.specs.declared.tree.Literal.{Literal}
use Rattle.icn_tree.specs.Levels.{infix_level, infix_kind, left_level, right_level, level_of, is_present, prefix_of, kind_begins, begins, kind_goes_on, goes_on, is_else, is_do, is_by}
use Rattle.icn_tree.specs.Wants.{wants}
use Rattle.icn_tree.specs.Phrases.{Phrase, next, place_of, token_at, sign}
use Rattle.icn_tree.specs.Grammar.{identifier, keyword, Part, Spells, SpellsList, SpellsMore, SpellsClause, SpellsClauses, SpellsMoreClauses, before, IsPrefix, Separator, ByComma, BySemicolon, separator, literal_kind, section_sign, loop_word}
use Rattle.icn_expr.proofs.Automaton.{Bracket, Round, Square, Curly, Arguments, CoArguments, Subscripts, PartialForm, Elements, SectionEnd, PrefixOperand, NotOperand, RightOperand, ToOperand, ByOperand, Condition, Consequence, Alternative, CaseSubject, ClauseGuard, GuardedValue, DefaultValue, Control, LoopBody, RepeatBody, CreateBody, BreakValue, ReturnValue, SuspendValue, SuspendBody, OpenForm, ReadingState, Starting, Climbing, Closing, Finished, Broken, behind, is_separator, is_close_parenthesis, is_close_bracket, is_close_brace, is_open_brace, is_colon, is_then, is_of, is_default, is_dot, section_kind, name_by, identifier_text, keyword_text, unless_broken, provided, climbing_level, frame, word_step, operator_step, mark_step, operand_step, empty_step, start_by, start_step, infix_step, plain_step, suffix_step, extend_step, climb_by, climb_step, separator_of, is_closer, bracketed, section_subject, section_by, element_by, clause_by, clause_step, clause_end, part_or, by_or, close_by, close_step, step, run}
use Rattle.icn_expr.specs.Capped.{with_last, with_last_clause}
use Rattle.icn_tree.proofs.LevelFacts.{edge}
use Rattle.icn_tree.proofs.ExpressionsFound.{part_started, started_begins}
use Rattle.icn_tree.proofs.OneExpressionTree.{every_tree_found as found_tree}
use Rattle.icn_expr.proofs.MeantParts.{Leads, Found, FoundList, FoundMore, FoundClause, FoundClauses, FoundMoreClauses, part_read, optional_read, list_found, no_more_found, more_found, default_found, guarded_found, clauses_found, no_more_clauses_found, more_clauses_found}
use Rattle.icn_expr.proofs.FormReading.{found_constant, found_identifier, found_keyword, found_parentheses, found_listing, found_compound, found_call, found_co_call, found_subscript, found_section, found_field, found_binary, found_to, found_to_by, found_prefix, found_not, found_if, found_if_else, found_case, found_loop, found_loop_do, found_repeat, found_create, found_next, found_fail, found_break, found_return, found_suspend, found_suspend_do}

found_empty : Found Empty
found_empty zero frames here after r t fits s longest ends g = absurd (omega (arith, fits))
found_empty (suc level) frames here after r t fits s longest ends g = absurd (omega (arith, fits))

no_list : FoundList NoTrees
no_list bracket done level place frames here after r t s e c ends g = absurd s

no_clauses : FoundClauses NoClauses
no_clauses level place subject done frames here after r t s close rest g = absurd s

guard_begins : (guard : Tree) (here after : List Token) → Part 1 guard (Spells guard) here after → goes_on 1 (next after) ≡ false → begins (next here) ≡ true
guard_begins guard here after p e = started_begins 1 here (guard, after) (part_started 1 guard (found_tree guard) (omega arith) here after p e)

mutual
  pub every_tree_found : (tree : Tree) → Found tree
  every_tree_found Empty = found_empty
  every_tree_found (Constant place literal) = found_constant place literal
  every_tree_found (Identifier name) = found_identifier name
  every_tree_found (Keyword place name) = found_keyword place name
  every_tree_found (Parentheses place elements) = found_parentheses place elements (found_list elements)
  every_tree_found (Listing place elements) = found_listing place elements (found_list elements)
  every_tree_found (Compound place exprs) = found_compound place exprs (found_list exprs)
  every_tree_found (Call place callee arguments) = found_call place callee arguments (every_tree_found callee) (found_list arguments)
  every_tree_found (CoCall place callee arguments) = found_co_call place callee arguments (every_tree_found callee) (found_list arguments)
  every_tree_found (Subscript place subject subscripts) = found_subscript place subject subscripts (every_tree_found subject) (found_list subscripts)
  every_tree_found (Section place kind subject from to) =
      found_section place kind subject from to (every_tree_found subject) (every_tree_found from) (every_tree_found to)
  every_tree_found (Field place subject name) = found_field place subject name (every_tree_found subject)
  every_tree_found (Prefix place operator operand) = found_prefix place operator operand (every_tree_found operand)
  every_tree_found (Not place operand) = found_not place operand (every_tree_found operand)
  every_tree_found (Binary place operator left right) = found_binary place operator left right (every_tree_found left) (every_tree_found right)
  every_tree_found (To place from to Absent) = found_to place from to (every_tree_found from) (every_tree_found to)
  every_tree_found (To place from to (Present by)) = found_to_by place from to by (every_tree_found from) (every_tree_found to) (every_tree_found by)
  every_tree_found (If place condition first Absent) = found_if place condition first (every_tree_found condition) (every_tree_found first)
  every_tree_found (If place condition first (Present other)) =
      found_if_else place condition first other (every_tree_found condition) (every_tree_found first) (every_tree_found other)
  every_tree_found (Case place subject clauses) = found_case place subject clauses (every_tree_found subject) (found_clauses clauses)
  every_tree_found (Loop place kind control Absent) = found_loop place kind control (every_tree_found control)
  every_tree_found (Loop place kind control (Present body)) = found_loop_do place kind control body (every_tree_found control) (every_tree_found body)
  every_tree_found (Repeat place body) = found_repeat place body (every_tree_found body)
  every_tree_found (Create place body) = found_create place body (every_tree_found body)
  every_tree_found (Next place) = found_next place
  every_tree_found (Fail place) = found_fail place
  every_tree_found (Break place value) = found_break place value (every_tree_found value)
  every_tree_found (Return place value) = found_return place value (every_tree_found value)
  every_tree_found (Suspend place value Absent) = found_suspend place value (every_tree_found value)
  every_tree_found (Suspend place value (Present body)) = found_suspend_do place value body (every_tree_found value) (every_tree_found body)

  pub found_list : (trees : Trees) → FoundList trees
  found_list NoTrees = no_list
  found_list (More tree trees) = list_found tree trees (every_tree_found tree) (found_more trees)

  pub found_more : (trees : Trees) → FoundMore trees
  found_more NoTrees = no_more_found
  found_more (More tree trees) = more_found tree trees (list_found tree trees (every_tree_found tree) (found_more trees))

  pub found_clause : (clause : Clause) → FoundClause clause
  found_clause (Default place value) = default_found place value (every_tree_found value)
  found_clause (Guarded place guard value) = guarded_found place guard value (every_tree_found guard) (every_tree_found value) (guard_begins guard)

  pub found_clauses : (clauses : Clauses) → FoundClauses clauses
  found_clauses NoClauses = no_clauses
  found_clauses (MoreClauses clause others) = clauses_found clause others (found_clause clause) (found_more_clauses others)

  pub found_more_clauses : (clauses : Clauses) → FoundMoreClauses clauses
  found_more_clauses NoClauses = no_more_clauses_found
  found_more_clauses (MoreClauses clause others) =
      more_clauses_found clause others (clauses_found clause others (found_clause clause) (found_more_clauses others))

-- what stands behind a part does not go on with it
abbrev pub Ends : ℕ → Tree → List Token → Type 0
Ends level tree after = (goes_on (climbing_level level) (next after) && is_present tree) ≡ false
