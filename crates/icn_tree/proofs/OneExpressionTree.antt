-- A list of tokens has at most one tree of an expression.
use Rattle.std.proofs.Common.{◌≡◌, ℕ, false, List, [], refl, ap, arith}
use Rattle.std.proofs.lemmas.Bool.{and_left}
use Rattle.icn_tree.specs.declared.token.Token.{Token}
use Rattle.icn_tree.specs.Trees.{Tree, Trees, Clause, Clauses, Empty, Constant, Identifier, Keyword, Parentheses, Listing, Compound, Call, CoCall, Subscript, Section, Field, Prefix, Not, Binary, To, If, Case, Loop, Repeat, Create, Next, Fail, Break, Return, Suspend, Absent, Present, NoTrees, More, Default, Guarded, NoClauses, MoreClauses}
use Rattle.icn_tree.specs.Levels.{is_present, goes_on}
use Rattle.icn_tree.specs.Phrases.{next}
use Rattle.icn_tree.specs.Grammar.{Part, Spells}
use Rattle.icn_tree.proofs.ReaderResults.{Gives, gives_one}
use Rattle.icn_tree.proofs.ExpressionsFound.{Found, FoundList, FoundMore, FoundClause, FoundClauses, FoundMoreClauses, optional_read, list_found, no_more_found, more_found, default_found, guarded_found, clauses_found, no_more_clauses_found, more_clauses_found}
use Rattle.icn_tree.proofs.FormsFound.{found_constant, found_identifier, found_keyword, found_parentheses, found_listing, found_compound, found_call, found_co_call, found_subscript, found_section, found_field, found_binary, found_to, found_to_by, found_prefix, found_not, found_if, found_if_else, found_case, found_loop, found_loop_do, found_repeat, found_create, found_next, found_fail, found_break, found_return, found_suspend, found_suspend_do}

found_empty : Found Empty
found_empty level here after result one fits s longest ends g = absurd (omega (arith, one, fits))

found_no_subscript : (place : _) (subject : Tree) → Found (Subscript place subject NoTrees)
found_no_subscript place subject level here after result one fits s longest ends g = absurd s.1.2.2.1

no_list : FoundList NoTrees
no_list by here after s e ends = absurd s

no_clauses : FoundClauses NoClauses
no_clauses here after s e ends = absurd s

mutual
  pub every_tree_found : (tree : Tree) → Found tree
  every_tree_found Empty = found_empty
  every_tree_found (Constant place literal) = found_constant place literal
  every_tree_found (Identifier name) = found_identifier name
  every_tree_found (Keyword place name) = found_keyword place name
  every_tree_found (Parentheses place elements) = found_parentheses place elements (found_list elements)
  every_tree_found (Listing place elements) = found_listing place elements (found_list elements)
  every_tree_found (Compound place exprs) = found_compound place exprs (found_list exprs)
  every_tree_found (Call place callee arguments) = found_call place callee arguments (every_tree_found callee) (found_list arguments)
  every_tree_found (CoCall place callee arguments) = found_co_call place callee arguments (every_tree_found callee) (found_list arguments)
  every_tree_found (Subscript place subject NoTrees) = found_no_subscript place subject
  every_tree_found (Subscript place subject (More first others)) =
      found_subscript place subject first others (every_tree_found subject) (every_tree_found first) (found_more others)
  every_tree_found (Section place kind subject from to) =
      found_section place kind subject from to (every_tree_found subject) (every_tree_found from) (every_tree_found to)
  every_tree_found (Field place subject name) = found_field place subject name (every_tree_found subject)
  every_tree_found (Prefix place operator operand) = found_prefix place operator operand (every_tree_found operand)
  every_tree_found (Not place operand) = found_not place operand (every_tree_found operand)
  every_tree_found (Binary place operator left right) = found_binary place operator left right (every_tree_found left) (every_tree_found right)
  every_tree_found (To place from to Absent) = found_to place from to (every_tree_found from) (every_tree_found to)
  every_tree_found (To place from to (Present by)) = found_to_by place from to by (every_tree_found from) (every_tree_found to) (every_tree_found by)
  every_tree_found (If place condition first Absent) = found_if place condition first (every_tree_found condition) (every_tree_found first)
  every_tree_found (If place condition first (Present other)) =
      found_if_else place condition first other (every_tree_found condition) (every_tree_found first) (every_tree_found other)
  every_tree_found (Case place subject clauses) = found_case place subject clauses (every_tree_found subject) (found_clauses clauses)
  every_tree_found (Loop place kind control Absent) = found_loop place kind control (every_tree_found control)
  every_tree_found (Loop place kind control (Present body)) = found_loop_do place kind control body (every_tree_found control) (every_tree_found body)
  every_tree_found (Repeat place body) = found_repeat place body (every_tree_found body)
  every_tree_found (Create place body) = found_create place body (every_tree_found body)
  every_tree_found (Next place) = found_next place
  every_tree_found (Fail place) = found_fail place
  every_tree_found (Break place value) = found_break place value (every_tree_found value)
  every_tree_found (Return place value) = found_return place value (every_tree_found value)
  every_tree_found (Suspend place value Absent) = found_suspend place value (every_tree_found value)
  every_tree_found (Suspend place value (Present body)) = found_suspend_do place value body (every_tree_found value) (every_tree_found body)

  pub found_list : (trees : Trees) → FoundList trees
  found_list NoTrees = no_list
  found_list (More tree trees) = list_found tree trees (every_tree_found tree) (found_more trees)

  pub found_more : (trees : Trees) → FoundMore trees
  found_more NoTrees = no_more_found
  found_more (More tree trees) = more_found tree trees (every_tree_found tree) (found_more trees)

  pub found_clause : (clause : Clause) → FoundClause clause
  found_clause (Default place value) = default_found place value (every_tree_found value)
  found_clause (Guarded place guard value) = guarded_found place guard value (every_tree_found guard) (every_tree_found value)

  pub found_clauses : (clauses : Clauses) → FoundClauses clauses
  found_clauses NoClauses = no_clauses
  found_clauses (MoreClauses clause clauses) = clauses_found clause clauses (found_clause clause) (found_more_clauses clauses)

  pub found_more_clauses : (clauses : Clauses) → FoundMoreClauses clauses
  found_more_clauses NoClauses = no_more_clauses_found
  found_more_clauses (MoreClauses clause clauses) = more_clauses_found clause clauses (found_clause clause) (found_more_clauses clauses)

-- what the tokens have in front, where what stands behind does not go on with it
pub optional_found : (tree : Tree) (here after : List Token) → Part 0 tree (Spells tree) here after → goes_on 1 (next after) ≡ false
    → Gives (λ self. self.read 0 here) (tree, after)
optional_found tree here after p e = optional_read tree (every_tree_found tree) here after p (and_left (goes_on 1 (next after)) (is_present tree) e)

whole : (level : ℕ) (tree : Tree) (here after : List Token) → Part level tree (Spells tree) here after → Part 0 tree (Spells tree) here after
whole level tree here after p = record { fits = omega arith; spells = p.spells; longest = p.longest }

pub one_expression : (level : ℕ) (a b : Tree) (tokens : List Token) → Part level a (Spells a) tokens [] → Part level b (Spells b) tokens [] → a ≡ b
one_expression level a b tokens s t =
    ap (λ (every_tree_found : Tree × List Token). every_tree_found.0) (gives_one (λ self. self.read 0 tokens) (a, []) (b, [])
    (optional_found a tokens [] (whole level a tokens [] s) refl) (optional_found b tokens [] (whole level b tokens [] t) refl))
