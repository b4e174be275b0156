use Rattle.std.proofs.Common.{◌≡◌, ◌+◌, ◌<◌, rules, sym, ◌∙◌, arith}
use Rattle.icn_tree.proofs.TreeRows.{row_trees, row_clauses}
use Rattle.icn_tree.specs.declared.tree.Expr.{the_lemmas}
use Rattle.icn_tree.specs.TreeOf.{all_of, all_clauses_of, tree_of}
use Rattle.icn_translate.specs.NumbersTaken.{all_numbers, clause_numbers, numbers}
use Rattle.icn_translate.specs.Room.{default_numbers, guarded_numbers, numbers_given}
use Rattle.icn_translate.specs.Views.{draft_of, open_of}
use Rattle.icn_translate.proofs.ExpressionLists.{all_arguments, all_counted, all_creations, compound_step, no_arguments, no_count, no_creations}
use Rattle.icn_translate.proofs.RowNumbers.{both_kinds, no_more, on_ok, row_left}
use Rattle.icn_translate.proofs.builder.Builder.+translate.Goals as goal

pub put_expr-returns-in-Parentheses-clause-draft : goal.put_expr-returns-in-Parentheses-clause-draft
put_expr-returns-in-Parentheses-clause-draft n c = search (rules, row_trees, the_lemmas)

pub put_expr-returns-in-Compound-clause-draft : goal.put_expr-returns-in-Compound-clause-draft
put_expr-returns-in-Compound-clause-draft n c = search (rules, row_trees, the_lemmas)

pub put_expr-returns-in_ok-put_expr-in-Subscript-clause-draft : goal.put_expr-returns-in_ok-put_expr-in-Subscript-clause-draft
put_expr-returns-in_ok-put_expr-in-Subscript-clause-draft n c = search (rules, row_trees, the_lemmas)

pub put_arguments-returns-then-is_no_element-clause-count : goal.put_arguments-returns-then-is_no_element-clause-count
put_arguments-returns-then-is_no_element-clause-count n c = no_count (all_of c.args.exprs.now) (sym c.is_no_element.ensures ∙ c.if-is_no_element.true)

pub put_arguments-returns-then-is_no_element-clause-draft : goal.put_arguments-returns-then-is_no_element-clause-draft
put_arguments-returns-then-is_no_element-clause-draft n c =
    no_arguments (open_of c.args.within) (all_of c.args.exprs.now) (draft_of c.args.self.now) (sym c.is_no_element.ensures ∙ c.if-is_no_element.true)

pub put_arguments-returns-clause-count : goal.put_arguments-returns-clause-count
put_arguments-returns-clause-count n c = c.count_operand-count.ensures ∙ all_counted c.args.exprs.now (sym c.is_no_element.ensures ∙ c.if-is_no_element.false)

pub put_arguments-returns-clause-draft : goal.put_arguments-returns-clause-draft
put_arguments-returns-clause-draft n c = c.in_ok-put_operands.ensures.draft
    ∙ all_arguments (open_of c.args.within) (all_of c.args.exprs.now) (draft_of c.args.self.now) (sym c.is_no_element.ensures ∙ c.if-is_no_element.false)

pub put_creations-returns-then-is_no_element-clause-count : goal.put_creations-returns-then-is_no_element-clause-count
put_creations-returns-then-is_no_element-clause-count n c = no_count (all_of c.args.exprs.now) (sym c.is_no_element.ensures ∙ c.if-is_no_element.true)

pub put_creations-returns-then-is_no_element-clause-draft : goal.put_creations-returns-then-is_no_element-clause-draft
put_creations-returns-then-is_no_element-clause-draft n c =
    no_creations (all_of c.args.exprs.now) (draft_of c.args.self.now) (sym c.is_no_element.ensures ∙ c.if-is_no_element.true)

pub put_creations-returns-clause-count : goal.put_creations-returns-clause-count
put_creations-returns-clause-count n c = c.count_operand-count.ensures ∙ all_counted c.args.exprs.now (sym c.is_no_element.ensures ∙ c.if-is_no_element.false)

pub put_creations-returns-clause-draft : goal.put_creations-returns-clause-draft
put_creations-returns-clause-draft n c = c.in_ok-put_other_creations.ensures.draft
    ∙ all_creations (all_of c.args.exprs.now) (draft_of c.args.self.now) (sym c.is_no_element.ensures ∙ c.if-is_no_element.false)

pub put_arguments-count_operand-count-requires : goal.put_arguments-count_operand-count-requires
put_arguments-count_operand-count-requires n c = omega (arith, no_more c.args.exprs.now, c.requires)

pub put_creations-count_operand-count-requires : goal.put_creations-count_operand-count-requires
put_creations-count_operand-count-requires n c = omega (arith, no_more c.args.exprs.now, c.requires)

pub put_compound-loop-place-preserved : goal.put_compound-loop-place-preserved
put_compound-loop-place-preserved n c =
    let left = row_left c.args.exprs.now c.loop-place.place c.index-exprs-place.result c.loop-place-test.true c.index-exprs-place.is in
    record {
      draft = compound_step (open_of c.args.within) c.args.exprs.now c.loop-place.place c.index-exprs-place.result (draft_of c.loop-place.self)
          (draft_of c.put_part.new.self) c.loop-place-test.true c.index-exprs-place.is c.in_ok-put_part.ensures.draft
          ∙ c.loop-place.invariant.draft;
      given = omega (arith, left, c.in_ok-put_part.ensures.given, c.loop-place.invariant.given);
    }

pub put_clauses-put_guarded-requires : goal.put_clauses-put_guarded-requires
put_clauses-put_guarded-requires n c =
    let clauses = all_clauses_of c.args.clauses.now in
    let room : numbers_given (draft_of c.enter_case.new.self) + guarded_numbers clauses < 4294967296 =
    omega (arith, both_kinds clauses, c.in_ok-enter_case.ensures.given, c.requires) in
    search rules

pub put_clauses-put_default-requires : goal.put_clauses-put_default-requires
put_clauses-put_default-requires n c =
    let clauses = all_clauses_of c.args.clauses.now in
    let room : numbers_given (draft_of c.put.new.self) + default_numbers clauses < 4294967296 =
    omega (arith, both_kinds clauses, c.in_ok-enter_case.ensures.given, c.in_ok-put_guarded.ensures.given, c.in_ok-put.ensures.given, c.requires) in
    search rules

pub put_clauses-end_case-requires : goal.put_clauses-end_case-requires
put_clauses-end_case-requires n c =
    omega (
      arith,
      both_kinds (all_clauses_of c.args.clauses.now),
      c.in_ok-enter_case.ensures.given,
      c.in_ok-put_guarded.ensures.given,
      c.in_ok-put.ensures.given,
      c.in_ok-put_default.ensures.given,
      c.requires,
    )

pub put_clauses-returns-clause-given : goal.put_clauses-returns-clause-given
put_clauses-returns-clause-given n c =
    on_ok c.end_case.result _ _ c.end_case.ensures.given (λ h. omega (
      arith,
      h,
      both_kinds (all_clauses_of c.args.clauses.now),
      c.in_ok-enter_case.ensures.given,
      c.in_ok-put_guarded.ensures.given,
      c.in_ok-put.ensures.given,
      c.in_ok-put_default.ensures.given,
    ))

pub put_expr-put_conjunction-requires : goal.put_expr-put_conjunction-requires
put_expr-put_conjunction-requires n c =
    let all : numbers (tree_of c.args.expr.now) ≡ all_numbers (all_of c.deref.result.now) = search (rules, row_trees, the_lemmas) in
    let room : numbers_given (draft_of c.args.self.now) + all_numbers (all_of c.deref.result.now) < 4294967296 = omega (arith, all, c.requires) in
    search (rules, row_trees, the_lemmas)

pub put_expr-put_compound-requires : goal.put_expr-put_compound-requires
put_expr-put_compound-requires n c =
    let all : numbers (tree_of c.args.expr.now) ≡ all_numbers (all_of c.deref-in-Compound.result.now) = search (rules, row_trees, the_lemmas) in
    let room : numbers_given (draft_of c.args.self.now) + all_numbers (all_of c.deref-in-Compound.result.now) < 4294967296 = omega (arith, all, c.requires) in
    search (rules, row_trees, the_lemmas)

pub put_expr-returns-in-Parentheses-clause-given : goal.put_expr-returns-in-Parentheses-clause-given
put_expr-returns-in-Parentheses-clause-given n c =
    let all : numbers (tree_of c.args.expr.now) ≡ all_numbers (all_of c.deref.result.now) = search (rules, row_trees, the_lemmas) in
    on_ok c.put_conjunction.result _ _ c.put_conjunction.ensures.given (λ h. omega (arith, all, h))

pub put_expr-returns-in-Compound-clause-given : goal.put_expr-returns-in-Compound-clause-given
put_expr-returns-in-Compound-clause-given n c =
    let all : numbers (tree_of c.args.expr.now) ≡ all_numbers (all_of c.deref-in-Compound.result.now) = search (rules, row_trees, the_lemmas) in
    on_ok c.put_compound.result _ _ c.put_compound.ensures.given (λ h. omega (arith, all, h))

pub put_expr-returns-in-List-clause-draft : goal.put_expr-returns-in-List-clause-draft
put_expr-returns-in-List-clause-draft n c = search (rules, row_trees, the_lemmas)

pub put_expr-returns-in-Call-clause-draft : goal.put_expr-returns-in-Call-clause-draft
put_expr-returns-in-Call-clause-draft n c = search (rules, row_trees, the_lemmas)

pub put_expr-returns-in-CoCall-clause-draft : goal.put_expr-returns-in-CoCall-clause-draft
put_expr-returns-in-CoCall-clause-draft n c = search (rules, row_trees, the_lemmas)

pub put_expr-returns-in-Case-clause-draft : goal.put_expr-returns-in-Case-clause-draft
put_expr-returns-in-Case-clause-draft n c = search (rules, row_clauses, the_lemmas)

pub put_expr-put_list-requires : goal.put_expr-put_list-requires
put_expr-put_list-requires n c =
    let all : numbers (tree_of c.args.expr.now)
    ≡ all_numbers (all_of c.deref-in-List.result.now) = search (rules, row_trees, the_lemmas) in
    let room : numbers_given (draft_of c.args.self.now) + (all_numbers (all_of c.deref-in-List.result.now))
    < 4294967296 = omega (arith, all, c.requires) in
    search (rules, row_trees, the_lemmas)

pub put_expr-returns-in-List-clause-given : goal.put_expr-returns-in-List-clause-given
put_expr-returns-in-List-clause-given n c =
    let all : numbers (tree_of c.args.expr.now)
    ≡ all_numbers (all_of c.deref-in-List.result.now) = search (rules, row_trees, the_lemmas) in
    on_ok c.put_list.result _ _ c.put_list.ensures.given (λ h. omega (arith, all, h))

pub put_expr-put_call-requires : goal.put_expr-put_call-requires
put_expr-put_call-requires n c =
    let all : numbers (tree_of c.args.expr.now)
    ≡ numbers (tree_of c.deref-in-Call.result.now) + all_numbers (all_of c.deref-in-Call-2.result.now) = search (rules, row_trees, the_lemmas) in
    let room : numbers_given (draft_of c.args.self.now) + (numbers (tree_of c.deref-in-Call.result.now) + all_numbers (all_of c.deref-in-Call-2.result.now))
    < 4294967296 = omega (arith, all, c.requires) in
    search (rules, row_trees, the_lemmas)

pub put_expr-returns-in-Call-clause-given : goal.put_expr-returns-in-Call-clause-given
put_expr-returns-in-Call-clause-given n c =
    let all : numbers (tree_of c.args.expr.now)
    ≡ numbers (tree_of c.deref-in-Call.result.now) + all_numbers (all_of c.deref-in-Call-2.result.now) = search (rules, row_trees, the_lemmas) in
    on_ok c.put_call.result _ _ c.put_call.ensures.given (λ h. omega (arith, all, h))

pub put_expr-put_co_call-requires : goal.put_expr-put_co_call-requires
put_expr-put_co_call-requires n c =
    let all : numbers (tree_of c.args.expr.now)
    ≡ numbers (tree_of c.deref-in-CoCall.result.now) + all_numbers (all_of c.deref-in-CoCall-2.result.now) = search (rules, row_trees, the_lemmas) in
    let room : numbers_given (draft_of c.args.self.now) + (numbers (tree_of c.deref-in-CoCall.result.now) + all_numbers (all_of c.deref-in-CoCall-2.result.now))
    < 4294967296 = omega (arith, all, c.requires) in
    search (rules, row_trees, the_lemmas)

pub put_expr-returns-in-CoCall-clause-given : goal.put_expr-returns-in-CoCall-clause-given
put_expr-returns-in-CoCall-clause-given n c =
    let all : numbers (tree_of c.args.expr.now)
    ≡ numbers (tree_of c.deref-in-CoCall.result.now) + all_numbers (all_of c.deref-in-CoCall-2.result.now) = search (rules, row_trees, the_lemmas) in
    on_ok c.put_co_call.result _ _ c.put_co_call.ensures.given (λ h. omega (arith, all, h))

pub put_expr-put_case-requires : goal.put_expr-put_case-requires
put_expr-put_case-requires n c =
    let all : numbers (tree_of c.args.expr.now)
    ≡ 1 + numbers (tree_of c.deref-in-Case.result.now)
    + clause_numbers (all_clauses_of c.deref-in-Case-2.result.now) = search (rules, row_clauses, the_lemmas) in
    let room : numbers_given (draft_of c.args.self.now)
    + (1 + numbers (tree_of c.deref-in-Case.result.now) + clause_numbers (all_clauses_of c.deref-in-Case-2.result.now))
    < 4294967296 = omega (arith, all, c.requires) in
    search (rules, row_clauses, the_lemmas)

pub put_expr-returns-in-Case-clause-given : goal.put_expr-returns-in-Case-clause-given
put_expr-returns-in-Case-clause-given n c =
    let all : numbers (tree_of c.args.expr.now)
    ≡ 1 + numbers (tree_of c.deref-in-Case.result.now)
    + clause_numbers (all_clauses_of c.deref-in-Case-2.result.now) = search (rules, row_clauses, the_lemmas) in
    on_ok c.put_case.result _ _ c.put_case.ensures.given (λ h. omega (arith, all, h))

pub put_expr-put_subscripts-requires : goal.put_expr-put_subscripts-requires
put_expr-put_subscripts-requires n c =
    let all : numbers (tree_of c.args.expr.now)
    ≡ numbers (tree_of c.deref-in-Subscript.result.now) + all_numbers (all_of c.deref-in-Subscript-2.result.now) = search (rules, row_trees, the_lemmas) in
    let room : numbers_given (draft_of c.put_expr.new.self) + all_numbers (all_of c.deref-in-Subscript-2.result.now)
    < 4294967296 = omega (arith, all, c.in_ok-put_expr-in-Subscript.ensures.given, c.requires) in
    search (rules, row_trees, the_lemmas)

pub put_expr-returns-in_ok-put_expr-in-Subscript-clause-given : goal.put_expr-returns-in_ok-put_expr-in-Subscript-clause-given
put_expr-returns-in_ok-put_expr-in-Subscript-clause-given n c =
    let all : numbers (tree_of c.args.expr.now)
    ≡ numbers (tree_of c.deref-in-Subscript.result.now) + all_numbers (all_of c.deref-in-Subscript-2.result.now) = search (rules, row_trees, the_lemmas) in
    on_ok c.put_subscripts.result _ _ c.put_subscripts.ensures.given (λ h. omega (arith, all, h, c.in_ok-put_expr-in-Subscript.ensures.given))

pub put_both-put_expr-requires-2 : goal.put_both-put_expr-requires-2
put_both-put_expr-requires-2 n c = omega (arith, c.in_ok-put_expr.ensures.given, c.requires)

pub put_doubled-put_expr-requires-2 : goal.put_doubled-put_expr-requires-2
put_doubled-put_expr-requires-2 n c = omega (arith, c.in_ok-put_expr.ensures.given, c.in_ok-put.ensures.given, c.requires)

pub put_call-put_arguments-requires : goal.put_call-put_arguments-requires
put_call-put_arguments-requires n c = omega (arith, c.in_ok-put_expr.ensures.given, c.requires)

pub put_co_call-put_creations-requires : goal.put_co_call-put_creations-requires
put_co_call-put_creations-requires n c = omega (arith, c.in_ok-put_expr.ensures.given, c.requires)

pub put_case-put_clauses-requires : goal.put_case-put_clauses-requires
put_case-put_clauses-requires n c = omega (arith, c.in_ok-put.ensures.given, c.in_ok-put_expr.ensures.given, c.in_ok-put-2.ensures.given, c.requires)

pub put_if-put_expr-requires-2 : goal.put_if-put_expr-requires-2
put_if-put_expr-requires-2 n c = omega (arith, c.in_ok-put.ensures.given, c.in_ok-put_expr.ensures.given, c.in_ok-put-2.ensures.given, c.requires)

pub put_if_else-put_expr-requires-2 : goal.put_if_else-put_expr-requires-2
put_if_else-put_expr-requires-2 n c = omega (arith, c.in_ok-label.ensures.given, c.in_ok-put_expr.ensures.given, c.in_ok-put.ensures.given, c.requires)

pub put_if_else-put_alternative-requires : goal.put_if_else-put_alternative-requires
put_if_else-put_alternative-requires n c =
    omega (arith, c.in_ok-label.ensures.given, c.in_ok-put_expr.ensures.given, c.in_ok-put.ensures.given, c.in_ok-put_expr-2.ensures.given, c.requires)

pub put_infix-put_expr-requires-in-Some-Both : goal.put_infix-put_expr-requires-in-Some-Both
put_infix-put_expr-requires-in-Some-Both n c = omega (arith, c.in_ok-put_expr-in-Some-Both.ensures.given, c.in_ok-put-in-Some-Both.ensures.given, c.requires)

pub put_infix-put_expr-requires-in-Some-Scanning-2 : goal.put_infix-put_expr-requires-in-Some-Scanning-2
put_infix-put_expr-requires-in-Some-Scanning-2 n c = omega (arith, c.in_ok-put_expr-in-Some-Scanning.ensures.given, c.in_ok-put-in-Some-Scanning.ensures.given, c.requires)

pub put_infix-put_alternative-requires : goal.put_infix-put_alternative-requires
put_infix-put_alternative-requires n c =
    omega (arith, c.in_ok-label-in-Some-Either.ensures.given, c.in_ok-put_expr-in-Some-Either.ensures.given, c.in_ok-put-in-Some-Either.ensures.given, c.requires)

pub put_infix-put_expr-requires-in-Some-Limiting : goal.put_infix-put_expr-requires-in-Some-Limiting
put_infix-put_expr-requires-in-Some-Limiting n c = omega (arith, c.requires)

pub put_augmented-put_expr-requires-in-Some-Scanning : goal.put_augmented-put_expr-requires-in-Some-Scanning
put_augmented-put_expr-requires-in-Some-Scanning n c =
    omega (arith, c.in_ok-put_expr-in-Some-Scanning.ensures.given, c.in_ok-put_two-in-Some-Scanning.ensures.given, c.requires)
