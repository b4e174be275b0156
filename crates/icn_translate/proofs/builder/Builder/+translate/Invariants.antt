use denote.Param.Weighed.{most}
use Rattle.std.proofs.Common.{◌≡◌, ◌+◌, ◌*◌, ◌≤◌, drop, max}
use Rattle.icn_tree.proofs.tree.Expr.TheLaws.{the_size}
use Rattle.icn_tree.proofs.tree.Clause.TheLaws.{the_size as clause_size}
use Rattle.icn_tree.specs.TreeOf.{all_clauses_of, all_of}
use Rattle.icn_translate.specs.Translation.{compound, conjuncts, default_part, guarded_part, operands, other_creations, subscripts}
use Rattle.icn_translate.specs.NumbersTaken.{all_numbers}
use Rattle.icn_translate.specs.Room.{default_numbers, guarded_numbers, numbers_given}
use Rattle.icn_translate.specs.Views.{draft_of, open_of}
use Rattle.icn_translate.proofs.builder.Builder.+translate.Given as goal

-- what is left, behind what was written, is the whole behind what was there before; and so are its numbers

abbrev pub invariant-put_compound-loop-place : goal.invariant-put_compound-loop-place
invariant-put_compound-loop-place l = record {
  draft : compound (open_of l.within) (all_of (drop l.place l.exprs)) (draft_of l.self)
      ≡ compound (open_of l.within) (all_of l.exprs) (draft_of l.initial.self);
  given : numbers_given (draft_of l.self) + all_numbers (all_of (drop l.place l.exprs))
      ≤ numbers_given (draft_of l.initial.self) + all_numbers (all_of l.exprs);
}

abbrev pub invariant-put_conjunction-loop-other : goal.invariant-put_conjunction-loop-other
invariant-put_conjunction-loop-other l = record {
  draft : conjuncts (open_of l.within) (all_of (drop l.other-index l.others)) (draft_of l.self)
      ≡ conjuncts (open_of l.within) (all_of l.others) (draft_of l.initial.self);
  given : numbers_given (draft_of l.self) + all_numbers (all_of (drop l.other-index l.others))
      ≤ numbers_given (draft_of l.initial.self) + all_numbers (all_of l.others);
}

abbrev pub invariant-put_other_creations-loop-expr : goal.invariant-put_other_creations-loop-expr
invariant-put_other_creations-loop-expr l = record {
  draft : other_creations (all_of (drop l.expr-index l.exprs)) (draft_of l.self)
      ≡ other_creations (all_of l.exprs) (draft_of l.initial.self);
  given : numbers_given (draft_of l.self) + all_numbers (all_of (drop l.expr-index l.exprs))
      ≤ numbers_given (draft_of l.initial.self) + all_numbers (all_of l.exprs);
}

abbrev pub invariant-put_default-loop-clause : goal.invariant-put_default-loop-clause
invariant-put_default-loop-clause l = record {
  draft : default_part (open_of l.within) (all_clauses_of (drop l.clause-index l.clauses)) (draft_of l.self)
      ≡ default_part (open_of l.within) (all_clauses_of l.clauses) (draft_of l.initial.self);
  given : numbers_given (draft_of l.self) + default_numbers (all_clauses_of (drop l.clause-index l.clauses))
      ≤ numbers_given (draft_of l.initial.self) + default_numbers (all_clauses_of l.clauses);
}

abbrev pub invariant-put_guarded-loop-clause : goal.invariant-put_guarded-loop-clause
invariant-put_guarded-loop-clause l = record {
  draft : guarded_part (open_of l.within) (all_clauses_of (drop l.clause-index l.clauses)) (draft_of l.self)
      ≡ guarded_part (open_of l.within) (all_clauses_of l.clauses) (draft_of l.initial.self);
  given : numbers_given (draft_of l.self) + guarded_numbers (all_clauses_of (drop l.clause-index l.clauses))
      ≤ numbers_given (draft_of l.initial.self) + guarded_numbers (all_clauses_of l.clauses);
}

abbrev pub invariant-put_operands-loop-expr : goal.invariant-put_operands-loop-expr
invariant-put_operands-loop-expr l = record {
  draft : operands (open_of l.within) (all_of (drop l.expr-index l.exprs)) (draft_of l.self)
      ≡ operands (open_of l.within) (all_of l.exprs) (draft_of l.initial.self);
  given : numbers_given (draft_of l.self) + all_numbers (all_of (drop l.expr-index l.exprs))
      ≤ numbers_given (draft_of l.initial.self) + all_numbers (all_of l.exprs);
}

abbrev pub invariant-put_subscripts-loop-expr : goal.invariant-put_subscripts-loop-expr
invariant-put_subscripts-loop-expr l = record {
  draft : subscripts (open_of l.within) (all_of (drop l.expr-index l.exprs)) (draft_of l.self)
      ≡ subscripts (open_of l.within) (all_of l.exprs) (draft_of l.initial.self);
  given : numbers_given (draft_of l.self) + all_numbers (all_of (drop l.expr-index l.exprs))
      ≤ numbers_given (draft_of l.initial.self) + all_numbers (all_of l.exprs);
}

-- How deep the parts of a call are, and which call comes before another one with the same parts

abbrev pub decreases-put_expr : goal.decreases-put_expr
decreases-put_expr l = 5 * goal.size-put_expr l

abbrev pub decreases-put_both : goal.decreases-put_both
decreases-put_both l = 5 * (max (the_size l.left.now) (the_size l.right.now)) + 1

abbrev pub decreases-put_list : goal.decreases-put_list
decreases-put_list l = 5 * goal.size-put_list l + 3

abbrev pub decreases-put_call : goal.decreases-put_call
decreases-put_call l = 5 * (max (the_size l.callee.now) (most (λ x. the_size x) l.exprs.now)) + 3

abbrev pub decreases-put_co_call : goal.decreases-put_co_call
decreases-put_co_call l = 5 * (max (the_size l.callee.now) (most (λ x. the_size x) l.exprs.now)) + 4

abbrev pub decreases-put_not : goal.decreases-put_not
decreases-put_not l = 5 * goal.size-put_not l + 1

abbrev pub decreases-put_infix : goal.decreases-put_infix
decreases-put_infix l = 5 * (max (the_size l.left.now) (the_size l.right.now)) + 2

abbrev pub decreases-put_doubled : goal.decreases-put_doubled
decreases-put_doubled l = 5 * (max (the_size l.left.now) (the_size l.right.now)) + 1

abbrev pub decreases-put_augmented : goal.decreases-put_augmented
decreases-put_augmented l = 5 * (max (the_size l.left.now) (the_size l.right.now)) + 2

abbrev pub decreases-put_if : goal.decreases-put_if
decreases-put_if l = 5 * (max (the_size l.condition.now) (the_size l.then.now)) + 1

abbrev pub decreases-put_if_else : goal.decreases-put_if_else
decreases-put_if_else l = 5 * (max (the_size l.condition.now) (max (the_size l.then.now) (the_size l.otherwise.now))) + 2

abbrev pub decreases-put_case : goal.decreases-put_case
decreases-put_case l = 5 * (max (the_size l.subject.now) (most (λ x. clause_size x) l.clauses.now)) + 3

abbrev pub decreases-put_repeat : goal.decreases-put_repeat
decreases-put_repeat l = 5 * goal.size-put_repeat l + 2

abbrev pub decreases-put_break : goal.decreases-put_break
decreases-put_break l = 5 * goal.size-put_break l + 1

abbrev pub decreases-put_return : goal.decreases-put_return
decreases-put_return l = 5 * goal.size-put_return l + 1

abbrev pub decreases-put_suspended : goal.decreases-put_suspended
decreases-put_suspended l = 5 * goal.size-put_suspended l + 1

abbrev pub decreases-put_resumed : goal.decreases-put_resumed
decreases-put_resumed l = 5 * goal.size-put_resumed l + 2

abbrev pub decreases-put_prefix : goal.decreases-put_prefix
decreases-put_prefix l = 5 * goal.size-put_prefix l + 1

abbrev pub decreases-put_alternative : goal.decreases-put_alternative
decreases-put_alternative l = 5 * goal.size-put_alternative l + 1

abbrev pub decreases-put_bounded : goal.decreases-put_bounded
decreases-put_bounded l = 5 * goal.size-put_bounded l + 1

abbrev pub decreases-put_control : goal.decreases-put_control
decreases-put_control l = 5 * goal.size-put_control l + 1

abbrev pub decreases-put_looped : goal.decreases-put_looped
decreases-put_looped l = 5 * goal.size-put_looped l + 1

abbrev pub decreases-put_created : goal.decreases-put_created
decreases-put_created l = 5 * goal.size-put_created l + 1

abbrev pub decreases-put_operands : goal.decreases-put_operands
decreases-put_operands l = 5 * goal.size-put_operands l + 1

abbrev pub decreases-put_arguments : goal.decreases-put_arguments
decreases-put_arguments l = 5 * goal.size-put_arguments l + 2

abbrev pub decreases-put_creations : goal.decreases-put_creations
decreases-put_creations l = 5 * goal.size-put_creations l + 3

abbrev pub decreases-put_other_creations : goal.decreases-put_other_creations
decreases-put_other_creations l = 5 * goal.size-put_other_creations l + 2

abbrev pub decreases-put_conjunction : goal.decreases-put_conjunction
decreases-put_conjunction l = 5 * goal.size-put_conjunction l + 1

abbrev pub decreases-put_compound : goal.decreases-put_compound
decreases-put_compound l = 5 * goal.size-put_compound l + 3

abbrev pub decreases-put_part : goal.decreases-put_part
decreases-put_part l = 5 * goal.size-put_part l + 2

abbrev pub decreases-put_subscripts : goal.decreases-put_subscripts
decreases-put_subscripts l = 5 * goal.size-put_subscripts l + 1

abbrev pub decreases-put_clauses : goal.decreases-put_clauses
decreases-put_clauses l = 5 * goal.size-put_clauses l + 2

abbrev pub decreases-put_guarded : goal.decreases-put_guarded
decreases-put_guarded l = 5 * goal.size-put_guarded l + 1

abbrev pub decreases-put_guarded_clause : goal.decreases-put_guarded_clause
decreases-put_guarded_clause l = 5 * goal.size-put_guarded_clause l

abbrev pub decreases-put_default : goal.decreases-put_default
decreases-put_default l = 5 * goal.size-put_default l + 1
