use Rattle.std.proofs.Common.{◌≡◌, ◌+◌, ◌≤◌, drop}
use Rattle.icn_tree.specs.TreeOf.{all_of}
use Rattle.icn_translate.specs.NumbersTaken.{all_numbers}
use Rattle.icn_translate.specs.Room.{numbers_given}
use Rattle.icn_translate.specs.Translation.{body}
use Rattle.icn_translate.specs.Views.{draft_of}
use Rattle.icn_translate.proofs.procedure.put_body.Given as goal

abbrev pub invariant-loop-expr : goal.invariant-loop-expr
invariant-loop-expr l = record {
  draft : body (all_of (drop l.expr-index l.exprs)) (draft_of l.builder) ≡ body (all_of l.exprs) (draft_of l.initial.builder);
  given : numbers_given (draft_of l.builder) + all_numbers (all_of (drop l.expr-index l.exprs))
      ≤ numbers_given (draft_of l.initial.builder) + all_numbers (all_of l.exprs);
}
