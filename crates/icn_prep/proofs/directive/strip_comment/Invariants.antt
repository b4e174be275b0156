use Rattle.std.proofs.Common.{◌≡◌, ◌++◌, take, drop}
use Rattle.icn_prep.specs.declared.literal.LiteralState.TheVariants.{Outside}
use Rattle.icn_prep.specs.Directives.{without_comment}
use Rattle.icn_prep.proofs.directive.strip_comment.Given as goal

abbrev pub invariant-loop-at : goal.invariant-loop-at
invariant-loop-at l = without_comment l.is_name Outside l.text ≡ take l.at l.text ++ without_comment l.is_name l.literal (drop l.at l.text)
