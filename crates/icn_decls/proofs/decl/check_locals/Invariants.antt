use Rattle.std.proofs.Common.{◌≡◌, drop, map}
use Rattle.std.specs.List.{flat_map}
use Rattle.icn_tree.specs.declared.rule.Rule.TheVariants.{C1}
use Rattle.icn_tree.specs.TreeOf.{locals_of}
use Rattle.icn_decls.specs.Faults.{all_repeated}
use Rattle.icn_tree.specs.NameSets.{has}
use Rattle.icn_decls.specs.Views.{first_of}
use Rattle.icn_decls.proofs.decl.check_locals.Given as goal

-- what is left breaks first what all of them do
abbrev pub invariant-loop-local : goal.invariant-loop-local
invariant-loop-local l =
    first_of (all_repeated C1 (has l.met) (flat_map (λ locals. locals.names) (map locals_of (drop l.local-index l.locals))))
    ≡ first_of (all_repeated C1 (has l.fn.met) (flat_map (λ locals. locals.names) (map locals_of l.locals)))
