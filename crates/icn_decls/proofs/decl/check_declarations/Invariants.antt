use Rattle.std.proofs.Common.{◌≡◌, drop, map}
use Rattle.icn_tree.specs.TreeOf.{declaration_of}
use Rattle.icn_decls.specs.Faults.{declarations_faults, context_faults}
use Rattle.icn_tree.specs.NameSets.{has}
use Rattle.icn_decls.specs.Views.{first_of}
use Rattle.icn_decls.proofs.decl.check_declarations.Given as goal

-- what is left breaks first what all of them do
abbrev pub invariant-loop-declaration : goal.invariant-loop-declaration
invariant-loop-declaration l =
    first_of (declarations_faults (has l.met) (map declaration_of (drop l.declaration-index l.declarations)))
    ≡ first_of (context_faults (map declaration_of l.declarations))
