use Rattle.std.proofs.Common.{◌≡◌, drop, map}
use Rattle.icn_tree.specs.TreeOf.{declaration_of}
use Rattle.icn_parse.specs.Outcomes.{first_fault}
use Rattle.icn_parse.proofs.check.check_declarations.Given as goal

-- what is left has first what all of them do
abbrev pub invariant-loop-declaration : goal.invariant-loop-declaration
invariant-loop-declaration l = first_fault (map declaration_of (drop l.declaration-index l.declarations)) ≡ first_fault (map declaration_of l.declarations)
