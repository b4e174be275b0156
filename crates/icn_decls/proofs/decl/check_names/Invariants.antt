use Rattle.std.proofs.Common.{◌≡◌, drop}
use Rattle.icn_decls.specs.Faults.{all_repeated, with_names}
use Rattle.icn_tree.specs.NameSets.{has}
use Rattle.icn_decls.specs.Views.{first_of}
use Rattle.icn_decls.proofs.decl.check_names.Given as goal

-- what is left breaks first what all of them do
abbrev pub invariant-loop-name : goal.invariant-loop-name
invariant-loop-name l =
    (first_of (all_repeated l.rule (has l.met) (drop l.name-index l.names)) ≡ first_of (all_repeated l.rule (has l.fn.met) l.names))
    × (with_names (has l.met) (drop l.name-index l.names) ≡ with_names (has l.fn.met) l.names)
