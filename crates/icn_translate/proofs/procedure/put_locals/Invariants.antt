use Rattle.std.proofs.Common.{◌≡◌, ◌++◌, drop, map}
use Rattle.std.specs.List.{flat_map}
use Rattle.icn_tree.specs.TreeOf.{locals_of}
use Rattle.icn_translate.specs.ProcCodes.{local_entries}
use Rattle.icn_translate.proofs.procedure.put_locals.Given as goal

abbrev pub invariant-loop-local : goal.invariant-loop-local
invariant-loop-local l = l.entries.items ++ flat_map local_entries (map locals_of (drop l.local-index l.locals)) ≡ l.initial.entries.items
    ++ flat_map local_entries (map locals_of l.locals)
