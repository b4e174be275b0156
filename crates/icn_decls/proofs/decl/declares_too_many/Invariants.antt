use Rattle.std.proofs.Common.{◌≡◌, ◌+◌, length, map, drop, nat_lt}
use Rattle.std.specs.List.{flat_map}
use Rattle.icn_tree.specs.TreeOf.{locals_of, procedure_of}
use Rattle.icn_decls.specs.Faults.{declared_names}
use Rattle.icn_decls.proofs.decl.declares_too_many.Given as goal

-- those counted and those left are too many together exactly where all are
abbrev pub invariant-loop-local : goal.invariant-loop-local
invariant-loop-local l =
    nat_lt 65535 (l.count + length (flat_map (λ locals. locals.names) (map locals_of (drop l.local-index l.procedure.locals.items))))
    ≡ nat_lt 65535 (length (declared_names (procedure_of l.procedure)))
