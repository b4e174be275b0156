use Rattle.std.proofs.Common.{◌≡◌, ◌+◌, ◌≤◌, drop, length, map}
use Rattle.std.specs.List.{flat_map}
use Rattle.icn_tree.specs.TreeOf.{locals_of}
use Rattle.icn_translate.specs.Drafts.{with_names}
use Rattle.icn_translate.specs.NumbersTaken.{local_numbers}
use Rattle.icn_translate.specs.ProcCodes.{local_texts}
use Rattle.icn_translate.proofs.procedure.enter_locals.Given as goal

abbrev pub invariant-loop-local : goal.invariant-loop-local
invariant-loop-local l = record {
  names : with_names (map (λ name. name.now) l.names.keys) (flat_map local_texts (map locals_of (drop l.local-index l.locals)))
      ≡ with_names (map (λ name. name.now) l.initial.names.keys) (flat_map local_texts (map locals_of l.locals));
  given : length l.names.keys + local_numbers (map locals_of (drop l.local-index l.locals))
      ≤ length l.initial.names.keys + local_numbers (map locals_of l.locals);
}
