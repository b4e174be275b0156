use Rattle.std.proofs.Common.{subst, sym, List}
use Rattle.std.specs.List.{All}
use Rattle.std.proofs.lemmas.List.Elements.{All-nil}
use Rattle.icn_value.specs.declared.val.Val.{Val}
use Rattle.icn_heap.specs.Extents.{IsLive}
use Rattle.icn_heap.specs.Heaps.{extent_of}
use Rattle.test_rows.proofs.structures.calls.apply_to_arguments.Goals as goal

pub apply_to_values-requires-clause-locals : goal.apply_to_values-requires-clause-locals
apply_to_values-requires-clause-locals c =
    subst (λ (vals : List Val). All (IsLive (extent_of c.args.w.now.heap)) vals) (sym c.requires.locals) (All-nil (IsLive (extent_of c.args.w.now.heap)))
