use Rattle.std.proofs.Common.{◌∙◌, ap}
use Rattle.icn_heap.proofs.RefusedChanges.{on_err, other_same}
use Rattle.icn_heap.specs.declared.entries.Entries.{Entries}
use Rattle.icn_heap.specs.HeapParts.{no_entries}
use Rattle.icn_heap.proofs.entries.entry_stored_at.Goals as goal

pub returns-in_err-store-clause-err : goal.returns-in_err-store-clause-err
returns-in_err-store-clause-err c =
    on_err c.from_residual.result
    (other_same c.args.tables.now.shelf c.args.table no_entries _
    (ap (λ pairs. let table : Entries = record { default = c.at_mut.result.now.default; pairs = pairs } in table) c.in_err-store.ensures.unchanged
    ∙ c.at_mut.ensures.thing no_entries))
