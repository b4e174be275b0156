use Rattle.std.proofs.Common.{◌≡◌, ◌∙◌, ap, [], map, fold}
use Rattle.icn_value.specs.Store.{Table, table_at}
use Rattle.icn_heap.specs.Extents.{value_in, values_in}
use Rattle.icn_heap.specs.HeapParts.{pair_in}
use Rattle.icn_heap.specs.MadeStructures.{with_stored}
use Rattle.icn_heap.specs.Heaps.{extent_of, heap_of}
use Rattle.icn_heap.proofs.JoinedValues.{fold_pairs}
use Rattle.icn_heap.proofs.heap.Heap.entries_like.Goals as goal

pub returns-clause-table : goal.returns-clause-table
returns-clause-table c =
    let pairs : map (pair_in (extent_of c.args.self.now)) c.in_ok-pairs_from.field-0 ≡ (table_at (heap_of c.args.self.now) c.args.table).pairs =
    c.in_ok-pairs_from.ensures.pairs
    ∙ (ap (λ vals. fold with_stored [] (map (values_in (extent_of c.args.self.now)) vals)) c.deref.ensures.value
    ∙ (ap (fold with_stored []) c.in_ok-pairs.ensures.pairs ∙ fold_pairs (table_at (heap_of c.args.self.now) c.args.table).pairs c.keys_differ.ensures)) in
    ap (λ pairs. let table : Table = record { default = value_in (extent_of c.args.self.now) c.default.result; pairs = pairs } in table) pairs
    ∙ ap (λ default. let table : Table = record { default = default; pairs = (table_at (heap_of c.args.self.now) c.args.table).pairs } in table)
    c.default.ensures.value
