use Rattle.std.proofs.Common.{sym, subst}
use Rattle.icn_structs.specs.PairLists.{KeysDiffer}
use Rattle.icn_value.specs.Sameness.{same}
use Rattle.icn_value.specs.Store.{Table}
use Rattle.icn_heap.specs.Heaps.{extent_of, heap_of, parts_of}
use Rattle.icn_heap.proofs.DistinctKeys.{keys_apart}
use Rattle.icn_heap.proofs.OtherChanges.{table_view, table_sound}
use Rattle.icn_heap.proofs.heap_laws.keys_differ.Goals as goal

pub returns : goal.returns
unfolding extent_of heap_of
returns c =
    subst (λ (table : Table). KeysDiffer same table.pairs) (sym (table_view (extent_of c.args.heap.now) (parts_of c.args.heap.now) c.args.table))
    (keys_apart (extent_of c.args.heap.now) _ (table_sound (parts_of c.args.heap.now) c.args.heap.now.sound c.args.table c.requires.live).pairs
    c.keys_of_pairs_differ.ensures)
