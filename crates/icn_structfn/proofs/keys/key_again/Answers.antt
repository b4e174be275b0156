use Rattle.std.proofs.Common.{sym, ◌<◌, length, arith}
use Rattle.icn_value.specs.Store.{table_at}
use Rattle.icn_heap.specs.Heaps.{heap_of}
use Rattle.std.proofs.lemmas.Option.{slice_get_within}
use Rattle.icn_structfn.proofs.keys.key_again.Goals as goal

pub overflow_add-result : goal.overflow_add-result
overflow_add-result g c =
    let there : c.args.place < length (table_at (heap_of c.args.w.now.heap) c.args.table).pairs =
    slice_get_within (table_at (heap_of c.args.w.now.heap) c.args.table).pairs c.args.place _ (sym c.in-Some.ensures.pair) in
    let few = c.few_pairs.ensures in
    omega arith
