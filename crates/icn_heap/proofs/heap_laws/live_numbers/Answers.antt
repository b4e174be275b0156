use Rattle.std.proofs.Common.{arith}
use Rattle.std.proofs.lemmas.List.{length-map}
use Rattle.icn_heap.specs.Heaps.{extent_of, heap_of}
use Rattle.icn_structs.proofs.ShelvedThings.{set_below}
use Rattle.icn_heap.proofs.heap_laws.live_numbers.Goals as goal

pub returns-clause-lists : goal.returns-clause-lists
unfolding extent_of heap_of
returns-clause-lists c id is =
    let below = set_below c.args.heap.now.lists.shelf.held id is.live in
    let long = c.args.heap.now.sound.structures.made_lists.long in
    rw length-map (omega (arith, below, long))

pub returns-clause-sets : goal.returns-clause-sets
unfolding extent_of heap_of
returns-clause-sets c id is =
    let below = set_below c.args.heap.now.sets.shelf.held id is.live in
    let long = c.args.heap.now.sound.structures.made_sets.long in
    rw length-map (omega (arith, below, long))

pub returns-clause-tables : goal.returns-clause-tables
unfolding extent_of heap_of
returns-clause-tables c id is =
    let below = set_below c.args.heap.now.tables.shelf.held id is.live in
    let long = c.args.heap.now.sound.structures.made_tables.long in
    rw length-map (omega (arith, below, long))

pub returns-clause-records : goal.returns-clause-records
unfolding extent_of heap_of
returns-clause-records c id is =
    let below = set_below c.args.heap.now.records.shelf.held id is.live in
    let long = c.args.heap.now.sound.structures.made_records.long in
    rw length-map (omega (arith, below, long))

pub returns-clause-coexps : goal.returns-clause-coexps
unfolding extent_of heap_of
returns-clause-coexps c id is = is.live
