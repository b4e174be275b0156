use Rattle.icn_heap.specs.Heaps.{extent_of}
use Rattle.test_rows.proofs.structures.arguments.add_word.Goals as goal
use Rattle.test_values.specs.OneRecord.{one_record}

pub add_value-requires-in_default-clause-live : goal.add_value-requires-in_default-clause-live
add_value-requires-in_default-clause-live c = c.plain.ensures.live _

pub add_value-requires-in_default-clause-named : goal.add_value-requires-in_default-clause-named
add_value-requires-in_default-clause-named c = c.plain.ensures.named one_record (extent_of c.args.w.now.heap)
