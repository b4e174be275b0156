use Rattle.icn_heap.specs.Heaps.{extent_of}
use Rattle.test_rows.proofs.apply.words.add_word.Goals as goal

pub add_value-requires-in_default-clause-live : goal.add_value-requires-in_default-clause-live
add_value-requires-in_default-clause-live g c = c.constant.ensures.live (extent_of c.args.w.now.heap)

pub add_value-requires-in_default-clause-named : goal.add_value-requires-in_default-clause-named
add_value-requires-in_default-clause-named g c = c.constant.ensures.named (g.N.Names.known c.args.names.now) (extent_of c.args.w.now.heap)
