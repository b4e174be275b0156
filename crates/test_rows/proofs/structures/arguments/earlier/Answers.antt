use Rattle.icn_heap.specs.Heaps.{extent_of}
use Rattle.test_values.proofs.NamedValues.{got_live, got_named}
use Rattle.test_values.specs.OneRecord.{one_record}
use Rattle.test_rows.proofs.structures.arguments.earlier.Goals as goal

pub returns-then-place-len-clause-live : goal.returns-then-place-len-clause-live
returns-then-place-len-clause-live c = got_live (extent_of c.args.w.now.heap) c.args.w.now.globals.items c.deref.result.now
    _ c.value_at.result c.deref.ensures.value c.value_at.ensures c.args.w.now.sound.live_globals

pub returns-then-place-len-clause-named : goal.returns-then-place-len-clause-named
returns-then-place-len-clause-named c = got_named one_record (extent_of c.args.w.now.heap) c.args.w.now.globals.items c.deref.result.now
    _ c.value_at.result c.deref.ensures.value c.value_at.ensures c.requires.world.globals
