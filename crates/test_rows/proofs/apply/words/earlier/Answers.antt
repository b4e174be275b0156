use Rattle.icn_heap.specs.Heaps.{extent_of}
use Rattle.test_values.proofs.NamedValues.{got_live, got_named}
use Rattle.test_rows.proofs.apply.words.earlier.Goals as goal

pub returns-clause-live : goal.returns-clause-live
returns-clause-live g c = got_live (extent_of c.args.w.now.heap) c.args.w.now.globals.items c.deref.result.now _ c.value_at.result c.deref.ensures.value
    c.value_at.ensures c.args.w.now.sound.live_globals

pub returns-clause-named : goal.returns-clause-named
returns-clause-named g c =
    got_named (g.N.Names.known c.args._names.now) (extent_of c.args.w.now.heap) c.args.w.now.globals.items c.deref.result.now
    _ c.value_at.result c.deref.ensures.value c.value_at.ensures c.requires.named.world.globals
