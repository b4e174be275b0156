use Rattle.icn_heap.specs.Heaps.{extent_of}
use Rattle.icn_vars.proofs.GrowingWorlds.{grows}
use Rattle.test_store.proofs.variables.worlds.world.Goals as goal

pub invariant_of-w : goal.invariant_of-w
invariant_of-w c = record {
  sound = grows (extent_of c.add_static.new.w.heap) (extent_of c.make_list.new.self) c.add_static.new.w.pair c.add_static.new.w.words
      c.add_static.new.w.globals.items c.add_static.new.w.statics.items c.make_list.ensures.kept c.add_static.new.w.sound;
}

pub invariant_of-w-2 : goal.invariant_of-w-2
invariant_of-w-2 c = record {
  sound = grows (extent_of c.add_static-2.new.w.heap) (extent_of c.make_rec.new.self) c.add_static-2.new.w.pair c.add_static-2.new.w.words
      c.add_static-2.new.w.globals.items c.add_static-2.new.w.statics.items c.make_rec.ensures.kept c.add_static-2.new.w.sound;
}

pub invariant_of-w-3 : goal.invariant_of-w-3
invariant_of-w-3 c = record {
  sound = grows (extent_of c.add_static-3.new.w.heap) (extent_of c.make_table.new.self) c.add_static-3.new.w.pair c.add_static-3.new.w.words
      c.add_static-3.new.w.globals.items c.add_static-3.new.w.statics.items c.make_table.ensures.kept c.add_static-3.new.w.sound;
}
