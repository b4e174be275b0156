use Rattle.std.proofs.Common.{refl}
use Rattle.icn_heap.specs.Heaps.{heap_of}
use Rattle.icn_vars.proofs.HeapChanges.{same_heap}
use Rattle.icn_control.proofs.TextSteps.{world_same}
use Rattle.icn_control.proofs.texts.hold.Goals as goal

pub returns-clause-kept : goal.returns-clause-kept
returns-clause-kept c = record {
  extent = c.hold.ensures.kept;
  fields = same_heap (heap_of c.args.world.now.heap) (heap_of c.hold.new.self) c.hold.ensures.unchanged;
  globals = refl;
  statics = refl;
  locals = refl;
}

pub returns-clause-world : goal.returns-clause-world
returns-clause-world c =
    let w = c.args.world.now in
    world_same w.heap c.hold.new.self w.pair w.words w.globals.items w.statics.items c.hold.ensures.kept c.hold.ensures.unchanged w.sound
