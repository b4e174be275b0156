use Rattle.std.proofs.Common.{refl}
use Rattle.icn_structs.specs.Numbered.{with_right}
use Rattle.icn_value.specs.declared.val.Val.TheVariants as Vals
use Rattle.icn_heap.specs.Extents.{value_in}
use Rattle.icn_heap.specs.Heaps.{extent_of, heap_of}
use Rattle.icn_machine.proofs.ListCalls.{adds_one, grown_counted, grown_fields}
use Rattle.icn_machine.proofs.lists_in_place.put_right.Goals as goal

pub returns-in-Ok : goal.returns-in-Ok
returns-in-Ok c q =
    let w = c.args.world.now in
    let new = c.put.new.self in
    let value = value_in (extent_of w.heap) c.args.val in
    let step = c.in-Ok.ensures.step in
    let counted = grown_counted with_right (heap_of w.heap) (heap_of new) c.args.list value step in
    record {
      comes = λ names outside locals live.
          adds_one outside w.heap new w.pair w.words w.globals.items w.statics.items locals c.put.ensures.kept w.sound live c.args.list with_right value step;
      live = c.put.ensures.kept.live (Vals.List c.args.list) c.requires.list;
      kept = record {
        extent = c.put.ensures.kept;
        fields = grown_fields with_right (heap_of w.heap) (heap_of new) c.args.list value step;
        globals = refl;
        statics = refl;
        locals = refl;
      };
      counts = record { bounds = counted.bounds; coexps = counted.coexps };
    }

pub returns-in-Err : goal.returns-in-Err
returns-in-Err c q = absurd (cc q)
