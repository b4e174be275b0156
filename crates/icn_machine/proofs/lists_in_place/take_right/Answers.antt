use Rattle.std.proofs.Common.{ap, refl}
use Rattle.icn_structs.specs.Numbered.{rightmost, without_right}
use Rattle.icn_value.specs.Store.{Heap}
use Rattle.icn_heap.specs.Heaps.{heap_of}
use Rattle.icn_structfn.proofs.TakenElements.{right_none}
use Rattle.icn_vars.proofs.HeapChanges.{same_records}
use Rattle.icn_machine.proofs.ListCalls.{takes_one}
use Rattle.icn_machine.proofs.lists_in_place.take_right.Goals as goal

pub returns : goal.returns
returns c =
    let w = c.args.world.now in
    let new = c.pull.new.self in
    let step = c.pull.ensures.step in
    record {
      comes = λ names outside locals live.
          takes_one outside w.heap new w.pair w.words w.globals.items w.statics.items locals c.pull.ensures.kept w.sound live c.args.list
          rightmost without_right
          right_none c.pull.result c.pull.ensures.item step;
      live = c.pull.ensures.live;
      kept = record {
        extent = c.pull.ensures.kept;
        fields = same_records (heap_of w.heap) (heap_of new) (ap (λ (h : Heap). h.records) step);
        globals = refl;
        statics = refl;
        locals = refl;
      };
      counts = record { bounds = ap (λ (h : Heap). h.bounds) step; coexps = ap (λ (h : Heap). h.coexps) step };
    }
