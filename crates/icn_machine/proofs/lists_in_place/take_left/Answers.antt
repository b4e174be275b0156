use Rattle.std.proofs.Common.{ap, refl}
use Rattle.icn_structs.specs.Numbered.{leftmost, without_left}
use Rattle.icn_value.specs.Store.{Heap}
use Rattle.icn_heap.specs.Heaps.{heap_of}
use Rattle.icn_structfn.proofs.TakenElements.{left_none}
use Rattle.icn_vars.proofs.HeapChanges.{same_records}
use Rattle.icn_machine.proofs.ListCalls.{takes_one}
use Rattle.icn_machine.proofs.lists_in_place.take_left.Goals as goal

pub returns-clause-get : goal.returns-clause-get
returns-clause-get c =
    let w = c.args.world.now in
    let new = c.get.new.self in
    let step = c.get.ensures.step in
    record {
      comes = λ names outside locals live.
          takes_one outside w.heap new w.pair w.words w.globals.items w.statics.items locals c.get.ensures.kept w.sound live c.args.list leftmost without_left
          left_none c.get.result c.get.ensures.item step;
      live = c.get.ensures.live;
      kept = record {
        extent = c.get.ensures.kept;
        fields = same_records (heap_of w.heap) (heap_of new) (ap (λ (h : Heap). h.records) step);
        globals = refl;
        statics = refl;
        locals = refl;
      };
      counts = record { bounds = ap (λ (h : Heap). h.bounds) step; coexps = ap (λ (h : Heap). h.coexps) step };
    }

pub returns-clause-pop : goal.returns-clause-pop
returns-clause-pop c =
    let w = c.args.world.now in
    let new = c.get.new.self in
    let step = c.get.ensures.step in
    record {
      comes = λ names outside locals live.
          takes_one outside w.heap new w.pair w.words w.globals.items w.statics.items locals c.get.ensures.kept w.sound live c.args.list leftmost without_left
          left_none c.get.result c.get.ensures.item step;
      live = c.get.ensures.live;
      kept = record {
        extent = c.get.ensures.kept;
        fields = same_records (heap_of w.heap) (heap_of new) (ap (λ (h : Heap). h.records) step);
        globals = refl;
        statics = refl;
        locals = refl;
      };
      counts = record { bounds = ap (λ (h : Heap). h.bounds) step; coexps = ap (λ (h : Heap). h.coexps) step };
    }
