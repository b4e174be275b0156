-- The heap changes, and nothing else.
use Rattle.std.proofs.Common.{refl, sym, ap}
use Rattle.icn_value.specs.Store.{Heap}
use Rattle.icn_heap.specs.Heaps.{heap_of}
use Rattle.icn_heap.proofs.GrowingHeaps.{live_kept}
use Rattle.icn_vars.proofs.GrowingWorlds.{heap_changed}
use Rattle.icn_vars.proofs.HeapChanges.{same_records}
use Rattle.icn_filefn.proofs.closing.shut_file.Goals as goal

pub returns-clause-step : goal.returns-clause-step
returns-clause-step g c = λ outside.
    sym (heap_changed outside c.args.w.now.heap c.shut.new.self c.args.w.now.pair c.args.w.now.words c.args.w.now.globals.items c.args.w.now.statics.items
    (g.L.Locals.items c.args.l.now) c.shut.ensures.kept c.shut.ensures.step c.args.w.now.sound c.requires.locals)

pub returns-clause-kept : goal.returns-clause-kept
returns-clause-kept g c = record {
  locals = live_kept c.shut.ensures.kept _ c.requires.locals;
  items = record {
    extent = c.shut.ensures.kept;
    fields = same_records (heap_of c.args.w.now.heap) (heap_of c.shut.new.self) (ap (λ (heap : Heap). heap.records) c.shut.ensures.step);
    globals = refl;
    statics = refl;
    locals = refl;
  };
}
