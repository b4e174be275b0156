-- The heap changes, and nothing else; where memory is wanting it stays as it was.
use Rattle.std.proofs.Common.{refl, sym, ap}
use Rattle.icn_value.specs.Store.{Heap}
use Rattle.icn_heap.specs.Heaps.{heap_of}
use Rattle.icn_heap.proofs.GrowingHeaps.{live_kept}
use Rattle.icn_vars.proofs.GrowingWorlds.{heap_changed}
use Rattle.icn_vars.proofs.HeapChanges.{same_records}
use Rattle.icn_iofn.proofs.PutSteps.{added_or_same, on_ok_map}
use Rattle.icn_iofn.proofs.putting.add_text.Goals as goal

pub returns-clause-step : goal.returns-clause-step
returns-clause-step g c =
    on_ok_map c.add_to_file.result c.add_to_file.ensures.step
    (λ step outside. sym (heap_changed outside c.args.w.now.heap c.add_to_file.new.self c.args.w.now.pair c.args.w.now.words c.args.w.now.globals.items
    c.args.w.now.statics.items (g.L.Locals.items c.args.l.now) c.add_to_file.ensures.kept step c.args.w.now.sound c.requires.locals))

pub returns-clause-kept : goal.returns-clause-kept
returns-clause-kept g c = record {
  locals = live_kept c.add_to_file.ensures.kept _ c.requires.locals;
  items = record {
    extent = c.add_to_file.ensures.kept;
    fields = same_records (heap_of c.args.w.now.heap) (heap_of c.add_to_file.new.self)
        (added_or_same c.add_to_file.result (heap_of c.args.w.now.heap) (heap_of c.add_to_file.new.self)
        (on_ok_map c.add_to_file.result c.add_to_file.ensures.step (λ step. ap (λ (heap : Heap). heap.records) step)) c.add_to_file.ensures.unchanged);
    globals = refl;
    statics = refl;
    locals = refl;
  };
}
