-- The heap changes, and nothing else.
use Rattle.std.proofs.Common.{◌∙◌, refl, sym, ap}
use Rattle.icn_value.specs.Store.{Heap, file_at}
use Rattle.icn_heap.specs.Heaps.{heap_of}
use Rattle.icn_heap.proofs.GrowingHeaps.{live_kept}
use Rattle.icn_vars.proofs.GrowingWorlds.{heap_changed}
use Rattle.icn_vars.proofs.HeapChanges.{same_records}
use Rattle.icn_streams.proofs.OpenedReads.{content_stays}
use Rattle.icn_streams.proofs.opened.move_to.Goals as goal

pub returns-clause-step : goal.returns-clause-step
returns-clause-step g c = λ outside.
    sym (heap_changed outside c.args.w.now.heap c.read_to.new.self c.args.w.now.pair c.args.w.now.words c.args.w.now.globals.items c.args.w.now.statics.items
    (g.L.Locals.items c.args.l.now) c.read_to.ensures.kept c.read_to.ensures.step c.args.w.now.sound c.requires.locals)

pub returns-clause-content : goal.returns-clause-content
returns-clause-content g c =
    ap (λ (heap : Heap). (file_at heap c.args.number).content) c.read_to.ensures.step
    ∙ content_stays (heap_of c.args.w.now.heap).files c.args.number c.args.place

pub returns-clause-kept : goal.returns-clause-kept
returns-clause-kept g c = record {
  locals = live_kept c.read_to.ensures.kept _ c.requires.locals;
  items = record {
    extent = c.read_to.ensures.kept;
    fields = same_records (heap_of c.args.w.now.heap) (heap_of c.read_to.new.self) (ap (λ (heap : Heap). heap.records) c.read_to.ensures.step);
    globals = refl;
    statics = refl;
    locals = refl;
  };
}
