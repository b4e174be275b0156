use Rattle.std.proofs.Common.{refl}
use Rattle.icn_heap.specs.Extents.{text_in}
use Rattle.icn_heap.specs.Heaps.{extent_of, heap_of}
use Rattle.icn_heap.proofs.GrowingHeaps.{live_kept}
use Rattle.icn_vars.proofs.HeapChanges.{same_heap}
use Rattle.icn_strfn.proofs.RowAnswers.{holds_text}
use Rattle.icn_strfn.proofs.endings.hold_text.Goals as goal

pub returns-clause-row : goal.returns-clause-row
returns-clause-row g c = λ outside.
    rw c.text.ensures (holds_text outside c.args.w.now.heap c.hold.new.self c.args.w.now.pair c.args.w.now.words c.args.w.now.globals.items
    c.args.w.now.statics.items (g.L.Locals.items c.args.l.now)
    c.args.bytes.now (text_in (extent_of c.hold.new.self) c.in_ok-span.span) c.hold.ensures.kept c.hold.ensures.unchanged c.args.w.now.sound c.requires
    c.in_ok-span.ensures.bytes)

pub returns-clause-kept : goal.returns-clause-kept
returns-clause-kept g c = record {
  locals = live_kept c.hold.ensures.kept _ c.requires;
  items = record {
    extent = c.hold.ensures.kept;
    fields = same_heap (heap_of c.args.w.now.heap) (heap_of c.hold.new.self) c.hold.ensures.unchanged;
    globals = refl;
    statics = refl;
    locals = refl;
  };
}
