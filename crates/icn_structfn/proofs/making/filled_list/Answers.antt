use Rattle.std.proofs.Common.{refl, ◌+◌, length, replicate}
use Rattle.icn_value.specs.Changes.{having_list}
use Rattle.icn_heap.specs.Extents.{value_in}
use Rattle.icn_heap.specs.Heaps.{extent_of, heap_of}
use Rattle.icn_heap.proofs.GrowingHeaps.{live_kept}
use Rattle.icn_vars.proofs.HeapChanges.{cells_change, fields_behind}
use Rattle.icn_structfn.proofs.NewStructures.{structure_made, structure_refused, list_number, lists_stay}
use Rattle.icn_structfn.proofs.making.filled_list.Goals as goal

pub returns-in_err-make_list-clause-found : goal.returns-in_err-make_list-clause-found
returns-in_err-make_list-clause-found g c =
    structure_refused c.args.w.now.heap c.make_list.new.self c.args.w.now.pair c.args.w.now.words c.args.w.now.globals.items c.args.w.now.statics.items
    (g.L.Locals.items c.args.l.now) c.make_list.ensures.kept
    c.args.w.now.sound c.requires.locals (1 + length (replicate c.args.count (value_in (extent_of c.args.w.now.heap) c.args.fill)))
    (having_list (replicate c.args.count (value_in (extent_of c.args.w.now.heap) c.args.fill))) list_number
    (value_in (extent_of c.make_list.new.self)) c.in_err-make_list.field-0.0 c.from_residual.result c.in_err-make_list.ensures.unchanged
    c.in_err-make_list.ensures.step c.from_residual.ensures.1

pub returns-clause-found : goal.returns-clause-found
returns-clause-found g c =
    structure_made c.args.w.now.heap c.make_list.new.self c.args.w.now.pair c.args.w.now.words c.args.w.now.globals.items c.args.w.now.statics.items
    (g.L.Locals.items c.args.l.now) c.make_list.ensures.kept
    c.args.w.now.sound c.requires.locals (1 + length (replicate c.args.count (value_in (extent_of c.args.w.now.heap) c.args.fill)))
    (having_list (replicate c.args.count (value_in (extent_of c.args.w.now.heap) c.args.fill))) list_number
    (lists_stay (heap_of c.args.w.now.heap))
    (value_in (extent_of c.make_list.new.self) c.in_ok-make_list.field-0) c.in_ok-make_list.ensures.value c.in_ok-make_list.ensures.step

pub returns-clause-kept : goal.returns-clause-kept
returns-clause-kept g c = record {
  locals = live_kept c.make_list.ensures.kept _ c.requires.locals;
  items = record {
    extent = c.make_list.ensures.kept;
    fields = fields_behind (cells_change (1 + length (replicate c.args.count (value_in (extent_of c.args.w.now.heap) c.args.fill))))
        (having_list (replicate c.args.count (value_in (extent_of c.args.w.now.heap) c.args.fill))) (λ heap. refl) (heap_of c.args.w.now.heap)
        (heap_of c.make_list.new.self) c.in_ok-make_list.ensures.step;
    globals = refl;
    statics = refl;
    locals = refl;
  };
}
