use Rattle.std.proofs.Common.{refl, ◌+◌, [], map, fold, length}
use Rattle.icn_value.specs.Sameness.{with_member}
use Rattle.icn_heap.specs.Extents.{value_in}
use Rattle.icn_heap.specs.MadeStructures.{having_members}
use Rattle.icn_heap.specs.Heaps.{extent_of, heap_of}
use Rattle.icn_heap.proofs.GrowingHeaps.{live_kept}
use Rattle.icn_vars.proofs.HeapChanges.{cells_change, fields_behind}
use Rattle.icn_structfn.proofs.NewStructures.{structure_made, structure_refused, set_number, sets_stay}
use Rattle.icn_structfn.proofs.making.new_set.Goals as goal

pub returns-in_err-set_from-clause-found : goal.returns-in_err-set_from-clause-found
returns-in_err-set_from-clause-found g c =
    structure_refused c.args.w.now.heap c.set_from.new.self c.args.w.now.pair c.args.w.now.words c.args.w.now.globals.items c.args.w.now.statics.items
    (g.L.Locals.items c.args.l.now) c.set_from.ensures.kept
    c.args.w.now.sound c.requires.locals (1 + length (fold with_member [] (map (value_in (extent_of c.args.w.now.heap)) c.args.vals.now)))
    (having_members (fold with_member [] (map (value_in (extent_of c.args.w.now.heap)) c.args.vals.now))) set_number
    (value_in (extent_of c.set_from.new.self)) c.in_err-set_from.field-0.0 c.from_residual.result c.in_err-set_from.ensures.unchanged
    c.in_err-set_from.ensures.step c.from_residual.ensures.1

pub returns-clause-found : goal.returns-clause-found
returns-clause-found g c =
    structure_made c.args.w.now.heap c.set_from.new.self c.args.w.now.pair c.args.w.now.words c.args.w.now.globals.items c.args.w.now.statics.items
    (g.L.Locals.items c.args.l.now) c.set_from.ensures.kept
    c.args.w.now.sound c.requires.locals (1 + length (fold with_member [] (map (value_in (extent_of c.args.w.now.heap)) c.args.vals.now)))
    (having_members (fold with_member [] (map (value_in (extent_of c.args.w.now.heap)) c.args.vals.now))) set_number
    (sets_stay (heap_of c.args.w.now.heap))
    (value_in (extent_of c.set_from.new.self) c.in_ok-set_from.field-0) c.in_ok-set_from.ensures.value c.in_ok-set_from.ensures.step

pub returns-clause-kept : goal.returns-clause-kept
returns-clause-kept g c = record {
  locals = live_kept c.set_from.ensures.kept _ c.requires.locals;
  items = record {
    extent = c.set_from.ensures.kept;
    fields = fields_behind (cells_change (1 + length (fold with_member [] (map (value_in (extent_of c.args.w.now.heap)) c.args.vals.now))))
        (having_members (fold with_member [] (map (value_in (extent_of c.args.w.now.heap)) c.args.vals.now))) (λ heap. refl) (heap_of c.args.w.now.heap)
        (heap_of c.set_from.new.self) c.in_ok-set_from.ensures.step;
    globals = refl;
    statics = refl;
    locals = refl;
  };
}
