use Rattle.std.proofs.Common.{FitsSigned, refl, rules}
use Rattle.std.specs.Int.{w64}
use Rattle.std.proofs.lemmas.Int.{to_z-of_z}
use Rattle.icn_value.specs.Changes.{with_field}
use Rattle.icn_heap.specs.Extents.{value_in}
use Rattle.icn_heap.specs.Heaps.{extent_of, heap_of}
use Rattle.icn_heap.proofs.GrowingHeaps.{live_kept}
use Rattle.icn_vars.proofs.HeapChanges.{fields_by, fields_set}
use Rattle.icn_vars.proofs.ReadValues.{field_there}
use Rattle.icn_vars.proofs.RootChanges.{field_assigned, global_assigned, local_assigned, static_assigned}
use Rattle.icn_vars.proofs.roots.assign_root.Goals as goal

pub set_field-requires-clause-there : goal.set_field-requires-clause-there
set_field-requires-clause-there g c =
    let live = rw c.in-Field.is at c.requires.root.live in
    field_there (heap_of c.args.w.now.heap).records c.in-Field.rec c.in-Field.place live.1

pub returns-in-Global-clause-assigned : goal.returns-in-Global-clause-assigned
returns-in-Global-clause-assigned g c =
    rw c.in-Global.is (λ outside. global_assigned outside c.args.w.now.heap c.args.w.now.pair c.args.w.now.words c.args.w.now.globals.items
    c.args.w.now.statics.items (g.L.Locals.items c.args.l.now) c.in-Global.place c.args.val)

pub returns-in-Static-clause-assigned : goal.returns-in-Static-clause-assigned
returns-in-Static-clause-assigned g c =
    rw c.in-Static.is (λ outside. static_assigned outside c.args.w.now.heap c.args.w.now.pair c.args.w.now.words c.args.w.now.globals.items
    c.args.w.now.statics.items (g.L.Locals.items c.args.l.now) c.in-Static.place c.args.val)

pub returns-in-Local-clause-assigned : goal.returns-in-Local-clause-assigned
returns-in-Local-clause-assigned g c =
    let put = rw c.from.ensures at c.set.ensures in
    rw c.in-Local.is (λ outside. local_assigned outside c.args.w.now.heap c.args.w.now.pair c.args.w.now.words c.args.w.now.globals.items
    c.args.w.now.statics.items (g.L.Locals.items c.args.l.now) c.in-Local.place c.args.val (g.L.Locals.items c.set.new.self) put)

pub returns-in-Element-clause-assigned : goal.returns-in-Element-clause-assigned
returns-in-Element-clause-assigned g c =
    let fits : FitsSigned w64 c.in-Element.number = search rules in
    let same = to_z-of_z w64 c.in-Element.number fits in
    rw c.in-Element.is (rw same at c.assign_element.ensures.assigned)

pub returns-in-Field-clause-assigned : goal.returns-in-Field-clause-assigned
returns-in-Field-clause-assigned g c =
    rw c.in-Field.is (λ outside. field_assigned outside c.args.w.now.heap c.set_field.new.self c.args.w.now.pair c.args.w.now.words c.args.w.now.globals.items
    c.args.w.now.statics.items (g.L.Locals.items c.args.l.now) c.set_field.ensures.kept c.args.w.now.sound c.requires.locals c.in-Field.rec c.in-Field.place
    (value_in (extent_of c.args.w.now.heap) c.args.val) c.set_field.ensures.step)

pub returns-in-Field-clause-kept : goal.returns-in-Field-clause-kept
returns-in-Field-clause-kept g c = record {
  locals = live_kept c.set_field.ensures.kept _ c.requires.locals;
  items = record {
    extent = c.set_field.ensures.kept;
    fields = fields_by (heap_of c.args.w.now.heap) (with_field c.in-Field.rec c.in-Field.place (value_in (extent_of c.args.w.now.heap) c.args.val)
        (heap_of c.args.w.now.heap)) (heap_of c.set_field.new.self)
        (fields_set c.in-Field.rec c.in-Field.place (value_in (extent_of c.args.w.now.heap) c.args.val) (heap_of c.args.w.now.heap)) c.set_field.ensures.step;
    globals = refl;
    statics = refl;
    locals = refl;
  };
}

pub returns-in-Key-clause-assigned : goal.returns-in-Key-clause-assigned
returns-in-Key-clause-assigned g c = rw c.in-Key.is c.assign_key.ensures.assigned

pub returns-in-Keyword-clause-assigned : goal.returns-in-Keyword-clause-assigned
returns-in-Keyword-clause-assigned g c = rw c.in-Keyword.is c.assign_keyword.ensures.assigned
