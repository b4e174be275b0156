use Rattle.std.proofs.Common.{refl}
use Rattle.std.specs.Prelude.{is_some}
use Rattle.icn_value.specs.Values.{Key}
use Rattle.icn_value.specs.Changes.{value_at_key, with_pair}
use Rattle.icn_defs.specs.ReadAndAssign.{assigns_root}
use Rattle.icn_heap.specs.Extents.{value_in}
use Rattle.icn_heap.specs.Heaps.{extent_of, heap_of}
use Rattle.icn_heap.proofs.GrowingHeaps.{live_kept}
use Rattle.icn_vars.specs.Stops.{stop_of}
use Rattle.icn_vars.specs.Worlds.{setting_of}
use Rattle.icn_vars.proofs.HeapChanges.{fields_behind, unless_change}
use Rattle.icn_vars.proofs.GrowingWorlds.{setting_over}
use Rattle.icn_vars.proofs.RootChanges.{key_assigned, key_stops, root_err}
use Rattle.icn_vars.proofs.roots.assign_key.Goals as goal

pub returns-in_err-store-clause-assigned : goal.returns-in_err-store-clause-assigned
returns-in_err-store-clause-assigned g c = λ outside.
    root_err (extent_of c.store.new.self) (λ refused. assigns_root refused (Key c.args.table (value_in (extent_of c.args.w.now.heap) c.args.key))
    (value_in (extent_of c.args.w.now.heap) c.args.val)) (setting_of outside c.args.w.now (g.L.Locals.items c.args.l.now)) (setting_over outside
    c.store.new.self c.args.w.now.pair c.args.w.now.words c.args.w.now.globals.items c.args.w.now.statics.items (g.L.Locals.items c.args.l.now))
    (stop_of c.in_err-store.field-0.0) c.from_residual.result c.from_residual.ensures.1
    (key_stops outside c.args.w.now.heap c.store.new.self c.args.w.now.pair c.args.w.now.words c.args.w.now.globals.items c.args.w.now.statics.items
    (g.L.Locals.items c.args.l.now) c.store.ensures.kept c.args.w.now.sound c.requires.locals
    (extent_of c.store.new.self) c.args.table (value_in (extent_of c.args.w.now.heap) c.args.key)
    (value_in (extent_of c.args.w.now.heap) c.args.val) c.in_err-store.field-0.0 c.in_err-store.ensures.unchanged c.in_err-store.ensures.step)

pub returns-clause-assigned : goal.returns-clause-assigned
returns-clause-assigned g c = λ outside.
    key_assigned outside c.args.w.now.heap c.store.new.self c.args.w.now.pair c.args.w.now.words c.args.w.now.globals.items c.args.w.now.statics.items
    (g.L.Locals.items c.args.l.now) c.store.ensures.kept c.args.w.now.sound c.requires.locals c.args.table (value_in (extent_of c.args.w.now.heap) c.args.key)
    (value_in (extent_of c.args.w.now.heap) c.args.val) c.in_ok-store.ensures.step

pub returns-clause-kept : goal.returns-clause-kept
returns-clause-kept g c = record {
  locals = live_kept c.store.ensures.kept _ c.requires.locals;
  items = record {
    extent = c.store.ensures.kept;
    fields = fields_behind (unless_change (is_some (value_at_key (heap_of c.args.w.now.heap) c.args.table (value_in (extent_of c.args.w.now.heap) c.args.key))))
        (with_pair c.args.table (value_in (extent_of c.args.w.now.heap) c.args.key) (value_in (extent_of c.args.w.now.heap) c.args.val)) (λ heap. refl)
        (heap_of c.args.w.now.heap) (heap_of c.store.new.self) c.in_ok-store.ensures.step;
    globals = refl;
    statics = refl;
    locals = refl;
  };
}
