use Rattle.std.proofs.Common.{refl, ◌+◌, length}
use Rattle.icn_value.specs.Store.{table_at}
use Rattle.icn_heap.specs.Extents.{value_in}
use Rattle.icn_heap.specs.MadeStructures.{having_table_of}
use Rattle.icn_heap.specs.Heaps.{extent_of, heap_of}
use Rattle.icn_heap.proofs.GrowingHeaps.{live_kept}
use Rattle.icn_vars.proofs.HeapChanges.{cells_change, fields_behind}
use Rattle.icn_structfn.proofs.NewStructures.{structure_made, structure_refused, table_number, tables_stay}
use Rattle.icn_structfn.proofs.making.table_like.Goals as goal

pub returns-in_err-copy_table-clause-found : goal.returns-in_err-copy_table-clause-found
returns-in_err-copy_table-clause-found g c =
    structure_refused c.args.w.now.heap c.copy_table.new.self c.args.w.now.pair c.args.w.now.words c.args.w.now.globals.items c.args.w.now.statics.items
    (g.L.Locals.items c.args.l.now) c.copy_table.ensures.kept
    c.args.w.now.sound c.requires.locals (1 + length (table_at (heap_of c.args.w.now.heap) c.args.table).pairs)
    (having_table_of (table_at (heap_of c.args.w.now.heap) c.args.table)) table_number
    (value_in (extent_of c.copy_table.new.self)) c.in_err-copy_table.field-0.0 c.from_residual.result c.in_err-copy_table.ensures.unchanged
    c.in_err-copy_table.ensures.step c.from_residual.ensures.1

pub returns-clause-found : goal.returns-clause-found
returns-clause-found g c =
    structure_made c.args.w.now.heap c.copy_table.new.self c.args.w.now.pair c.args.w.now.words c.args.w.now.globals.items c.args.w.now.statics.items
    (g.L.Locals.items c.args.l.now) c.copy_table.ensures.kept
    c.args.w.now.sound c.requires.locals (1 + length (table_at (heap_of c.args.w.now.heap) c.args.table).pairs)
    (having_table_of (table_at (heap_of c.args.w.now.heap) c.args.table)) table_number
    (tables_stay (heap_of c.args.w.now.heap))
    (value_in (extent_of c.copy_table.new.self) c.in_ok-copy_table.field-0) c.in_ok-copy_table.ensures.value c.in_ok-copy_table.ensures.step

pub returns-clause-kept : goal.returns-clause-kept
returns-clause-kept g c = record {
  locals = live_kept c.copy_table.ensures.kept _ c.requires.locals;
  items = record {
    extent = c.copy_table.ensures.kept;
    fields = fields_behind (cells_change (1 + length (table_at (heap_of c.args.w.now.heap) c.args.table).pairs))
        (having_table_of (table_at (heap_of c.args.w.now.heap) c.args.table)) (λ heap. refl) (heap_of c.args.w.now.heap)
        (heap_of c.copy_table.new.self) c.in_ok-copy_table.ensures.step;
    globals = refl;
    statics = refl;
    locals = refl;
  };
}
