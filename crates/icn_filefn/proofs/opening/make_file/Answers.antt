-- A cell is charged, and the file is made.
use Rattle.std.proofs.Common.{refl, string_bytes}
use Rattle.icn_value.specs.Changes.{having_file, new_file}
use Rattle.icn_heap.specs.Extents.{value_in}
use Rattle.icn_heap.specs.Heaps.{extent_of, heap_of}
use Rattle.icn_heap.proofs.GrowingHeaps.{live_kept}
use Rattle.icn_vars.proofs.HeapChanges.{cells_change, fields_behind}
use Rattle.icn_filefn.proofs.NewFiles.{file_made, file_refused}
use Rattle.icn_filefn.proofs.opening.make_file.Goals as goal

pub returns-in_err-open_file-clause-found : goal.returns-in_err-open_file-clause-found
returns-in_err-open_file-clause-found g c = λ outside.
    file_refused c.args.w.now.heap c.open_file.new.self c.args.w.now.pair c.args.w.now.words c.args.w.now.globals.items c.args.w.now.statics.items
    (g.L.Locals.items c.args.l.now) c.open_file.ensures.kept c.args.w.now.sound c.requires
    (new_file (string_bytes c.args.name) c.args.mode c.args.content.items) (value_in (extent_of c.open_file.new.self)) c.in_err-open_file.field-0.0
    c.from_residual.result c.in_err-open_file.ensures.unchanged c.in_err-open_file.ensures.step c.from_residual.ensures.1 outside

pub returns-clause-found : goal.returns-clause-found
returns-clause-found g c = λ outside.
    file_made c.args.w.now.heap c.open_file.new.self c.args.w.now.pair c.args.w.now.words c.args.w.now.globals.items c.args.w.now.statics.items
    (g.L.Locals.items c.args.l.now) c.open_file.ensures.kept c.args.w.now.sound c.requires
    (new_file (string_bytes c.args.name) c.args.mode c.args.content.items) (value_in (extent_of c.open_file.new.self) c.in_ok-open_file.field-0)
    c.in_ok-open_file.ensures.value c.in_ok-open_file.ensures.step outside

pub returns-clause-kept : goal.returns-clause-kept
returns-clause-kept g c = record {
  locals = live_kept c.open_file.ensures.kept _ c.requires;
  items = record {
    extent = c.open_file.ensures.kept;
    fields = fields_behind (cells_change 1) (having_file (new_file (string_bytes c.args.name) c.args.mode c.args.content.items)) (λ heap. refl)
        (heap_of c.args.w.now.heap) (heap_of c.open_file.new.self) c.in_ok-open_file.ensures.step;
    globals = refl;
    statics = refl;
    locals = refl;
  };
}
