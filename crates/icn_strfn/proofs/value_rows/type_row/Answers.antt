use Rattle.std.proofs.Common.{◌∙◌, sym, ap, map}
use Rattle.icn_value.specs.Values.{Text}
use Rattle.icn_defs.specs.Rows.{gives_value}
use Rattle.icn_heap.specs.Extents.{value_in}
use Rattle.icn_heap.specs.Heaps.{extent_of, heap_of}
use Rattle.icn_vars.specs.Worlds.{setting_of}
use Rattle.icn_strfn.proofs.RowAnswers.{row_goes_on}
use Rattle.icn_defs.specs.Images.{type_name}
use Rattle.icn_defs.specs.Strings.{type_row}
use Rattle.icn_strfn.proofs.value_rows.type_row.Goals as goal

pub returns-clause-row : goal.returns-clause-row
returns-clause-row g c = λ outside.
    row_goes_on (extent_of c.hold_text.new.w.heap) (type_row (g.N.Names.known c.args.names.now) (map (value_in (extent_of c.args.w.now.heap)) c.args.args.now))
    (gives_value (Text c.type_name-name.result.now)) (setting_of outside c.args.w.now (g.L.Locals.items c.args.l.now))
    (setting_of outside c.args.w.now (g.L.Locals.items c.args.l.now)) (setting_of outside c.hold_text.new.w (g.L.Locals.items c.args.l.now)) c.hold_text.result
    (ap (λ bytes. gives_value (Text bytes) (setting_of outside c.args.w.now (g.L.Locals.items c.args.l.now))) (ap (type_name (g.N.Names.known c.args.names.now)
    (heap_of c.args.w.now.heap)) (sym (c.arg-val.ensures.value (extent_of c.args.w.now.heap))) ∙ sym c.type_name-name.ensures))
    (c.hold_text.ensures.row outside)
