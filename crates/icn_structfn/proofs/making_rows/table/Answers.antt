use Rattle.std.proofs.Common.{◌∙◌, sym, ap, [], map}
use Rattle.icn_value.specs.Values.{Value}
use Rattle.icn_heap.specs.Extents.{value_in}
use Rattle.icn_heap.specs.Heaps.{extent_of}
use Rattle.icn_defs.specs.Rows.{gives_value}
use Rattle.icn_defs.specs.Structures.{new_table_of, table_row}
use Rattle.icn_vars.specs.Worlds.{setting_of}
use Rattle.icn_structfn.proofs.RowAnswers.{stops_finding}
use Rattle.icn_structfn.proofs.making_rows.table.Goals as goal

pub returns-in_err-table-clause-row : goal.returns-in_err-table-clause-row
returns-in_err-table-clause-row g c outside =
    stops_finding (extent_of c.new_table.new.w.heap) (table_row (map (value_in (extent_of c.args.w.now.heap)) c.args.args.now))
    (new_table_of (record { default = value_in (extent_of c.args.w.now.heap) c.arg.result; pairs = [] })) gives_value
    (setting_of outside c.args.w.now (g.L.Locals.items c.args.l.now)) (setting_of outside c.args.w.now (g.L.Locals.items c.args.l.now))
    (setting_of outside c.new_table.new.w (g.L.Locals.items c.args.l.now)) c.in_err-table.field-0.0 c.from_residual.result
    (ap (λ (v : Value). new_table_of (record { default = v; pairs = [] }) gives_value (setting_of outside c.args.w.now (g.L.Locals.items c.args.l.now)))
    (sym (c.arg.ensures.value (extent_of c.args.w.now.heap)))) c.from_residual.ensures.1 (c.in_err-table.ensures.found outside)

pub returns-clause-row : goal.returns-clause-row
returns-clause-row g c outside =
    ap (λ (v : Value). new_table_of (record { default = v; pairs = [] }) gives_value (setting_of outside c.args.w.now (g.L.Locals.items c.args.l.now)))
    (sym (c.arg.ensures.value (extent_of c.args.w.now.heap)))
    ∙ c.in_ok-table.ensures.found outside gives_value
