use Rattle.icn_value.specs.Values.{Value}
use Rattle.icn_defs.specs.Conversions.{group_of}
use Rattle.icn_defs.specs.Variables.{section_by, section_of}
use Rattle.icn_heap.specs.Extents.{value_in}
use Rattle.icn_heap.specs.Heaps.{extent_of}
use Rattle.icn_vars.specs.Worlds.{item_in, reach_of, setting_of}
use Rattle.icn_args.proofs.RowAnswers.{answer_then, row_stops, stop_lives}
use Rattle.icn_ops.specs.Sections.{second_of}
use Rattle.icn_ops.specs.Operands.{three_values}
use Rattle.icn_ops.proofs.sections.section_by.Goals as goal

pub returns-in_err-val-clause-row : goal.returns-in_err-val-clause-row
returns-in_err-val-clause-row g c = λ outside.
    row_stops (extent_of c.args.w.now.heap) (three_values (item_in (extent_of c.args.w.now.heap) c.args.x) (item_in (extent_of c.args.w.now.heap) c.args.y)
    (item_in (extent_of c.args.w.now.heap) c.args.z)) (λ (three : Value × Value × Value).
    section_of (second_of c.args.kind) (item_in (extent_of c.args.w.now.heap) c.args.x) three.0 three.1 three.2 (group_of three.0))
    (setting_of outside c.args.w.now (g.L.Locals.items c.args.l.now)) (setting_of outside c.args.w.now (g.L.Locals.items c.args.l.now)) c.in_err-val.field-0.0
    c.from_residual.result c.from_residual.ensures.1 (c.in_err-val.ensures.found outside)

pub returns-in_err-val-clause-live : goal.returns-in_err-val-clause-live
returns-in_err-val-clause-live g c =
    stop_lives
    (reach_of c.args.w.now (g.L.Locals.items c.args.l.now)) c.in_err-val.field-0.0 c.from_residual.result c.from_residual.ensures.1 c.in_err-val.ensures.stops

pub returns-clause-row : goal.returns-clause-row
returns-clause-row g c = λ outside.
    answer_then (extent_of c.section_of.new.w.heap) (section_by (second_of c.args.kind) (item_in (extent_of c.args.w.now.heap) c.args.x)
    (item_in (extent_of c.args.w.now.heap) c.args.y) (item_in (extent_of c.args.w.now.heap) c.args.z))
    (section_of (second_of c.args.kind) (item_in (extent_of c.args.w.now.heap) c.args.x) (value_in (extent_of c.args.w.now.heap) c.in_ok-val.val)
    (value_in (extent_of c.args.w.now.heap) c.in_ok-val.from) (value_in (extent_of c.args.w.now.heap) c.in_ok-val.to)
    (group_of (value_in (extent_of c.args.w.now.heap) c.in_ok-val.val))) (setting_of outside c.args.w.now (g.L.Locals.items c.args.l.now))
    (setting_of outside c.args.w.now (g.L.Locals.items c.args.l.now)) (setting_of outside c.section_of.new.w (g.L.Locals.items c.args.l.now))
    c.section_of.result (c.in_ok-val.ensures.found outside (λ (three : Value × Value × Value). section_of (second_of c.args.kind)
    (item_in (extent_of c.args.w.now.heap) c.args.x) three.0 three.1 three.2 (group_of three.0))) (c.section_of.ensures.row outside)
