use Rattle.icn_defs.specs.Conversions.{held_integer}
use Rattle.icn_defs.specs.Elements.{random_by, random_row}
use Rattle.icn_defs.specs.ReadAndAssign.{the_value}
use Rattle.icn_heap.specs.Extents.{value_in}
use Rattle.icn_heap.specs.Heaps.{extent_of}
use Rattle.icn_vars.specs.Worlds.{item_in, reach_of, setting_of}
use Rattle.icn_args.proofs.RowAnswers.{answer_then, row_stops, stop_lives}
use Rattle.icn_ops.proofs.random.random_row.Goals as goal

pub returns-in_err-val-clause-row : goal.returns-in_err-val-clause-row
returns-in_err-val-clause-row g c = λ outside.
    row_stops (extent_of c.args.w.now.heap) (the_value (item_in (extent_of c.args.w.now.heap) c.args.x))
    (λ v. random_by (item_in (extent_of c.args.w.now.heap) c.args.x) v (held_integer v)) (setting_of outside c.args.w.now (g.L.Locals.items c.args.l.now))
    (setting_of outside c.args.w.now (g.L.Locals.items c.args.l.now)) c.in_err-val.field-0.0 c.from_residual.result c.from_residual.ensures.1
    (c.in_err-val.ensures.value outside)

pub returns-in_err-val-clause-live : goal.returns-in_err-val-clause-live
returns-in_err-val-clause-live g c =
    stop_lives
    (reach_of c.args.w.now (g.L.Locals.items c.args.l.now)) c.in_err-val.field-0.0 c.from_residual.result c.from_residual.ensures.1 c.in_err-val.ensures.stops

pub returns-clause-row : goal.returns-clause-row
returns-clause-row g c = λ outside.
    answer_then (extent_of c.random_by.new.w.heap) (random_row (item_in (extent_of c.args.w.now.heap) c.args.x))
    (random_by (item_in (extent_of c.args.w.now.heap) c.args.x) (value_in (extent_of c.args.w.now.heap) c.in_ok-val.val)
    (held_integer (value_in (extent_of c.args.w.now.heap) c.in_ok-val.val))) (setting_of outside c.args.w.now (g.L.Locals.items c.args.l.now))
    (setting_of outside c.args.w.now (g.L.Locals.items c.args.l.now)) (setting_of outside c.random_by.new.w (g.L.Locals.items c.args.l.now)) c.random_by.result
    (c.in_ok-val.ensures.value outside (λ v. random_by (item_in (extent_of c.args.w.now.heap) c.args.x) v (held_integer v))) (c.random_by.ensures.row outside)
