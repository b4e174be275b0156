use Rattle.std.proofs.Common.{◌∙◌, sym, ap, not}
use Rattle.icn_value.specs.Values.{Value}
use Rattle.icn_defs.specs.Conversions.{same}
use Rattle.icn_defs.specs.Rows.{gives_value, fails_unless}
use Rattle.icn_heap.specs.Extents.{value_in}
use Rattle.icn_heap.specs.Heaps.{extent_of}
use Rattle.icn_vars.specs.Worlds.{item_in, reach_of, setting_of}
use Rattle.icn_args.proofs.RowAnswers.{row_stops, stop_lives}
use Rattle.icn_ops.specs.Operands.{two_values}
use Rattle.icn_ops.proofs.comparisons.not_equivalent_row.Goals as goal

pub returns-in_err-a-clause-row : goal.returns-in_err-a-clause-row
returns-in_err-a-clause-row g c = λ outside.
    row_stops (extent_of c.args.w.now.heap) (two_values (item_in (extent_of c.args.w.now.heap) c.args.x) (item_in (extent_of c.args.w.now.heap) c.args.y))
    (λ (two : Value × Value). fails_unless (not (same two.0 two.1)) (gives_value two.1)) (setting_of outside c.args.w.now (g.L.Locals.items c.args.l.now))
    (setting_of outside c.args.w.now (g.L.Locals.items c.args.l.now)) c.in_err-a.field-0.0 c.from_residual.result c.from_residual.ensures.1
    (c.in_err-a.ensures.found outside)

pub returns-in_err-a-clause-live : goal.returns-in_err-a-clause-live
returns-in_err-a-clause-live g c =
    stop_lives
    (reach_of c.args.w.now (g.L.Locals.items c.args.l.now)) c.in_err-a.field-0.0 c.from_residual.result c.from_residual.ensures.1 c.in_err-a.ensures.stops

pub returns-clause-row : goal.returns-clause-row
returns-clause-row g c = λ outside.
    c.in_ok-a.ensures.found outside (λ (two : Value × Value). fails_unless (not (same two.0 two.1)) (gives_value two.1)) ∙ (ap (λ met. fails_unless (not (met))
    (gives_value (value_in (extent_of c.args.w.now.heap) c.in_ok-a.b)) (setting_of outside c.args.w.now (g.L.Locals.items c.args.l.now))) (sym c.same.ensures)
    ∙ c.value_if.ensures.row (extent_of c.args.w.now.heap) (setting_of outside c.args.w.now (g.L.Locals.items c.args.l.now)))

pub returns-clause-live : goal.returns-clause-live
returns-clause-live g c =
    c.value_if.ensures.live (reach_of c.args.w.now (g.L.Locals.items c.args.l.now)) c.in_ok-a.ensures.second_live
