use Rattle.std.proofs.Common.{◌∙◌, sym, ap}
use Rattle.icn_defs.specs.Conversions.{is_null}
use Rattle.icn_defs.specs.ReadAndAssign.{the_value}
use Rattle.icn_defs.specs.Rows.{gives, fails_unless}
use Rattle.icn_heap.specs.Heaps.{extent_of}
use Rattle.icn_vars.specs.Worlds.{item_in, reach_of, setting_of}
use Rattle.icn_args.proofs.RowAnswers.{row_stops, stop_lives}
use Rattle.icn_ops.proofs.null.is_null_row.Goals as goal

pub returns-in_err-val-clause-row : goal.returns-in_err-val-clause-row
returns-in_err-val-clause-row g c = λ outside.
    row_stops (extent_of c.args.w.now.heap) (the_value (item_in (extent_of c.args.w.now.heap) c.args.x))
    (λ v. fails_unless (is_null v) (gives (item_in (extent_of c.args.w.now.heap) c.args.x))) (setting_of outside c.args.w.now (g.L.Locals.items c.args.l.now))
    (setting_of outside c.args.w.now (g.L.Locals.items c.args.l.now)) c.in_err-val.field-0.0 c.from_residual.result c.from_residual.ensures.1
    (c.in_err-val.ensures.value outside)

pub returns-in_err-val-clause-live : goal.returns-in_err-val-clause-live
returns-in_err-val-clause-live g c =
    stop_lives
    (reach_of c.args.w.now (g.L.Locals.items c.args.l.now)) c.in_err-val.field-0.0 c.from_residual.result c.from_residual.ensures.1 c.in_err-val.ensures.stops

pub returns-clause-row : goal.returns-clause-row
returns-clause-row g c = λ outside.
    c.in_ok-val.ensures.value outside (λ v. fails_unless (is_null v) (gives (item_in (extent_of c.args.w.now.heap) c.args.x)))
    ∙ (ap (λ met. fails_unless (met) (gives (item_in (extent_of c.args.w.now.heap) c.args.x)) (setting_of outside c.args.w.now (g.L.Locals.items c.args.l.now)))
    (sym (c.is_null.ensures (extent_of c.args.w.now.heap)))
    ∙ c.item_if.ensures.row (extent_of c.args.w.now.heap) (setting_of outside c.args.w.now (g.L.Locals.items c.args.l.now)))

pub returns-clause-live : goal.returns-clause-live
returns-clause-live g c =
    c.item_if.ensures.live (reach_of c.args.w.now (g.L.Locals.items c.args.l.now)) c.requires.live.first
