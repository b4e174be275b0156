use Rattle.std.proofs.Common.{rules, FitsSigned, ◌∙◌, sym, ap, ℤ}
use Rattle.std.specs.Ordering.{is_eq}
use Rattle.std.specs.declared.cmp.Ordering.{Ordering}
use Rattle.std.specs.Int.{w64}
use Rattle.icn_value.specs.Values.{Integer}
use Rattle.icn_defs.specs.Rows.{gives_value, fails_unless}
use Rattle.icn_heap.specs.Heaps.{extent_of}
use Rattle.icn_vars.specs.Worlds.{item_in, reach_of, setting_of}
use Rattle.icn_args.proofs.RowAnswers.{row_stops, stop_lives}
use Rattle.icn_ops.specs.Operands.{compared_numbers}
use Rattle.icn_ops.proofs.TwoOperandSteps.{held_one}
use Rattle.icn_ops.proofs.comparisons.equal_row.Goals as goal

pub returns-in_err-order-clause-row : goal.returns-in_err-order-clause-row
returns-in_err-order-clause-row g c = λ outside.
    row_stops (extent_of c.args.w.now.heap) (compared_numbers (item_in (extent_of c.args.w.now.heap) c.args.x) (item_in (extent_of c.args.w.now.heap) c.args.y))
    (λ (two : Ordering × ℤ). fails_unless (is_eq two.0) (gives_value (Integer two.1))) (setting_of outside c.args.w.now (g.L.Locals.items c.args.l.now))
    (setting_of outside c.args.w.now (g.L.Locals.items c.args.l.now)) c.in_err-order.field-0.0 c.from_residual.result c.from_residual.ensures.1
    (c.in_err-order.ensures.found outside)

pub returns-in_err-order-clause-live : goal.returns-in_err-order-clause-live
returns-in_err-order-clause-live g c =
    stop_lives (reach_of c.args.w.now (g.L.Locals.items c.args.l.now)) c.in_err-order.field-0.0 c.from_residual.result c.from_residual.ensures.1
    c.in_err-order.ensures.stops

pub returns-clause-row : goal.returns-clause-row
returns-clause-row g c = λ outside.
    c.in_ok-order.ensures.found outside (λ (two : Ordering × ℤ). fails_unless (is_eq two.0) (gives_value (Integer two.1)))
    ∙ (ap (λ met. fails_unless met (gives_value (Integer c.in_ok-order.n)) (setting_of outside c.args.w.now (g.L.Locals.items c.args.l.now)))
    (sym c.is_eq.ensures)
    ∙ (sym (held_one (λ n. fails_unless c.is_eq.result (gives_value (Integer n)) (setting_of outside c.args.w.now (g.L.Locals.items c.args.l.now)))
    c.in_ok-order.n
    (let fits : FitsSigned w64 c.in_ok-order.n = search rules in fits))
    ∙ c.value_if.ensures.row (extent_of c.args.w.now.heap) (setting_of outside c.args.w.now (g.L.Locals.items c.args.l.now))))

pub returns-clause-live : goal.returns-clause-live
returns-clause-live g c =
    c.value_if.ensures.live (reach_of c.args.w.now (g.L.Locals.items c.args.l.now)) (record { live = tt })
