use Rattle.std.proofs.Common.{◌∙◌, sym, ap, ℕ, pos, Option}
use Rattle.std.specs.Prelude.{Some}
use Rattle.icn_value.specs.Values.{Integer, Val}
use Rattle.icn_value.specs.Sizes.{size_of}
use Rattle.icn_defs.specs.ReadAndAssign.{the_value}
use Rattle.icn_defs.specs.Rows.{Gives, gives_value, present}
use Rattle.icn_heap.specs.Extents.{value_in}
use Rattle.icn_heap.specs.Heaps.{extent_of}
use Rattle.icn_vars.specs.Worlds.{item_in, reach_of, setting_of}
use Rattle.icn_args.proofs.RowAnswers.{row_stops, stop_lives}
use Rattle.icn_ops.proofs.TwoOperandSteps.{held_size}
use Rattle.icn_ops.proofs.null.size_row.Goals as goal

pub returns-in_err-val-clause-row : goal.returns-in_err-val-clause-row
returns-in_err-val-clause-row g c = λ outside.
    row_stops (extent_of c.args.w.now.heap) (the_value (item_in (extent_of c.args.w.now.heap) c.args.x))
    (λ v setting. present (size_of setting.world.heap v) 112 (Some v) (λ n. gives_value (Integer (pos n))) setting)
    (setting_of outside c.args.w.now (g.L.Locals.items c.args.l.now)) (setting_of outside c.args.w.now (g.L.Locals.items c.args.l.now)) c.in_err-val.field-0.0
    c.from_residual.result c.from_residual.ensures.1 (c.in_err-val.ensures.value outside)

pub returns-in_err-val-clause-live : goal.returns-in_err-val-clause-live
returns-in_err-val-clause-live g c =
    stop_lives
    (reach_of c.args.w.now (g.L.Locals.items c.args.l.now)) c.in_err-val.field-0.0 c.from_residual.result c.from_residual.ensures.1 c.in_err-val.ensures.stops

pub returns-in-Some-clause-row : goal.returns-in-Some-clause-row
returns-in-Some-clause-row g c = λ outside.
    c.in_ok-val.ensures.value outside (λ v setting. present (size_of setting.world.heap v) 112 (Some v) (λ n. gives_value (Integer (pos n))) setting)
    ∙ ap (λ (found : Option ℕ). present (found) 112 (Some (value_in (extent_of c.args.w.now.heap) c.in_ok-val.val))
    (λ n. gives_value (Integer (pos n))) (setting_of outside c.args.w.now (g.L.Locals.items c.args.l.now))) (sym c.in-Some.ensures.size) ∙ sym
    (ap (λ n. Gives (Val (Integer n)) (setting_of outside c.args.w.now (g.L.Locals.items c.args.l.now))) (held_size c.in-Some.size c.in-Some.ensures.small))

pub returns-in-None-clause-row : goal.returns-in-None-clause-row
returns-in-None-clause-row g c = λ outside.
    c.in_ok-val.ensures.value outside (λ v setting. present (size_of setting.world.heap v) 112 (Some v) (λ n. gives_value (Integer (pos n))) setting)
    ∙ ap (λ (found : Option ℕ). present (found) 112 (Some (value_in (extent_of c.args.w.now.heap) c.in_ok-val.val)) (λ n. gives_value (Integer (pos n)))
    (setting_of outside c.args.w.now (g.L.Locals.items c.args.l.now))) (sym c.size.ensures.size ∙ c.in-None.is)
