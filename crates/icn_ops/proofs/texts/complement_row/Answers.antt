use Rattle.std.proofs.Common.{◌∙◌, sym, ap, not}
use Rattle.icn_value.specs.Values.{Chars, Val}
use Rattle.icn_value.specs.Members.{members, contains}
use Rattle.icn_defs.specs.Arguments.{cset}
use Rattle.icn_defs.specs.Operations.{complement_row}
use Rattle.icn_defs.specs.ReadAndAssign.{the_value}
use Rattle.icn_defs.specs.Rows.{Gives, gives_value}
use Rattle.icn_heap.specs.Extents.{value_in}
use Rattle.icn_heap.specs.Heaps.{extent_of}
use Rattle.icn_vars.specs.Worlds.{item_in, reach_of, setting_of}
use Rattle.icn_args.proofs.RowAnswers.{answer_then, row_stops, stop_lives}
use Rattle.icn_ops.proofs.TwoOperandSteps.{complemented}
use Rattle.icn_ops.proofs.texts.complement_row.Goals as goal

pub returns-in_err-val-clause-row : goal.returns-in_err-val-clause-row
returns-in_err-val-clause-row g c = λ outside.
    row_stops (extent_of c.args.w.now.heap) (the_value (item_in (extent_of c.args.w.now.heap) c.args.x))
    (λ v. cset v (λ bytes. gives_value (Chars (members (λ byte. not (contains bytes byte)))))) (setting_of outside c.args.w.now (g.L.Locals.items c.args.l.now))
    (setting_of outside c.args.w.now (g.L.Locals.items c.args.l.now)) c.in_err-val.field-0.0 c.from_residual.result c.from_residual.ensures.1
    (c.in_err-val.ensures.value outside)

pub returns-in_err-val-clause-live : goal.returns-in_err-val-clause-live
returns-in_err-val-clause-live g c =
    stop_lives
    (reach_of c.args.w.now (g.L.Locals.items c.args.l.now)) c.in_err-val.field-0.0 c.from_residual.result c.from_residual.ensures.1 c.in_err-val.ensures.stops

pub returns-in_err-cset-clause-row : goal.returns-in_err-cset-clause-row
returns-in_err-cset-clause-row g c = λ outside.
    answer_then (extent_of c.args.w.now.heap) (complement_row (item_in (extent_of c.args.w.now.heap) c.args.x))
    (cset (value_in (extent_of c.args.w.now.heap) c.in_ok-val.val) (λ bytes. gives_value (Chars (members (λ byte. not (contains bytes byte))))))
    (setting_of outside c.args.w.now (g.L.Locals.items c.args.l.now)) (setting_of outside c.args.w.now (g.L.Locals.items c.args.l.now))
    (setting_of outside c.args.w.now (g.L.Locals.items c.args.l.now)) c.from_residual-in_err-cset.result
    (c.in_ok-val.ensures.value outside (λ v. cset v (λ bytes. gives_value (Chars (members (λ byte. not (contains bytes byte)))))))
    (row_stops (extent_of c.args.w.now.heap) (cset (value_in (extent_of c.args.w.now.heap) c.in_ok-val.val))
    (λ bytes. gives_value (Chars (members (λ byte. not (contains bytes byte))))) (setting_of outside c.args.w.now (g.L.Locals.items c.args.l.now))
    (setting_of outside c.args.w.now (g.L.Locals.items c.args.l.now)) c.in_err-cset.field-0.0 c.from_residual-in_err-cset.result
    c.from_residual-in_err-cset.ensures.1 (c.in_err-cset.ensures.found (setting_of outside c.args.w.now (g.L.Locals.items c.args.l.now))))

pub returns-in_err-cset-clause-live : goal.returns-in_err-cset-clause-live
returns-in_err-cset-clause-live g c =
    stop_lives (reach_of c.args.w.now (g.L.Locals.items c.args.l.now)) c.in_err-cset.field-0.0 c.from_residual-in_err-cset.result
    c.from_residual-in_err-cset.ensures.1 c.in_err-cset.ensures.stops

pub returns-clause-row : goal.returns-clause-row
returns-clause-row g c = λ outside.
    c.in_ok-val.ensures.value outside (λ v. cset v (λ bytes. gives_value (Chars (members (λ byte. not (contains bytes byte))))))
    ∙ (c.in_ok-cset.ensures.found (setting_of outside c.args.w.now (g.L.Locals.items c.args.l.now))
    (λ bytes. gives_value (Chars (members (λ byte. not (contains bytes byte)))))
    ∙ ap (λ bytes. Gives (Val (Chars bytes)) (setting_of outside c.args.w.now (g.L.Locals.items c.args.l.now)))
    (sym (complemented c.in_ok-cset.cset c.other.result c.other.ensures)))
