-- The charge of a mode that is no text may be refused.
use Rattle.icn_defs.specs.Rows.{costs_text}
use Rattle.icn_heap.specs.Extents.{value_in}
use Rattle.icn_heap.specs.Heaps.{extent_of}
use Rattle.icn_vars.specs.Worlds.{setting_of}
use Rattle.icn_args.proofs.RowAnswers.{passed_stops}
use Rattle.icn_filefn.proofs.opening.charge_mode.Goals as goal

pub returns-in_err-text_of-in-Integer-clause-step : goal.returns-in_err-text_of-in-Integer-clause-step
returns-in_err-text_of-in-Integer-clause-step g c = λ outside.
    passed_stops (extent_of c.text_of.new.w.heap) (costs_text (value_in (extent_of c.args.w.now.heap) c.args.said))
    (setting_of outside c.args.w.now (g.L.Locals.items c.args.l.now)) (setting_of outside c.text_of.new.w (g.L.Locals.items c.args.l.now))
    c.in_err-text_of-in-Integer.field-0.0 c.from_residual.result c.from_residual.ensures.1 (c.in_err-text_of-in-Integer.ensures.step outside)
