use Rattle.std.proofs.Common.{◌∙◌}
use Rattle.icn_heap.specs.Heaps.{extent_of}
use Rattle.icn_vars.specs.Worlds.{item_in, reach_of, setting_of}
use Rattle.icn_vars.proofs.KeptItems.{keeps_live_then}
use Rattle.icn_args.proofs.RowAnswers.{row_stops, stop_lives}
use Rattle.icn_ops.specs.Operands.{one_text, matches_here}
use Rattle.icn_ops.proofs.scanning.tab_match_row.Goals as goal

pub returns-in_err-wanted-clause-row : goal.returns-in_err-wanted-clause-row
returns-in_err-wanted-clause-row g c = λ outside.
    row_stops (extent_of c.one_text.new.w.heap) (one_text (item_in (extent_of c.args.w.now.heap) c.args.x)) matches_here
    (setting_of outside c.args.w.now (g.L.Locals.items c.args.l.now)) (setting_of outside c.one_text.new.w (g.L.Locals.items c.args.l.now))
    c.in_err-wanted.field-0.0 c.from_residual.result c.from_residual.ensures.1 (c.in_err-wanted.ensures.found outside)

pub returns-in_err-wanted-clause-live : goal.returns-in_err-wanted-clause-live
returns-in_err-wanted-clause-live g c =
    stop_lives (reach_of c.one_text.new.w (g.L.Locals.items c.args.l.now)) c.in_err-wanted.field-0.0 c.from_residual.result c.from_residual.ensures.1
    c.in_err-wanted.ensures.stops

pub returns-clause-row : goal.returns-clause-row
returns-clause-row g c = λ outside.
    c.in_ok-wanted.ensures.found outside matches_here ∙ c.match_here.ensures.row outside

pub returns-clause-kept : goal.returns-clause-kept
returns-clause-kept g c = keeps_live_then c.one_text.ensures.kept c.match_here.ensures.kept
