use Rattle.std.proofs.Common.{◌∙◌, map}
use Rattle.icn_heap.specs.Extents.{value_in}
use Rattle.icn_heap.specs.Heaps.{extent_of}
use Rattle.icn_vars.specs.Worlds.{reach_of, setting_of}
use Rattle.icn_args.proofs.RowAnswers.{value_row_stops}
use Rattle.icn_scanfn.specs.Searches.{text_search, match_in}
use Rattle.icn_scanfn.proofs.testing.match_row.Goals as goal

pub returns-in_err-wanted-clause-row : goal.returns-in_err-wanted-clause-row
returns-in_err-wanted-clause-row g c = λ outside.
    value_row_stops (extent_of c.text_search.new.w.heap) (text_search (map (value_in (extent_of c.args.w.now.heap)) c.args.args.now))
    (λ two. match_in two.0 two.1) (setting_of outside c.args.w.now (g.L.Locals.items c.args.l.now))
    (setting_of outside c.text_search.new.w (g.L.Locals.items c.args.l.now)) c.in_err-wanted.field-0.0 c.from_residual.result c.from_residual.ensures.1
    (c.in_err-wanted.ensures.found outside)

pub returns-clause-row : goal.returns-clause-row
returns-clause-row g c = λ outside. c.in_ok-wanted.ensures.found outside (λ two. match_in two.0 two.1)
    ∙ c.match_in.ensures.row (setting_of outside c.text_search.new.w (g.L.Locals.items c.args.l.now))

pub returns-clause-live : goal.returns-clause-live
returns-clause-live g c = c.match_in.ensures.live (reach_of c.text_search.new.w (g.L.Locals.items c.args.l.now))
