use Rattle.std.proofs.Common.{◌∙◌, map}
use Rattle.icn_defs.specs.Scanning.{SearchedText, bal_row}
use Rattle.icn_heap.specs.Extents.{value_in}
use Rattle.icn_heap.specs.Heaps.{extent_of}
use Rattle.icn_vars.specs.Worlds.{setting_of}
use Rattle.icn_args.proofs.RowAnswers.{answer_then, row_stops}
use Rattle.icn_scanfn.specs.Regions.{charged_region}
use Rattle.icn_scanfn.specs.Searches.{Sets, balanced_in, balanced_sets, sets_of}
use Rattle.icn_scanfn.proofs.balancing.bal_row.Goals as goal

pub returns-in_err-sets-clause-row : goal.returns-in_err-sets-clause-row
returns-in_err-sets-clause-row g c = λ outside.
    let args = map (value_in (extent_of c.args.w.now.heap)) c.args.args.now in
    let s = setting_of outside c.args.w.now (g.L.Locals.items c.args.l.now) in
    row_stops (extent_of c.args.w.now.heap) (balanced_sets args)
    (λ (sets : Sets). charged_region args 3 (λ (region : SearchedText). balanced_in sets region)) s s
    c.in_err-sets.field-0.0 c.from_residual.result c.from_residual.ensures.1
    (c.in_err-sets.ensures.found s)

pub returns-in_err-searched-clause-row : goal.returns-in_err-searched-clause-row
returns-in_err-searched-clause-row g c = λ outside.
    let args = map (value_in (extent_of c.args.w.now.heap)) c.args.args.now in
    let s = setting_of outside c.args.w.now (g.L.Locals.items c.args.l.now) in
    let t = setting_of outside c.charged_region.new.w (g.L.Locals.items c.args.l.now) in
    answer_then (extent_of c.charged_region.new.w.heap) (bal_row args)
    (charged_region args 3 (λ (region : SearchedText). balanced_in (sets_of c.in_ok-sets.sets) region)) s s t c.from_residual-in_err-searched.result
    (c.in_ok-sets.ensures.found s (λ (sets : Sets). charged_region args 3 (λ (region : SearchedText). balanced_in sets region)))
    (row_stops (extent_of c.charged_region.new.w.heap) (charged_region args 3) (λ (region : SearchedText). balanced_in (sets_of c.in_ok-sets.sets) region) s t
    c.in_err-searched.field-0.0 c.from_residual-in_err-searched.result c.from_residual-in_err-searched.ensures.1
    (c.in_err-searched.ensures.found outside))

pub returns-clause-row : goal.returns-clause-row
returns-clause-row g c = λ outside.
    let args = map (value_in (extent_of c.args.w.now.heap)) c.args.args.now in
    let s = setting_of outside c.args.w.now (g.L.Locals.items c.args.l.now) in
    c.in_ok-sets.ensures.found s (λ (sets : Sets). charged_region args 3 (λ (region : SearchedText). balanced_in sets region))
    ∙ (c.in_ok-searched.ensures.found outside (λ (region : SearchedText). balanced_in (sets_of c.in_ok-sets.sets) region) ∙ c.balanced_in.ensures.row outside)
