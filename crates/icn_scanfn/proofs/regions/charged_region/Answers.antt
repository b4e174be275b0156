use Rattle.std.proofs.Common.{◌∙◌, map, rules, FitsSigned, w64}
use Rattle.icn_defs.specs.Arguments.{arg}
use Rattle.icn_defs.specs.Rows.{costs_text}
use Rattle.icn_defs.specs.Scanning.{region_from}
use Rattle.icn_heap.specs.Extents.{text_in, value_in}
use Rattle.icn_heap.specs.Heaps.{extent_of}
use Rattle.icn_vars.specs.Worlds.{setting_of}
use Rattle.icn_args.proofs.RowAnswers.{first_stops}
use Rattle.icn_scanfn.specs.Regions.{given_in, searched_in}
use Rattle.icn_scanfn.proofs.GivenRegions.{charge_stopped, charged_found, region_held}
use Rattle.icn_scanfn.proofs.regions.charged_region.Goals as goal

pub returns-in_err-given-clause-found : goal.returns-in_err-given-clause-found
returns-in_err-given-clause-found g c = λ outside.
    let all = extent_of c.args.w.now.heap in
    let s = setting_of outside c.args.w.now (g.L.Locals.items c.args.l.now) in
    let args = map (value_in all) c.args.args.now in
    first_stops all (region_from args c.args.place) (λ region next. costs_text (arg args c.args.place) (next region)) s s
    (searched_in all) c.in_err-given.field-0.0 c.from_residual.result c.from_residual.ensures.1
    (c.in_err-given.ensures.found outside (g.L.Locals.items c.args.l.now))

pub returns-in_err-text-clause-found : goal.returns-in_err-text-clause-found
returns-in_err-text-clause-found g c = λ outside.
    let all = extent_of c.args.w.now.heap in
    let s = setting_of outside c.args.w.now (g.L.Locals.items c.args.l.now) in
    let args = map (value_in all) c.args.args.now in
    charge_stopped (extent_of c.text_of.new.w.heap) args c.args.place (given_in all c.in_ok-given.given) (value_in all c.in_ok-given.given.val) s
    (setting_of outside c.text_of.new.w (g.L.Locals.items c.args.l.now))
    (searched_in (extent_of c.text_of.new.w.heap)) c.in_err-text.field-0.0 c.from_residual-in_err-text.result
    c.from_residual-in_err-text.ensures.1 (c.in_ok-given.ensures.found outside (g.L.Locals.items c.args.l.now)) c.in_ok-given.ensures.made
    (c.in_err-text.ensures.step outside)

pub returns-clause-found : goal.returns-clause-found
returns-clause-found g c = λ outside next.
    let all = extent_of c.args.w.now.heap in
    let s = setting_of outside c.args.w.now (g.L.Locals.items c.args.l.now) in
    let args = map (value_in all) c.args.args.now in
    charged_found args c.args.place (given_in all c.in_ok-given.given) (value_in all c.in_ok-given.given.val)
    (text_in (extent_of c.text_of.new.w.heap) c.in_ok-text.text) s (setting_of outside c.text_of.new.w (g.L.Locals.items c.args.l.now))
    (c.in_ok-given.ensures.found outside (g.L.Locals.items c.args.l.now)) c.in_ok-given.ensures.made
    (c.in_ok-text.ensures.step outside) c.in_ok-text.ensures.text next
    ∙ region_held next (text_in (extent_of c.text_of.new.w.heap) c.in_ok-text.text) c.in_ok-given.given.first c.in_ok-given.given.last
    (setting_of outside c.text_of.new.w (g.L.Locals.items c.args.l.now))
    (let fits : FitsSigned w64 c.in_ok-given.given.first = search rules in fits) (let fits : FitsSigned w64 c.in_ok-given.given.last = search rules in fits)
