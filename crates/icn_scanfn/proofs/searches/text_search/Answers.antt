use Rattle.std.proofs.Common.{◌∙◌, map, rules, FitsSigned, w64}
use Rattle.icn_heap.specs.Extents.{text_in, value_in}
use Rattle.icn_heap.specs.Heaps.{extent_of}
use Rattle.icn_vars.specs.Worlds.{setting_of}
use Rattle.icn_args.specs.RowWords.{the_text}
use Rattle.icn_args.proofs.RowAnswers.{stop_lives_on}
use Rattle.icn_scanfn.specs.Regions.{given_in, searched_in}
use Rattle.icn_scanfn.proofs.GivenRegions.{region_held}
use Rattle.icn_scanfn.proofs.SearchSteps.{no_given, no_texts, no_wanted, text_and_region}
use Rattle.icn_scanfn.proofs.searches.text_search.Goals as goal

pub returns-in_err-check_text-clause-found : goal.returns-in_err-check_text-clause-found
returns-in_err-check_text-clause-found g c = λ outside.
    let all = extent_of c.args.w.now.heap in
    let s = setting_of outside c.args.w.now (g.L.Locals.items c.args.l.now) in
    no_wanted (map (value_in all) c.args.args.now) (value_in all c.arg-val.result) (c.arg-val.ensures.value all) all s
    (λ two. (text_in all two.0, searched_in all two.1)) c.in_err-check_text.field-0.0 c.from_residual.result c.from_residual.ensures.1
    (c.in_err-check_text.ensures.found all s)

pub returns-in_err-given-clause-found : goal.returns-in_err-given-clause-found
returns-in_err-given-clause-found g c = λ outside.
    let all = extent_of c.args.w.now.heap in
    let s = setting_of outside c.args.w.now (g.L.Locals.items c.args.l.now) in
    no_given (map (value_in all) c.args.args.now) (value_in all c.arg-val.result) (c.arg-val.ensures.value all) all (the_text (value_in all c.arg-val.result)) s
    (λ two. (text_in all two.0, searched_in all two.1)) c.in_err-given.field-0.0 c.from_residual-in_err-given.result c.from_residual-in_err-given.ensures.1
    (c.in_ok-check_text.ensures.found all s) (c.in_err-given.ensures.found outside (g.L.Locals.items c.args.l.now))

pub returns-in_err-wanted-clause-found : goal.returns-in_err-wanted-clause-found
returns-in_err-wanted-clause-found g c = λ outside.
    let all = extent_of c.args.w.now.heap in
    let s = setting_of outside c.args.w.now (g.L.Locals.items c.args.l.now) in
    let new = extent_of c.texts_of.new.w.heap in
    no_texts (map (value_in all) c.args.args.now) (value_in all c.arg-val.result) (c.arg-val.ensures.value all) new (the_text (value_in all c.arg-val.result))
    (given_in all c.in_ok-given.given) (value_in all c.in_ok-given.given.val) s (setting_of outside c.texts_of.new.w (g.L.Locals.items c.args.l.now))
    (λ two. (text_in new two.0, searched_in new two.1)) c.in_err-wanted.field-0.0 c.from_residual-in_err-wanted.result c.from_residual-in_err-wanted.ensures.1
    (c.in_ok-check_text.ensures.found all s) (c.in_ok-given.ensures.found outside (g.L.Locals.items c.args.l.now)) c.in_ok-given.ensures.made
    (c.in_err-wanted.ensures.step outside)

pub returns-clause-found : goal.returns-clause-found
returns-clause-found g c = λ outside next.
    let all = extent_of c.args.w.now.heap in
    let s = setting_of outside c.args.w.now (g.L.Locals.items c.args.l.now) in
    let new = extent_of c.texts_of.new.w.heap in
    text_and_region (map (value_in all) c.args.args.now) (value_in all c.arg-val.result) (c.arg-val.ensures.value all)
    (the_text (value_in all c.arg-val.result)) (text_in new c.in_ok-wanted.wanted) (text_in new c.in_ok-wanted.text) (given_in all c.in_ok-given.given)
    (value_in all c.in_ok-given.given.val) s (setting_of outside c.texts_of.new.w (g.L.Locals.items c.args.l.now))
    (c.in_ok-check_text.ensures.found all s) (c.in_ok-given.ensures.found outside (g.L.Locals.items c.args.l.now)) c.in_ok-given.ensures.made
    (c.in_ok-wanted.ensures.step outside) c.in_ok-wanted.ensures.first_text c.in_ok-wanted.ensures.second_text next
    ∙ region_held (λ region. next (text_in new c.in_ok-wanted.wanted, region))
    (text_in new c.in_ok-wanted.text) c.in_ok-given.given.first c.in_ok-given.given.last (setting_of outside c.texts_of.new.w (g.L.Locals.items c.args.l.now))
    (let fits : FitsSigned w64 c.in_ok-given.given.first = search rules in fits) (let fits : FitsSigned w64 c.in_ok-given.given.last = search rules in fits)

pub returns-in_err-check_text-clause-stops : goal.returns-in_err-check_text-clause-stops
returns-in_err-check_text-clause-stops g c =
    let all = extent_of c.args.w.now.heap in
    stop_lives_on all c.in_err-check_text.field-0.0 c.from_residual.result c.from_residual.ensures.1
    (c.in_err-check_text.ensures.stops all (c.arg-val.ensures.live all c.requires.live.args))
