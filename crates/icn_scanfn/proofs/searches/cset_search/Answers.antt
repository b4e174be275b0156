use Rattle.std.proofs.Common.{map}
use Rattle.icn_value.specs.Members.{members_of}
use Rattle.icn_heap.specs.Extents.{value_in}
use Rattle.icn_heap.specs.Heaps.{extent_of}
use Rattle.icn_vars.specs.Worlds.{setting_of}
use Rattle.icn_scanfn.specs.Regions.{searched_in}
use Rattle.icn_scanfn.proofs.SearchSteps.{cset_and_region, no_cset, no_region}
use Rattle.icn_scanfn.proofs.searches.cset_search.Goals as goal

pub returns-in_err-wanted-clause-found : goal.returns-in_err-wanted-clause-found
returns-in_err-wanted-clause-found g c = λ outside.
    let all = extent_of c.args.w.now.heap in
    let s = setting_of outside c.args.w.now (g.L.Locals.items c.args.l.now) in
    no_cset (map (value_in all) c.args.args.now) (value_in all c.arg.result) (c.arg.ensures.value all) all s (λ two. (members_of two.0, searched_in all two.1))
    c.in_err-wanted.field-0.0 c.from_residual.result c.from_residual.ensures.1 (c.in_err-wanted.ensures.found s)

pub returns-in_err-searched-clause-found : goal.returns-in_err-searched-clause-found
returns-in_err-searched-clause-found g c = λ outside.
    let all = extent_of c.args.w.now.heap in
    let s = setting_of outside c.args.w.now (g.L.Locals.items c.args.l.now) in
    let new = extent_of c.charged_region.new.w.heap in
    no_region (map (value_in all) c.args.args.now) (value_in all c.arg.result) (c.arg.ensures.value all) new (members_of c.in_ok-wanted.wanted) s
    (setting_of outside c.charged_region.new.w (g.L.Locals.items c.args.l.now)) (λ two. (members_of two.0, searched_in new two.1)) c.in_err-searched.field-0.0
    c.from_residual-in_err-searched.result c.from_residual-in_err-searched.ensures.1
    (c.in_ok-wanted.ensures.found s) (c.in_err-searched.ensures.found outside)

pub returns-clause-found : goal.returns-clause-found
returns-clause-found g c = λ outside.
    let all = extent_of c.args.w.now.heap in
    let s = setting_of outside c.args.w.now (g.L.Locals.items c.args.l.now) in
    cset_and_region (map (value_in all) c.args.args.now) (value_in all c.arg.result)
    (c.arg.ensures.value all) (members_of c.in_ok-wanted.wanted) (searched_in (extent_of c.charged_region.new.w.heap) c.in_ok-searched.searched) s
    (setting_of outside c.charged_region.new.w (g.L.Locals.items c.args.l.now))
    (c.in_ok-wanted.ensures.found s) (c.in_ok-searched.ensures.found outside)
