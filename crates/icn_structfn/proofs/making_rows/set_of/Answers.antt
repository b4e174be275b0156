use Rattle.std.proofs.Common.{◌∙◌, sym, ap, [], map, fold}
use Rattle.icn_value.specs.Sameness.{with_member}
use Rattle.icn_heap.specs.Extents.{value_in}
use Rattle.icn_heap.specs.Heaps.{extent_of}
use Rattle.icn_defs.specs.Operations.{new_set_of}
use Rattle.icn_vars.specs.Worlds.{setting_of}
use Rattle.icn_structfn.specs.Copies.{set_of_value}
use Rattle.icn_structfn.proofs.RowAnswers.{found_as}
use Rattle.icn_structfn.proofs.making_rows.set_of.Goals as goal

pub returns-in-Null-clause-found : goal.returns-in-Null-clause-found
returns-in-Null-clause-found g c outside =
    found_as (extent_of c.new_set.new.w.heap) (set_of_value (value_in (extent_of c.args.w.now.heap) c.args.val))
    (new_set_of []) (setting_of outside c.args.w.now (g.L.Locals.items c.args.l.now)) (setting_of outside c.new_set.new.w (g.L.Locals.items c.args.l.now))
    (value_in (extent_of c.new_set.new.w.heap)) c.new_set.result
    (λ next. ap (λ v. set_of_value (value_in (extent_of c.args.w.now.heap) v) next (setting_of outside c.args.w.now (g.L.Locals.items c.args.l.now)))
    c.in-Null.is) (c.new_set.ensures.found outside)

pub returns-in_ok-items-in-List-clause-found : goal.returns-in_ok-items-in-List-clause-found
returns-in_ok-items-in-List-clause-found g c outside =
    found_as (extent_of c.new_set-in-List.new.w.heap) (set_of_value (value_in (extent_of c.args.w.now.heap) c.args.val))
    (new_set_of (fold with_member [] (map (value_in (extent_of c.args.w.now.heap)) c.deref.result.now)))
    (setting_of outside c.args.w.now (g.L.Locals.items c.args.l.now)) (setting_of outside c.new_set-in-List.new.w (g.L.Locals.items c.args.l.now))
    (value_in (extent_of c.new_set-in-List.new.w.heap)) c.new_set-in-List.result
    (λ next. ap (λ v. set_of_value (value_in (extent_of c.args.w.now.heap) v) next (setting_of outside c.args.w.now (g.L.Locals.items c.args.l.now)))
    c.in-List.is ∙ ap (λ items. new_set_of (fold with_member [] items) next (setting_of outside c.args.w.now (g.L.Locals.items c.args.l.now)))
    (sym (ap (map (value_in (extent_of c.args.w.now.heap))) c.deref.ensures.value ∙ c.in_ok-items-in-List.ensures.items)))
    (c.new_set-in-List.ensures.found outside)
