use Rattle.std.proofs.Common.{◌∙◌, sym, ap, map}
use Rattle.icn_defs.specs.Conversions.{sort_list}
use Rattle.icn_defs.specs.Images.{value_cmp}
use Rattle.icn_defs.specs.Rows.{new_list_of}
use Rattle.icn_heap.specs.Extents.{value_in}
use Rattle.icn_heap.specs.Heaps.{extent_of, heap_of}
use Rattle.icn_vars.specs.Worlds.{setting_of}
use Rattle.icn_structfn.proofs.RowAnswers.{found_as}
use Rattle.icn_structfn.proofs.sorting.list_in_order.Goals as goal

pub returns-clause-found : goal.returns-clause-found
returns-clause-found g c outside =
    found_as (extent_of c.new_list.new.w.heap) (new_list_of (sort_list (value_cmp (g.N.Names.known c.args.names.now) (heap_of c.args.w.now.heap))
    (map (value_in (extent_of c.args.w.now.heap)) c.args.vals.now)))
    (new_list_of (map (value_in (extent_of c.args.w.now.heap)) c.deref.result.now)) (setting_of outside c.args.w.now (g.L.Locals.items c.args.l.now))
    (setting_of outside c.new_list.new.w (g.L.Locals.items c.args.l.now)) (value_in (extent_of c.new_list.new.w.heap)) c.new_list.result
    (λ next. ap (λ items. new_list_of items next (setting_of outside c.args.w.now (g.L.Locals.items c.args.l.now)))
    (sym (ap (map (value_in (extent_of c.args.w.now.heap))) c.deref.ensures.value ∙ c.in_ok-sorted.ensures.order))) (c.new_list.ensures.found outside)
