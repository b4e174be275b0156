use Rattle.std.proofs.Common.{List, ap, subst, map}
use Rattle.icn_value.specs.Values.{Value}
use Rattle.icn_defs.specs.Rows.{new_list_of}
use Rattle.icn_defs.specs.Structures.{pair_lists}
use Rattle.icn_heap.specs.Extents.{value_in, values_in}
use Rattle.icn_heap.specs.Heaps.{extent_of}
use Rattle.icn_vars.specs.Worlds.{setting_of}
use Rattle.icn_args.specs.RowWords.{IsFound}
use Rattle.icn_args.proofs.RowAnswers.{first_stops}
use Rattle.icn_structfn.proofs.RowAnswers.{found_behind}
use Rattle.icn_structfn.proofs.sorting.list_of_lists.Goals as goal

pub returns-in_err-lists-clause-found : goal.returns-in_err-lists-clause-found
returns-in_err-lists-clause-found g c outside =
    first_stops (extent_of c.lists_of.new.w.heap) (pair_lists (map (values_in (extent_of c.args.w.now.heap)) c.args.pairs.now)) (λ lists. new_list_of lists)
    (setting_of outside c.args.w.now (g.L.Locals.items c.args.l.now)) (setting_of outside c.lists_of.new.w (g.L.Locals.items c.args.l.now))
    (value_in (extent_of c.lists_of.new.w.heap)) c.in_err-lists.field-0.0 c.from_residual.result c.from_residual.ensures.1
    (c.in_err-lists.ensures.found outside)

pub returns-clause-found : goal.returns-clause-found
returns-clause-found g c outside =
    found_behind (extent_of c.new_list.new.w.heap) (pair_lists (map (values_in (extent_of c.args.w.now.heap)) c.args.pairs.now))
    (map (value_in (extent_of c.lists_of.new.w.heap)) c.in_ok-lists.lists.items) (λ lists. new_list_of lists)
    (setting_of outside c.args.w.now (g.L.Locals.items c.args.l.now)) (setting_of outside c.lists_of.new.w (g.L.Locals.items c.args.l.now))
    (setting_of outside c.new_list.new.w (g.L.Locals.items c.args.l.now)) (value_in (extent_of c.new_list.new.w.heap)) c.new_list.result
    (c.in_ok-lists.ensures.found outside)
    (subst (λ (values : List Value).
    IsFound (extent_of c.new_list.new.w.heap) (new_list_of values) (setting_of outside c.lists_of.new.w (g.L.Locals.items c.args.l.now))
    (setting_of outside c.new_list.new.w (g.L.Locals.items c.args.l.now)) (value_in (extent_of c.new_list.new.w.heap)) c.new_list.result)
    (ap (map (value_in (extent_of c.lists_of.new.w.heap))) c.deref.ensures.value) (c.new_list.ensures.found outside))
