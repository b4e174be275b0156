use Rattle.std.proofs.Common.{◌∙◌, sym, ap, map}
use Rattle.std.proofs.lemmas.List.Elements.{All-same}
use Rattle.icn_defs.specs.Rows.{new_list_of}
use Rattle.icn_heap.specs.Extents.{IsLive, value_in, values_in}
use Rattle.icn_heap.specs.Heaps.{extent_of}
use Rattle.icn_vars.specs.Worlds.{setting_of}
use Rattle.icn_structfn.specs.Sorting.{in_turn}
use Rattle.icn_structfn.proofs.RowAnswers.{found_as}
use Rattle.icn_structfn.proofs.sorting.list_in_turn.Goals as goal

pub new_list-requires-clause-items : goal.new_list-requires-clause-items
new_list-requires-clause-items g c =
    All-same (IsLive (extent_of c.args.w.now.heap)) _ _ c.deref.ensures.value (c.in_ok-vals.ensures.live (extent_of c.args.w.now.heap) c.requires.pairs)

pub returns-clause-found : goal.returns-clause-found
returns-clause-found g c outside =
    found_as (extent_of c.new_list.new.w.heap) (new_list_of (in_turn (map (values_in (extent_of c.args.w.now.heap)) c.args.pairs.now)))
    (new_list_of (map (value_in (extent_of c.args.w.now.heap)) c.deref.result.now)) (setting_of outside c.args.w.now (g.L.Locals.items c.args.l.now))
    (setting_of outside c.new_list.new.w (g.L.Locals.items c.args.l.now)) (value_in (extent_of c.new_list.new.w.heap)) c.new_list.result
    (λ next. ap (λ items. new_list_of items next (setting_of outside c.args.w.now (g.L.Locals.items c.args.l.now)))
    (sym (ap (map (value_in (extent_of c.args.w.now.heap))) c.deref.ensures.value ∙ c.in_ok-vals.ensures.values (extent_of c.args.w.now.heap))))
    (c.new_list.ensures.found outside)
