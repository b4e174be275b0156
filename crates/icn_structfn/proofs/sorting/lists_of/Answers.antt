use Rattle.std.proofs.Common.{◌≡◌, ◌∙◌, sym, ap, subst, [], ◌∷◌, ◌++◌, List, map}
use Rattle.std.proofs.lemmas.List.{map-append}
use Rattle.std.proofs.lemmas.List.Elements.{All-head, All-nil, All-push, All-rest, All-same}
use Rattle.icn_value.specs.declared.val.Val.{Val}
use Rattle.icn_value.specs.Values.{Value}
use Rattle.icn_defs.specs.Calls.{GoesOn}
use Rattle.icn_defs.specs.Rows.{new_list_of}
use Rattle.icn_defs.specs.Structures.{pair_lists}
use Rattle.icn_heap.specs.Extents.{AreLive, IsLive, value_in, values_in}
use Rattle.icn_heap.specs.Heaps.{extent_of}
use Rattle.icn_heap.proofs.GrowingHeaps.{live_kept, values_kept}
use Rattle.icn_vars.specs.Stops.{StopsFinding}
use Rattle.icn_vars.specs.Worlds.{reach_of, setting_of}
use Rattle.icn_vars.proofs.KeptItems.{keeps_items_refl, keeps_items_trans}
use Rattle.icn_args.proofs.RowAnswers.{found_stops}
use Rattle.icn_structfn.specs.Sorting.{pair_lists_behind}
use Rattle.icn_structfn.proofs.RowAnswers.{nothing_left}
use Rattle.icn_structfn.proofs.SortRows.{ListsLeft, all_made, one_made, one_stops, two_live, two_same}
use Rattle.icn_structfn.proofs.sorting.lists_of.Goals as goal

pub loop-first-init : goal.loop-first-init
loop-first-init g c = record {
  locals = c.requires.locals;
  left = c.requires.pairs;
  made = All-same (IsLive (extent_of c.args.w.now.heap)) _ _ c.new-lists.ensures.items (All-nil (IsLive (extent_of c.args.w.now.heap)));
  kept = keeps_items_refl (reach_of c.args.w.now (g.L.Locals.items c.args.l.now));
  is = λ outside next.
      ap (λ (lists : List Val). pair_lists_behind (map (value_in (extent_of c.args.w.now.heap)) lists) (map (values_in (extent_of c.args.w.now.heap))
      c.args.pairs.now) next (setting_of outside c.args.w.now (g.L.Locals.items c.args.l.now))) (sym c.new-lists.ensures.items);
}

pub new_list-requires-clause-items : goal.new_list-requires-clause-items
new_list-requires-clause-items g c =
    let live : AreLive (extent_of c.loop-first.w.heap) c.in-Some.first.now = record {
      first = c.loop-first.invariant.kept.extent.live _ ((All-head (AreLive (extent_of c.args.w.now.heap)) c.in-Some.first.now c.in-Some.others.now
          (All-same (AreLive (extent_of c.args.w.now.heap)) _ _ (sym c.in-Some.ensures.cases.0) c.loop-first.invariant.left)).first);
      second = c.loop-first.invariant.kept.extent.live _ ((All-head (AreLive (extent_of c.args.w.now.heap)) c.in-Some.first.now c.in-Some.others.now
          (All-same (AreLive (extent_of c.args.w.now.heap)) _ _ (sym c.in-Some.ensures.cases.0) c.loop-first.invariant.left)).second);
    } in
    two_live (extent_of c.loop-first.w.heap) c.in-Some.first.now.0 c.in-Some.first.now.1 live.first live.second

pub returns-in_err-list-clause-found : goal.returns-in_err-list-clause-found
returns-in_err-list-clause-found g c outside =
    found_stops (extent_of c.new_list.new.w.heap) (pair_lists (map (values_in (extent_of c.args.w.now.heap)) c.args.pairs.now))
    (setting_of outside c.args.w.now (g.L.Locals.items c.args.l.now)) (setting_of outside c.new_list.new.w (g.L.Locals.items c.args.l.now))
    (λ lists. map (value_in (extent_of c.new_list.new.w.heap)) lists.items) c.in_err-list.field-0.0 c.from_residual.result c.from_residual.ensures.1
    (one_stops (map (values_in (extent_of c.args.w.now.heap)) c.args.pairs.now) (setting_of outside c.args.w.now (g.L.Locals.items c.args.l.now))
    (extent_of c.new_list.new.w.heap) (map (value_in (extent_of c.loop-first.w.heap)) c.loop-first.lists.items)
    (values_in (extent_of c.args.w.now.heap) c.in-Some.first.now) (map (values_in (extent_of c.args.w.now.heap)) c.loop-first.rest.now)
    (map (values_in (extent_of c.args.w.now.heap)) c.in-Some.others.now) (setting_of outside c.loop-first.w (g.L.Locals.items c.args.l.now))
    (setting_of outside c.new_list.new.w (g.L.Locals.items c.args.l.now)) c.in_err-list.field-0.0
    (ap (map (values_in (extent_of c.args.w.now.heap))) c.in-Some.ensures.cases.0) (c.loop-first.invariant.is outside)
    (subst (λ (items : List Value). StopsFinding (extent_of c.new_list.new.w.heap) (new_list_of items) (setting_of outside c.loop-first.w
    (g.L.Locals.items c.args.l.now)) (setting_of outside c.new_list.new.w (g.L.Locals.items c.args.l.now)) c.in_err-list.field-0.0)
    (two_same (extent_of c.args.w.now.heap) (extent_of c.loop-first.w.heap) c.in-Some.first.now c.loop-first.invariant.kept.extent
    (All-head (AreLive (extent_of c.args.w.now.heap)) c.in-Some.first.now c.in-Some.others.now
    (All-same (AreLive (extent_of c.args.w.now.heap)) _ _ (sym c.in-Some.ensures.cases.0) c.loop-first.invariant.left))) (c.in_err-list.ensures.found outside)))

pub loop-first-preserved : goal.loop-first-preserved
loop-first-preserved g c = record {
  locals = c.new_list.ensures.kept.locals;
  left = All-rest (AreLive (extent_of c.args.w.now.heap)) _ _ _ c.in-Some.ensures.cases.0 c.loop-first.invariant.left;
  made = All-same (IsLive (extent_of c.new_list.new.w.heap)) _ _ c.in_ok-add.ensures (All-push (IsLive (extent_of c.new_list.new.w.heap))
      _ _ (live_kept c.new_list.ensures.kept.items.extent c.loop-first.lists.items c.loop-first.invariant.made) c.in_ok-list.ensures.live);
  kept = keeps_items_trans _ _ _ c.loop-first.invariant.kept c.new_list.ensures.kept.items;
  is = λ outside.
      let shown : (map (value_in (extent_of c.loop-first.w.heap)) c.loop-first.lists.items) ++ value_in (extent_of c.new_list.new.w.heap) c.in_ok-list.list ∷ []
      ≡ map (value_in (extent_of c.new_list.new.w.heap)) c.add.new.vals.items =
      sym (ap (map (value_in (extent_of c.new_list.new.w.heap))) c.in_ok-add.ensures
      ∙ (map-append (value_in (extent_of c.new_list.new.w.heap)) c.loop-first.lists.items (c.in_ok-list.list ∷ [])
      ∙ ap (λ (values : List Value). values ++ value_in (extent_of c.new_list.new.w.heap) c.in_ok-list.list ∷ [])
      (values_kept c.new_list.ensures.kept.items.extent c.loop-first.lists.items c.loop-first.invariant.made))) in
      subst (λ (values : List Value). ListsLeft (map (values_in (extent_of c.args.w.now.heap)) c.args.pairs.now)
      (setting_of outside c.args.w.now (g.L.Locals.items c.args.l.now)) values (map (values_in (extent_of c.args.w.now.heap)) c.in-Some.others.now)
      (setting_of outside c.new_list.new.w (g.L.Locals.items c.args.l.now))) shown
      (one_made (map (values_in (extent_of c.args.w.now.heap)) c.args.pairs.now) (setting_of outside c.args.w.now (g.L.Locals.items c.args.l.now))
      (map (value_in (extent_of c.loop-first.w.heap)) c.loop-first.lists.items) (values_in (extent_of c.args.w.now.heap) c.in-Some.first.now)
      (map (values_in (extent_of c.args.w.now.heap)) c.loop-first.rest.now) (map (values_in (extent_of c.args.w.now.heap)) c.in-Some.others.now)
      (value_in (extent_of c.new_list.new.w.heap) c.in_ok-list.list) (setting_of outside c.loop-first.w (g.L.Locals.items c.args.l.now))
      (setting_of outside c.new_list.new.w (g.L.Locals.items c.args.l.now)) (ap (map (values_in (extent_of c.args.w.now.heap))) c.in-Some.ensures.cases.0)
      (c.loop-first.invariant.is outside)
      (subst (λ (items : List Value). GoesOn (new_list_of items) (setting_of outside c.loop-first.w (g.L.Locals.items c.args.l.now))
      (value_in (extent_of c.new_list.new.w.heap) c.in_ok-list.list) (setting_of outside c.new_list.new.w (g.L.Locals.items c.args.l.now)))
      (two_same (extent_of c.args.w.now.heap) (extent_of c.loop-first.w.heap) c.in-Some.first.now c.loop-first.invariant.kept.extent
      (All-head (AreLive (extent_of c.args.w.now.heap)) c.in-Some.first.now c.in-Some.others.now (All-same (AreLive (extent_of c.args.w.now.heap))
      _ _ (sym c.in-Some.ensures.cases.0) c.loop-first.invariant.left))) (c.in_ok-list.ensures.found outside)));
}

pub returns-clause-found : goal.returns-clause-found
returns-clause-found g c outside =
    all_made (map (values_in (extent_of c.args.w.now.heap)) c.args.pairs.now)
    (setting_of outside c.args.w.now (g.L.Locals.items c.args.l.now)) (map (value_in (extent_of c.loop-first.w.heap)) c.loop-first.lists.items)
    (map (values_in (extent_of c.args.w.now.heap)) c.loop-first.rest.now) (setting_of outside c.loop-first.w (g.L.Locals.items c.args.l.now))
    (ap (map (values_in (extent_of c.args.w.now.heap))) (nothing_left c.loop-first.rest.now c.in_default.ensures.cases)) (c.loop-first.invariant.is outside)
