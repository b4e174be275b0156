use Rattle.std.proofs.Common.{◌≡◌, ◌∙◌, refl, sym, ap, subst}
use Rattle.icn_value.specs.Values.{ASet, ATable}
use Rattle.icn_value.specs.Store.{set_at, table_at}
use Rattle.icn_heap.specs.Extents.{value_in}
use Rattle.icn_heap.specs.Heaps.{extent_of, heap_of}
use Rattle.icn_vars.specs.Worlds.{setting_of}
use Rattle.std.proofs.Common.{is_some}
use Rattle.icn_structs.specs.PairLists.{with_value_of}
use Rattle.icn_value.specs.Sameness.{has_value, same, with_member}
use Rattle.icn_value.specs.Store.{with_set, with_table}
use Rattle.icn_value.specs.Changes.{having_member, value_at_key, with_pair}
use Rattle.icn_heap.proofs.GrowingHeaps.{live_kept}
use Rattle.icn_vars.proofs.GrowingWorlds.{setting_over}
use Rattle.icn_vars.proofs.HeapChanges.{fields_behind, unless_change}
use Rattle.icn_args.specs.RowWords.{IsPassed}
use Rattle.icn_structfn.specs.SetsAndTables.{inserts_in}
use Rattle.icn_structfn.proofs.InsertedKeys.{charged, member_after, not_charged, pair_after}
use Rattle.icn_structfn.proofs.keys.insert_into.Goals as goal

pub returns-in_err-add-in-Set-clause-step : goal.returns-in_err-add-in-Set-clause-step
returns-in_err-add-in-Set-clause-step g c outside =
    let is : inserts_in (value_in (extent_of c.args.w.now.heap) c.args.kept) (value_in (extent_of c.args.w.now.heap) c.args.key)
    (value_in (extent_of c.args.w.now.heap) c.args.val) ≡ inserts_in (ASet c.in-Set.set) (value_in (extent_of c.args.w.now.heap) c.args.key)
    (value_in (extent_of c.args.w.now.heap) c.args.val) = ap (λ kept. inserts_in (value_in (extent_of c.args.w.now.heap) kept)
    (value_in (extent_of c.args.w.now.heap) c.args.key) (value_in (extent_of c.args.w.now.heap) c.args.val)) c.in-Set.is in
    subst
    (λ part. IsPassed (extent_of c.add.new.self) part (setting_of outside c.args.w.now (g.L.Locals.items c.args.l.now)) (setting_over outside c.add.new.self
    c.args.w.now.pair c.args.w.now.words c.args.w.now.globals.items c.args.w.now.statics.items (g.L.Locals.items c.args.l.now)) c.from_residual.result)
    (sym is)
    (not_charged c.args.w.now.heap c.add.new.self c.args.w.now.pair c.args.w.now.words c.args.w.now.globals.items c.args.w.now.statics.items
    (g.L.Locals.items c.args.l.now) c.add.ensures.kept
    c.args.w.now.sound c.requires.locals
    (unless_change (has_value (set_at (heap_of c.args.w.now.heap) c.in-Set.set) (value_in (extent_of c.args.w.now.heap) c.args.key)))
    (with_set c.in-Set.set (with_member (set_at (heap_of c.args.w.now.heap) c.in-Set.set) (value_in (extent_of c.args.w.now.heap) c.args.key)))
    (having_member c.in-Set.set (value_in (extent_of c.args.w.now.heap) c.args.key)) c.in_err-add-in-Set.field-0.0 c.from_residual.result
    c.in_err-add-in-Set.ensures.unchanged c.in_err-add-in-Set.ensures.step c.from_residual.ensures.1 outside)

pub returns-in_ok-add-in-Set-clause-step : goal.returns-in_ok-add-in-Set-clause-step
returns-in_ok-add-in-Set-clause-step g c outside next =
    ap (λ kept. inserts_in (value_in (extent_of c.args.w.now.heap) kept) (value_in (extent_of c.args.w.now.heap) c.args.key)
    (value_in (extent_of c.args.w.now.heap) c.args.val) next (setting_of outside c.args.w.now (g.L.Locals.items c.args.l.now))) c.in-Set.is
    ∙ charged c.args.w.now.heap c.add.new.self c.args.w.now.pair c.args.w.now.words c.args.w.now.globals.items c.args.w.now.statics.items
    (g.L.Locals.items c.args.l.now) c.add.ensures.kept
    c.args.w.now.sound c.requires.locals
    (unless_change (has_value (set_at (heap_of c.args.w.now.heap) c.in-Set.set) (value_in (extent_of c.args.w.now.heap) c.args.key)))
    (with_set c.in-Set.set (with_member (set_at (heap_of c.args.w.now.heap) c.in-Set.set) (value_in (extent_of c.args.w.now.heap) c.args.key)))
    (having_member c.in-Set.set (value_in (extent_of c.args.w.now.heap) c.args.key))
    (member_after c.in-Set.set (value_in (extent_of c.args.w.now.heap) c.args.key) (heap_of c.args.w.now.heap)) c.in_ok-add-in-Set.ensures.step outside next

pub returns-in_ok-add-in-Set-clause-kept : goal.returns-in_ok-add-in-Set-clause-kept
returns-in_ok-add-in-Set-clause-kept g c = record {
  locals = live_kept c.add.ensures.kept _ c.requires.locals;
  items = record {
    extent = c.add.ensures.kept;
    fields = fields_behind (unless_change (has_value (set_at (heap_of c.args.w.now.heap) c.in-Set.set) (value_in (extent_of c.args.w.now.heap) c.args.key)))
        (having_member c.in-Set.set (value_in (extent_of c.args.w.now.heap) c.args.key)) (λ heap. refl) (heap_of c.args.w.now.heap)
        (heap_of c.add.new.self) c.in_ok-add-in-Set.ensures.step;
    globals = refl;
    statics = refl;
    locals = refl;
  };
}

pub returns-in_err-store-in-Table-clause-step : goal.returns-in_err-store-in-Table-clause-step
returns-in_err-store-in-Table-clause-step g c outside =
    let is : inserts_in (value_in (extent_of c.args.w.now.heap) c.args.kept) (value_in (extent_of c.args.w.now.heap) c.args.key)
    (value_in (extent_of c.args.w.now.heap) c.args.val) ≡ inserts_in (ATable c.in-Table.table) (value_in (extent_of c.args.w.now.heap) c.args.key)
    (value_in (extent_of c.args.w.now.heap) c.args.val) = ap (λ kept. inserts_in (value_in (extent_of c.args.w.now.heap) kept)
    (value_in (extent_of c.args.w.now.heap) c.args.key) (value_in (extent_of c.args.w.now.heap) c.args.val)) c.in-Table.is in
    subst (λ part. IsPassed (extent_of c.store.new.self) part (setting_of outside c.args.w.now (g.L.Locals.items c.args.l.now))
    (setting_over outside c.store.new.self c.args.w.now.pair c.args.w.now.words c.args.w.now.globals.items c.args.w.now.statics.items
    (g.L.Locals.items c.args.l.now)) c.from_residual-in_err-store-in-Table.result) (sym is)
    (not_charged c.args.w.now.heap c.store.new.self c.args.w.now.pair c.args.w.now.words c.args.w.now.globals.items c.args.w.now.statics.items
    (g.L.Locals.items c.args.l.now) c.store.ensures.kept
    c.args.w.now.sound c.requires.locals
    (unless_change (is_some (value_at_key (heap_of c.args.w.now.heap) c.in-Table.table (value_in (extent_of c.args.w.now.heap) c.args.key))))
    (with_table c.in-Table.table (record (table_at (heap_of c.args.w.now.heap) c.in-Table.table) {
      pairs = with_value_of same (table_at (heap_of c.args.w.now.heap) c.in-Table.table).pairs (value_in (extent_of c.args.w.now.heap) c.args.key)
          (value_in (extent_of c.args.w.now.heap) c.args.val);
    })) (with_pair c.in-Table.table (value_in (extent_of c.args.w.now.heap) c.args.key) (value_in (extent_of c.args.w.now.heap) c.args.val))
    c.in_err-store-in-Table.field-0.0 c.from_residual-in_err-store-in-Table.result c.in_err-store-in-Table.ensures.unchanged
    c.in_err-store-in-Table.ensures.step c.from_residual-in_err-store-in-Table.ensures.1 outside)

pub returns-in_ok-store-in-Table-clause-step : goal.returns-in_ok-store-in-Table-clause-step
returns-in_ok-store-in-Table-clause-step g c outside next =
    ap (λ kept. inserts_in (value_in (extent_of c.args.w.now.heap) kept) (value_in (extent_of c.args.w.now.heap) c.args.key)
    (value_in (extent_of c.args.w.now.heap) c.args.val) next (setting_of outside c.args.w.now (g.L.Locals.items c.args.l.now))) c.in-Table.is
    ∙ charged c.args.w.now.heap c.store.new.self c.args.w.now.pair c.args.w.now.words c.args.w.now.globals.items c.args.w.now.statics.items
    (g.L.Locals.items c.args.l.now) c.store.ensures.kept
    c.args.w.now.sound c.requires.locals
    (unless_change (is_some (value_at_key (heap_of c.args.w.now.heap) c.in-Table.table (value_in (extent_of c.args.w.now.heap) c.args.key))))
    (with_table c.in-Table.table (record (table_at (heap_of c.args.w.now.heap) c.in-Table.table) {
      pairs = with_value_of same (table_at (heap_of c.args.w.now.heap) c.in-Table.table).pairs (value_in (extent_of c.args.w.now.heap) c.args.key)
          (value_in (extent_of c.args.w.now.heap) c.args.val);
    })) (with_pair c.in-Table.table (value_in (extent_of c.args.w.now.heap) c.args.key) (value_in (extent_of c.args.w.now.heap) c.args.val))
    (pair_after c.in-Table.table (value_in (extent_of c.args.w.now.heap) c.args.key) (value_in (extent_of c.args.w.now.heap) c.args.val)
    (heap_of c.args.w.now.heap)) c.in_ok-store-in-Table.ensures.step outside next

pub returns-in_ok-store-in-Table-clause-kept : goal.returns-in_ok-store-in-Table-clause-kept
returns-in_ok-store-in-Table-clause-kept g c = record {
  locals = live_kept c.store.ensures.kept _ c.requires.locals;
  items = record {
    extent = c.store.ensures.kept;
    fields =
        fields_behind (unless_change (is_some (value_at_key (heap_of c.args.w.now.heap) c.in-Table.table (value_in (extent_of c.args.w.now.heap) c.args.key))))
        (with_pair c.in-Table.table (value_in (extent_of c.args.w.now.heap) c.args.key) (value_in (extent_of c.args.w.now.heap) c.args.val)) (λ heap. refl)
        (heap_of c.args.w.now.heap) (heap_of c.store.new.self) c.in_ok-store-in-Table.ensures.step;
    globals = refl;
    statics = refl;
    locals = refl;
  };
}
