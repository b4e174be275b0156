use Rattle.std.proofs.Common.{[], ◌∷◌, map}
use Rattle.std.proofs.lemmas.List.Elements.{All-head, All-tail}
use Rattle.icn_text.specs.declared.op.Op.TheVariants as Ops
use Rattle.icn_value.specs.declared.item.Item.{Item}
use Rattle.icn_value.specs.Store.{bare_outside}
use Rattle.icn_heap.specs.Heaps.{extent_of}
use Rattle.icn_defs.specs.Applying.{operation_row}
use Rattle.icn_defs.specs.Operations.{concatenate_row}
use Rattle.icn_vars.specs.Outcomes.{answer_of}
use Rattle.icn_vars.specs.Worlds.{IsLiveItem, item_in, reach_of, setting_of}
use Rattle.law_names.proofs.RowSizes.{rows_keep_sizes}
use Rattle.law_names.proofs.RowsNamed.{rows_keep_names}
use Rattle.icn_streams.specs.Answers.{call_state}
use Rattle.icn_streams.proofs.QuietRows.{faultless_applies}
use Rattle.icn_apply.proofs.NamesStay.{applies_named, elsewhere}
use Rattle.icn_apply.proofs.SizesStay.{applies_sized}
use Rattle.icn_apply.proofs.applying.concatenate.Goals as goal

pub concatenate_row-requires : goal.concatenate_row-requires
concatenate_row-requires g c =
    let live : Item → Type 0 = IsLiveItem (reach_of c.args.w.now (g.L.Locals.items c.args.l.now)) in
    record {
      live = record {
        locals = c.requires.locals;
        first = All-head live c.args.x (c.args.y ∷ []) c.requires.args;
        second = All-head live c.args.y [] (All-tail live c.args.x (c.args.y ∷ []) c.requires.args);
      };
    }

pub returns-clause-applies : goal.returns-clause-applies
returns-clause-applies g c =
    faultless_applies (concatenate_row (item_in (extent_of c.args.w.now.heap) c.args.x) (item_in (extent_of c.args.w.now.heap) c.args.y)) c.args.w.now
    c.concatenate_row.new.w (g.L.Locals.items c.args.l.now) (g.L.Locals.items c.args.l.now)
    (g.S.Streams.state c.args.streams.now) (answer_of c.concatenate_row.result) (λ was. c.concatenate_row.ensures.row was) c.concatenate_row.ensures.live
    c.concatenate_row.ensures.kept.locals c.concatenate_row.ensures.kept.items

pub returns-clause-named : goal.returns-clause-named
returns-clause-named g c =
    let names = g.N.Names.known c.args.names.now in
    let locals = g.L.Locals.items c.args.l.now in
    let w = c.args.w.now in
    applies_named names (operation_row Ops.Concatenate (map (item_in (extent_of w.heap)) (c.args.x ∷ c.args.y ∷ [])))
    (call_state w locals (g.S.Streams.state c.args.streams.now))
    (call_state c.concatenate_row.new.w locals (g.S.Streams.state c.args.streams.now))
    (answer_of c.concatenate_row.result)
    (λ was. rows_keep_names.operations names Ops.Concatenate (map (item_in (extent_of w.heap)) (c.args.x ∷ c.args.y ∷ []))
    (setting_of was w locals) (elsewhere names w locals bare_outside was c.requires.named) c.requires.args_named)
    (returns-clause-applies g c)

pub returns-clause-sized : goal.returns-clause-sized
returns-clause-sized g c =
    let locals = g.L.Locals.items c.args.l.now in
    let w = c.args.w.now in
    applies_sized (operation_row Ops.Concatenate (map (item_in (extent_of w.heap)) (c.args.x ∷ c.args.y ∷ [])))
    (call_state w locals (g.S.Streams.state c.args.streams.now))
    (call_state c.concatenate_row.new.w locals (g.S.Streams.state c.args.streams.now))
    (answer_of c.concatenate_row.result)
    (λ was sizes. rows_keep_sizes.operations sizes Ops.Concatenate (map (item_in (extent_of w.heap)) (c.args.x ∷ c.args.y ∷ []))
    (setting_of was w locals))
    (returns-clause-applies g c)
