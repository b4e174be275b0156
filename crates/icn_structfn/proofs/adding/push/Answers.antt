use Rattle.std.proofs.Common.{◌≡◌, ◌∙◌, sym, ap, List, map, drop}
use Rattle.icn_value.specs.Values.{Value, AList}
use Rattle.icn_value.specs.Store.{Setting}
use Rattle.icn_heap.specs.Extents.{value_in}
use Rattle.icn_heap.specs.Heaps.{extent_of}
use Rattle.icn_vars.specs.Worlds.{setting_of}
use Rattle.icn_structs.specs.Numbered.{with_left}
use Rattle.icn_defs.specs.Rows.{gives_value}
use Rattle.icn_defs.specs.Structures.{or_null, push_row}
use Rattle.icn_structfn.specs.AddedElements.{adds}
use Rattle.icn_structfn.proofs.AddedElements.{adds_row}
use Rattle.icn_structfn.proofs.RowAnswers.{stops_passing}
use Rattle.icn_structfn.proofs.adding.push.Goals as goal

pub add_left-requires-clause-vals : goal.add_left-requires-clause-vals
add_left-requires-clause-vals g c = c.values_to_add.ensures.live (extent_of c.args.w.now.heap) c.requires.live.args

pub returns-in_err-add_left-in-List-clause-row : goal.returns-in_err-add_left-in-List-clause-row
returns-in_err-add_left-in-List-clause-row g c outside =
    let before : Setting = setting_of outside c.args.w.now (g.L.Locals.items c.args.l.now) in
    let after : Setting = setting_of outside c.add_left.new.w (g.L.Locals.items c.args.l.now) in
    let same : push_row (map (value_in (extent_of c.args.w.now.heap)) c.args.args.now) before
    ≡ adds with_left c.in-List.id (map (value_in (extent_of c.args.w.now.heap)) c.values_to_add.result.now) (gives_value (AList c.in-List.id)) before =
    ap (λ (v : Value). adds_row with_left v (or_null (drop 1 (map (value_in (extent_of c.args.w.now.heap)) c.args.args.now))) before)
    (sym (c.arg-list.ensures.value (extent_of c.args.w.now.heap)) ∙ ap (value_in (extent_of c.args.w.now.heap)) c.in-List.is)
    ∙ ap (λ (vs : List Value). adds with_left c.in-List.id vs (gives_value (AList c.in-List.id)) before)
    (sym (c.values_to_add.ensures.value (extent_of c.args.w.now.heap))) in
    stops_passing (extent_of c.add_left.new.w.heap) (push_row (map (value_in (extent_of c.args.w.now.heap)) c.args.args.now))
    (adds with_left c.in-List.id (map (value_in (extent_of c.args.w.now.heap)) c.values_to_add.result.now))
    (gives_value (AList c.in-List.id)) before before after
    c.in_err-add_left-in-List.field-0.0 c.from_residual.result same c.from_residual.ensures.1 (c.in_err-add_left-in-List.ensures.step outside)

pub returns-in_ok-add_left-in-List-clause-row : goal.returns-in_ok-add_left-in-List-clause-row
returns-in_ok-add_left-in-List-clause-row g c outside =
    let before : Setting = setting_of outside c.args.w.now (g.L.Locals.items c.args.l.now) in
    ap (λ (v : Value). adds_row with_left v (or_null (drop 1 (map (value_in (extent_of c.args.w.now.heap)) c.args.args.now))) before)
    (sym (c.arg-list.ensures.value (extent_of c.args.w.now.heap)) ∙ ap (value_in (extent_of c.args.w.now.heap)) c.in-List.is)
    ∙ (ap (λ (vs : List Value). adds with_left c.in-List.id vs (gives_value (AList c.in-List.id)) before)
    (sym (c.values_to_add.ensures.value (extent_of c.args.w.now.heap)))
    ∙ c.in_ok-add_left-in-List.ensures.step outside (gives_value (AList c.in-List.id)))
