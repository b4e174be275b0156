use Rattle.std.proofs.Common.{◌∙◌, sym, ap, map}
use Rattle.icn_value.specs.Values.{Value, Val as ItemVal}
use Rattle.icn_heap.specs.Extents.{value_in}
use Rattle.icn_heap.specs.Heaps.{extent_of}
use Rattle.icn_defs.specs.Arguments.{arg}
use Rattle.icn_defs.specs.Rows.{Gives, gives_value}
use Rattle.icn_vars.specs.Worlds.{setting_of}
use Rattle.icn_defs.specs.Structures.{insert_row}
use Rattle.icn_structfn.specs.SetsAndTables.{inserts_in}
use Rattle.icn_structfn.proofs.RowAnswers.{stops_passing}
use Rattle.icn_structfn.proofs.keys.insert.Goals as goal

pub returns-in_err-insert_into-clause-row : goal.returns-in_err-insert_into-clause-row
returns-in_err-insert_into-clause-row g c outside =
    stops_passing (extent_of c.insert_into.new.w.heap) (insert_row (map (value_in (extent_of c.args.w.now.heap)) c.args.args.now))
    (inserts_in (value_in (extent_of c.args.w.now.heap) c.arg-kept.result) (value_in (extent_of c.args.w.now.heap) c.arg.result)
    (value_in (extent_of c.args.w.now.heap) c.arg-2.result)) (gives_value (value_in (extent_of c.args.w.now.heap) c.arg-kept.result))
    (setting_of outside c.args.w.now (g.L.Locals.items c.args.l.now)) (setting_of outside c.args.w.now (g.L.Locals.items c.args.l.now))
    (setting_of outside c.insert_into.new.w (g.L.Locals.items c.args.l.now)) c.in_err-insert_into.field-0.0 c.from_residual.result
    (ap (λ (v : Value). inserts_in v (arg (map (value_in (extent_of c.args.w.now.heap)) c.args.args.now) 1)
    (arg (map (value_in (extent_of c.args.w.now.heap)) c.args.args.now) 2) (gives_value v) (setting_of outside c.args.w.now (g.L.Locals.items c.args.l.now)))
    (sym (c.arg-kept.ensures.value (extent_of c.args.w.now.heap)))
    ∙ (ap (λ (k : Value). inserts_in (value_in (extent_of c.args.w.now.heap) c.arg-kept.result) k
    (arg (map (value_in (extent_of c.args.w.now.heap)) c.args.args.now) 2) (gives_value (value_in (extent_of c.args.w.now.heap) c.arg-kept.result))
    (setting_of outside c.args.w.now (g.L.Locals.items c.args.l.now))) (sym (c.arg.ensures.value (extent_of c.args.w.now.heap)))
    ∙ ap (λ (v : Value). inserts_in (value_in (extent_of c.args.w.now.heap) c.arg-kept.result) (value_in (extent_of c.args.w.now.heap) c.arg.result) v
    (gives_value (value_in (extent_of c.args.w.now.heap) c.arg-kept.result)) (setting_of outside c.args.w.now (g.L.Locals.items c.args.l.now)))
    (sym (c.arg-2.ensures.value (extent_of c.args.w.now.heap)))))
    c.from_residual.ensures.1 (c.in_err-insert_into.ensures.step outside)

pub returns-clause-row : goal.returns-clause-row
returns-clause-row g c outside =
    ap (λ (v : Value). inserts_in v (arg (map (value_in (extent_of c.args.w.now.heap)) c.args.args.now) 1)
    (arg (map (value_in (extent_of c.args.w.now.heap)) c.args.args.now) 2) (gives_value v) (setting_of outside c.args.w.now (g.L.Locals.items c.args.l.now)))
    (sym (c.arg-kept.ensures.value (extent_of c.args.w.now.heap)))
    ∙ (ap (λ (k : Value). inserts_in (value_in (extent_of c.args.w.now.heap) c.arg-kept.result) k
    (arg (map (value_in (extent_of c.args.w.now.heap)) c.args.args.now) 2) (gives_value (value_in (extent_of c.args.w.now.heap) c.arg-kept.result))
    (setting_of outside c.args.w.now (g.L.Locals.items c.args.l.now))) (sym (c.arg.ensures.value (extent_of c.args.w.now.heap)))
    ∙ ap (λ (v : Value). inserts_in (value_in (extent_of c.args.w.now.heap) c.arg-kept.result) (value_in (extent_of c.args.w.now.heap) c.arg.result) v
    (gives_value (value_in (extent_of c.args.w.now.heap) c.arg-kept.result)) (setting_of outside c.args.w.now (g.L.Locals.items c.args.l.now)))
    (sym (c.arg-2.ensures.value (extent_of c.args.w.now.heap))))
    ∙ (c.in_ok-insert_into.ensures.step outside (gives_value (value_in (extent_of c.args.w.now.heap) c.arg-kept.result))
    ∙ ap (λ (v : Value). Gives (ItemVal v) (setting_of outside c.insert_into.new.w (g.L.Locals.items c.args.l.now)))
    (sym (c.insert_into.ensures.kept.items.extent.value c.arg-kept.result (c.arg-kept.ensures.live (extent_of c.args.w.now.heap) c.requires.live.args))))
