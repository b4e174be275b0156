use Rattle.std.proofs.Common.{◌∙◌, sym, ap, map}
use Rattle.icn_value.specs.Values.{Value, Val as ItemVal}
use Rattle.icn_heap.specs.Extents.{value_in}
use Rattle.icn_heap.specs.Heaps.{extent_of}
use Rattle.icn_defs.specs.Arguments.{arg}
use Rattle.icn_defs.specs.Rows.{Gives}
use Rattle.icn_vars.specs.Worlds.{setting_of}
use Rattle.icn_vars.proofs.GrowingWorlds.{heap_changed, setting_over}
use Rattle.icn_structfn.proofs.InsertedKeys.{takes_out, takes_out_is}
use Rattle.icn_structfn.proofs.keys.delete.Goals as goal

pub returns-in-Ok-clause-row : goal.returns-in-Ok-clause-row
returns-in-Ok-clause-row g c outside =
    ap (λ (v : Value). takes_out v (arg (map (value_in (extent_of c.args.w.now.heap)) c.args.args.now) 1)
    (setting_of outside c.args.w.now (g.L.Locals.items c.args.l.now))) (sym (c.arg-kept.ensures.value (extent_of c.args.w.now.heap)))
    ∙ (ap (λ (k : Value). takes_out (value_in (extent_of c.args.w.now.heap) c.arg-kept.result) k
    (setting_of outside c.args.w.now (g.L.Locals.items c.args.l.now))) (sym (c.arg.ensures.value (extent_of c.args.w.now.heap)))
    ∙ (takes_out_is (value_in (extent_of c.args.w.now.heap) c.arg-kept.result) (value_in (extent_of c.args.w.now.heap) c.arg.result)
    (sym c.if-not-is_keeper.false ∙ c.is_keeper.ensures (extent_of c.args.w.now.heap)) (setting_of outside c.args.w.now (g.L.Locals.items c.args.l.now))
    ∙ (ap (Gives (ItemVal (value_in (extent_of c.args.w.now.heap) c.arg-kept.result)))
    (heap_changed outside c.args.w.now.heap c.remove.new.self c.args.w.now.pair c.args.w.now.words c.args.w.now.globals.items c.args.w.now.statics.items
    (g.L.Locals.items c.args.l.now) c.remove.ensures.kept c.in-Ok.ensures.step c.args.w.now.sound c.requires.live.locals)
    ∙ ap (λ (v : Value). Gives (ItemVal v) (setting_over outside
    c.remove.new.self c.args.w.now.pair c.args.w.now.words c.args.w.now.globals.items c.args.w.now.statics.items (g.L.Locals.items c.args.l.now)))
    (sym (c.remove.ensures.kept.value c.arg-kept.result (c.arg-kept.ensures.live (extent_of c.args.w.now.heap) c.requires.live.args))))))
