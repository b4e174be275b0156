use Rattle.std.proofs.Common.{◌∙◌, sym, ap, map, Option, Some, Bool}
use Rattle.icn_value.specs.Values.{Value}
use Rattle.icn_heap.specs.Extents.{value_in}
use Rattle.icn_heap.specs.Heaps.{extent_of}
use Rattle.icn_defs.specs.Arguments.{arg, keeper_of}
use Rattle.icn_vars.specs.Worlds.{setting_of}
use Rattle.icn_structfn.proofs.InsertedKeys.{is_missing, is_none, is_there, looks_for}
use Rattle.icn_structfn.proofs.keys.member.Goals as goal

pub returns-in-Some-true-clause-row : goal.returns-in-Some-true-clause-row
returns-in-Some-true-clause-row g c outside =
    ap (λ (v : Value). looks_for v (arg (map (value_in (extent_of c.args.w.now.heap)) c.args.args.now) 1)
    (setting_of outside c.args.w.now (g.L.Locals.items c.args.l.now))) (sym (c.arg-kept.ensures.value (extent_of c.args.w.now.heap)))
    ∙ (ap (λ (k : Value). looks_for (value_in (extent_of c.args.w.now.heap) c.arg-kept.result) k
    (setting_of outside c.args.w.now (g.L.Locals.items c.args.l.now))) (sym (c.arg-key.ensures.value (extent_of c.args.w.now.heap)))
    ∙ is_there (value_in (extent_of c.args.w.now.heap) c.arg-kept.result) (value_in (extent_of c.args.w.now.heap) c.arg-key.result)
    (setting_of outside c.args.w.now (g.L.Locals.items c.args.l.now)) (keeper_of (value_in (extent_of c.args.w.now.heap) c.arg-kept.result))
    (ap (λ (b : Bool). let some : Option Bool = Some b in some) (sym c.in-Some-true.field-0-test) ∙ (sym c.in-Some-true.is ∙ c.in-Ok.ensures)))

pub returns-in-Some-false-clause-row : goal.returns-in-Some-false-clause-row
returns-in-Some-false-clause-row g c outside =
    ap (λ (v : Value). looks_for v (arg (map (value_in (extent_of c.args.w.now.heap)) c.args.args.now) 1)
    (setting_of outside c.args.w.now (g.L.Locals.items c.args.l.now))) (sym (c.arg-kept.ensures.value (extent_of c.args.w.now.heap)))
    ∙ (ap (λ (k : Value). looks_for (value_in (extent_of c.args.w.now.heap) c.arg-kept.result) k
    (setting_of outside c.args.w.now (g.L.Locals.items c.args.l.now))) (sym (c.arg-key.ensures.value (extent_of c.args.w.now.heap)))
    ∙ is_missing (value_in (extent_of c.args.w.now.heap) c.arg-kept.result) (value_in (extent_of c.args.w.now.heap) c.arg-key.result)
    (setting_of outside c.args.w.now (g.L.Locals.items c.args.l.now)) (keeper_of (value_in (extent_of c.args.w.now.heap) c.arg-kept.result))
    (ap (λ (b : Bool). let some : Option Bool = Some b in some) (sym c.in-Some-false.field-0-test) ∙ (sym c.in-Some-false.is ∙ c.in-Ok.ensures)))

pub returns-in-None-clause-row : goal.returns-in-None-clause-row
returns-in-None-clause-row g c outside =
    ap (λ (v : Value). looks_for v (arg (map (value_in (extent_of c.args.w.now.heap)) c.args.args.now) 1)
    (setting_of outside c.args.w.now (g.L.Locals.items c.args.l.now))) (sym (c.arg-kept.ensures.value (extent_of c.args.w.now.heap)))
    ∙ (ap (λ (k : Value). looks_for (value_in (extent_of c.args.w.now.heap) c.arg-kept.result) k
    (setting_of outside c.args.w.now (g.L.Locals.items c.args.l.now))) (sym (c.arg-key.ensures.value (extent_of c.args.w.now.heap)))
    ∙ is_none (value_in (extent_of c.args.w.now.heap) c.arg-kept.result) (value_in (extent_of c.args.w.now.heap) c.arg-key.result)
    (setting_of outside c.args.w.now (g.L.Locals.items c.args.l.now)) (keeper_of (value_in (extent_of c.args.w.now.heap) c.arg-kept.result))
    (sym c.in-None.is ∙ c.in-Ok.ensures))
