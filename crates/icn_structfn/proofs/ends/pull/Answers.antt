use Rattle.std.proofs.Common.{◌∙◌, sym, ap, map}
use Rattle.icn_structs.specs.Numbered.{rightmost, without_right}
use Rattle.icn_value.specs.Store.{list_at}
use Rattle.icn_value.specs.Values.{Value}
use Rattle.icn_vars.specs.Worlds.{setting_of}
use Rattle.icn_defs.specs.Arguments.{arg}
use Rattle.icn_heap.specs.Extents.{value_in}
use Rattle.icn_heap.specs.Heaps.{extent_of, heap_of}
use Rattle.icn_structfn.proofs.KeptFields.{no_list}
use Rattle.icn_structfn.proofs.TakenElements.{none_taken, element_taken, not_taken, right_none, takes_element}
use Rattle.icn_structfn.proofs.ends.pull.Goals as goal

pub returns-in-Some-clause-row : goal.returns-in-Some-clause-row
returns-in-Some-clause-row g c =
    element_taken c.args.w.now.heap c.pull.new.self c.args.w.now.pair c.args.w.now.words c.args.w.now.globals.items c.args.w.now.statics.items
    (g.L.Locals.items c.args.l.now) c.pull.ensures.kept
    c.args.w.now.sound c.requires.live.locals rightmost without_right (arg (map (value_in (extent_of c.args.w.now.heap)) c.args.args.now) 0) c.in-List.id
    (sym (c.arg-list.ensures.value (extent_of c.args.w.now.heap)) ∙ ap (value_in (extent_of c.args.w.now.heap)) c.in-List.is)
    (value_in (extent_of c.pull.new.self) c.in-Some.val) c.in-Some.ensures.item c.pull.ensures.step

pub returns-in-None-clause-row : goal.returns-in-None-clause-row
returns-in-None-clause-row g c =
    none_taken c.args.w.now.heap c.pull.new.self c.args.w.now.pair c.args.w.now.words c.args.w.now.globals.items c.args.w.now.statics.items
    (g.L.Locals.items c.args.l.now) c.pull.ensures.kept
    c.args.w.now.sound c.requires.live.locals rightmost without_right (arg (map (value_in (extent_of c.args.w.now.heap)) c.args.args.now) 0) c.in-List.id
    (sym (c.arg-list.ensures.value (extent_of c.args.w.now.heap)) ∙ ap (value_in (extent_of c.args.w.now.heap)) c.in-List.is)
    c.in-None.ensures.item (right_none (list_at (heap_of c.args.w.now.heap) c.in-List.id) c.in-None.ensures.item) c.pull.ensures.step

pub returns-in_default-clause-row : goal.returns-in_default-clause-row
returns-in_default-clause-row g c outside =
    ap (λ (v : Value). takes_element rightmost without_right v (setting_of outside c.args.w.now (g.L.Locals.items c.args.l.now)))
    (sym (c.arg-list.ensures.value (extent_of c.args.w.now.heap)))
    ∙ not_taken rightmost without_right (value_in (extent_of c.args.w.now.heap) c.arg-list.result)
    (no_list (extent_of c.args.w.now.heap) c.arg-list.result c.in_default.not-List) (setting_of outside c.args.w.now (g.L.Locals.items c.args.l.now))
