use Rattle.std.proofs.Common.{FitsSigned, ap, length, rules, sym, ◌-◌, ◌∙◌}
use Rattle.std.specs.Int.{w64}
use mir.Val.{of_z, to_z}
use Rattle.std.proofs.lemmas.Int.{to_z-of_z}
use Rattle.icn_value.specs.Store.{list_at}
use Rattle.icn_defs.specs.Arguments.{integer}
use Rattle.icn_defs.specs.Elements.{element_item}
use Rattle.icn_defs.specs.Variables.{element_position}
use Rattle.icn_defs.specs.Rows.{Gives, gives}
use Rattle.icn_heap.specs.Extents.{value_in}
use Rattle.icn_heap.specs.Heaps.{extent_of, heap_of}
use Rattle.icn_vars.specs.Worlds.{reach_of, setting_of}
use Rattle.icn_args.proofs.RowAnswers.{row_stops, stop_lives}
use Rattle.icn_ops.proofs.PlaceRows.{element_held}
use Rattle.icn_ops.proofs.subscripts.list_subscript.Goals as goal

pub returns-in_err-n-clause-row : goal.returns-in_err-n-clause-row
returns-in_err-n-clause-row g c = λ outside.
    row_stops (extent_of c.args.w.now.heap)
    (integer (value_in (extent_of c.args.w.now.heap) c.args.at)) (λ n setting. element_position n (length (list_at setting.world.heap c.args.list).items)
    (λ place. gives (element_item c.args.list (list_at setting.world.heap c.args.list) (place - 1))) setting)
    (setting_of outside c.args.w.now (g.L.Locals.items c.args.l.now)) (setting_of outside c.args.w.now (g.L.Locals.items c.args.l.now)) c.in_err-n.field-0.0
    c.from_residual.result c.from_residual.ensures.1 (c.in_err-n.ensures.found (setting_of outside c.args.w.now (g.L.Locals.items c.args.l.now)))

pub returns-in_err-n-clause-live : goal.returns-in_err-n-clause-live
returns-in_err-n-clause-live g c =
    stop_lives
    (reach_of c.args.w.now (g.L.Locals.items c.args.l.now)) c.in_err-n.field-0.0 c.from_residual.result c.from_residual.ensures.1 c.in_err-n.ensures.stops

pub returns-in-Some-clause-row : goal.returns-in-Some-clause-row
returns-in-Some-clause-row g c = λ outside.
    c.in_ok-n.ensures.found
    (setting_of outside c.args.w.now (g.L.Locals.items c.args.l.now)) (λ n setting. element_position n (length (list_at setting.world.heap c.args.list).items)
    (λ place. gives (element_item c.args.list (list_at setting.world.heap c.args.list) (place - 1))) setting)
    ∙ (element_held c.in_ok-n.n (to_z w64 (of_z w64 c.in_ok-n.n)) (length (list_at (heap_of c.args.w.now.heap) c.args.list).items) c.list_count.result
    (λ place. gives (element_item c.args.list (list_at (heap_of c.args.w.now.heap) c.args.list) (place - 1))) (setting_of outside c.args.w.now
    (g.L.Locals.items c.args.l.now)) _ (to_z-of_z w64 c.in_ok-n.n (let fits : FitsSigned w64 c.in_ok-n.n = search rules in fits)) c.list_count.ensures.count
    (c.in-Some.ensures.place (λ place. gives (element_item c.args.list (list_at (heap_of c.args.w.now.heap) c.args.list) (place - 1)))
    (setting_of outside c.args.w.now (g.L.Locals.items c.args.l.now)))
    ∙ sym (ap (λ i. Gives i (setting_of outside c.args.w.now (g.L.Locals.items c.args.l.now))) c.element_item.ensures.item))

pub returns-in-None-clause-row : goal.returns-in-None-clause-row
returns-in-None-clause-row g c = λ outside.
    c.in_ok-n.ensures.found
    (setting_of outside c.args.w.now (g.L.Locals.items c.args.l.now)) (λ n setting. element_position n (length (list_at setting.world.heap c.args.list).items)
    (λ place. gives (element_item c.args.list (list_at setting.world.heap c.args.list) (place - 1))) setting)
    ∙ element_held c.in_ok-n.n (to_z w64 (of_z w64 c.in_ok-n.n)) (length (list_at (heap_of c.args.w.now.heap) c.args.list).items) c.list_count.result
    (λ place. gives (element_item c.args.list (list_at (heap_of c.args.w.now.heap) c.args.list) (place - 1))) (setting_of outside c.args.w.now
    (g.L.Locals.items c.args.l.now)) _ (to_z-of_z w64 c.in_ok-n.n (let fits : FitsSigned w64 c.in_ok-n.n = search rules in fits)) c.list_count.ensures.count
    (c.in-None.ensures.place (λ place. gives (element_item c.args.list (list_at (heap_of c.args.w.now.heap) c.args.list) (place - 1)))
    (setting_of outside c.args.w.now (g.L.Locals.items c.args.l.now)))
