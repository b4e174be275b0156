use Rattle.std.proofs.Common.{rules, ◌≡◌, ◌∙◌, ap, ℤ, map, pos, FitsSigned, w64, to_z, of_z}
use Rattle.std.proofs.lemmas.Int.{to_z-of_z}
use Rattle.icn_value.specs.Values.{Integer}
use Rattle.icn_heap.specs.Extents.{value_in}
use Rattle.icn_heap.specs.Heaps.{extent_of}
use Rattle.icn_defs.specs.Arguments.{integer, value_or}
use Rattle.icn_defs.specs.Rows.{gives_value}
use Rattle.icn_defs.specs.Structures.{sort_row}
use Rattle.icn_vars.specs.Worlds.{setting_of}
use Rattle.icn_structfn.specs.Sorting.{sorted_value}
use Rattle.icn_structfn.proofs.RowAnswers.{stops_finding}
use Rattle.icn_structfn.proofs.SortRows.{sort_asks, sort_goes_on, sorts_by}
use Rattle.icn_structfn.proofs.sorting.sort.Goals as goal

-- an integer that is passed on
same_integer : (n : ℤ) → FitsSigned w64 n → to_z w64 (of_z w64 n) ≡ n
same_integer n fits = to_z-of_z w64 n fits

pub integer_of-requires : goal.integer_of-requires
integer_of-requires g c =
    c.value_or.ensures.live (extent_of c.args.w.now.heap) (record { live = tt }) (c.arg.ensures.live (extent_of c.args.w.now.heap) c.requires.live.args)

pub returns-in_err-n-clause-row : goal.returns-in_err-n-clause-row
returns-in_err-n-clause-row g c outside =
    stops_finding (extent_of c.args.w.now.heap) (sort_row (g.N.Names.known c.args.names.now) (map (value_in (extent_of c.args.w.now.heap)) c.args.args.now))
    (integer (value_in (extent_of c.args.w.now.heap) c.value_or.result))
    (sorts_by (g.N.Names.known c.args.names.now) (map (value_in (extent_of c.args.w.now.heap)) c.args.args.now))
    (setting_of outside c.args.w.now (g.L.Locals.items c.args.l.now)) (setting_of outside c.args.w.now (g.L.Locals.items c.args.l.now))
    (setting_of outside c.args.w.now (g.L.Locals.items c.args.l.now)) c.in_err-n.field-0.0 c.from_residual.result
    (sort_asks (g.N.Names.known c.args.names.now) (map (value_in (extent_of c.args.w.now.heap)) c.args.args.now)
    (value_in (extent_of c.args.w.now.heap) c.value_or.result) (setting_of outside c.args.w.now (g.L.Locals.items c.args.l.now))
    (c.value_or.ensures.value (extent_of c.args.w.now.heap) ∙ ap (value_or (Integer (pos 1))) (c.arg.ensures.value (extent_of c.args.w.now.heap))))
    c.from_residual.ensures.1 (c.in_err-n.ensures.found (setting_of outside c.args.w.now (g.L.Locals.items c.args.l.now)))

pub returns-in_err-list-clause-row : goal.returns-in_err-list-clause-row
returns-in_err-list-clause-row g c outside =
    stops_finding (extent_of c.sorted_list.new.w.heap)
    (sort_row (g.N.Names.known c.args.names.now) (map (value_in (extent_of c.args.w.now.heap)) c.args.args.now))
    (sorted_value (g.N.Names.known c.args.names.now) (to_z w64 (of_z w64 c.in_ok-n.n)) (value_in (extent_of c.args.w.now.heap) c.arg-3.result)
    (value_in (extent_of c.args.w.now.heap) c.arg-2.result)) gives_value
    (setting_of outside c.args.w.now (g.L.Locals.items c.args.l.now)) (setting_of outside c.args.w.now (g.L.Locals.items c.args.l.now))
    (setting_of outside c.sorted_list.new.w (g.L.Locals.items c.args.l.now)) c.in_err-list.field-0.0 c.from_residual-in_err-list.result
    (sort_goes_on (g.N.Names.known c.args.names.now) (map (value_in (extent_of c.args.w.now.heap)) c.args.args.now) (value_in (extent_of c.args.w.now.heap)
    c.value_or.result) (value_in (extent_of c.args.w.now.heap) c.arg-3.result) (value_in (extent_of c.args.w.now.heap) c.arg-2.result)
    c.in_ok-n.n (to_z w64 (of_z w64 c.in_ok-n.n)) (setting_of outside c.args.w.now (g.L.Locals.items c.args.l.now))
    (c.value_or.ensures.value (extent_of c.args.w.now.heap) ∙ ap (value_or (Integer (pos 1))) (c.arg.ensures.value (extent_of c.args.w.now.heap)))
    (c.arg-3.ensures.value (extent_of c.args.w.now.heap)) (c.arg-2.ensures.value (extent_of c.args.w.now.heap)) (same_integer c.in_ok-n.n (search rules))
    (c.in_ok-n.ensures.found (setting_of outside c.args.w.now (g.L.Locals.items c.args.l.now))))
    c.from_residual-in_err-list.ensures.1 (c.in_err-list.ensures.found outside)

pub returns-clause-row : goal.returns-clause-row
returns-clause-row g c outside =
    sort_goes_on (g.N.Names.known c.args.names.now) (map (value_in (extent_of c.args.w.now.heap)) c.args.args.now)
    (value_in (extent_of c.args.w.now.heap) c.value_or.result) (value_in (extent_of c.args.w.now.heap) c.arg-3.result)
    (value_in (extent_of c.args.w.now.heap) c.arg-2.result)
    c.in_ok-n.n (to_z w64 (of_z w64 c.in_ok-n.n)) (setting_of outside c.args.w.now (g.L.Locals.items c.args.l.now))
    (c.value_or.ensures.value (extent_of c.args.w.now.heap) ∙ ap (value_or (Integer (pos 1))) (c.arg.ensures.value (extent_of c.args.w.now.heap)))
    (c.arg-3.ensures.value (extent_of c.args.w.now.heap)) (c.arg-2.ensures.value (extent_of c.args.w.now.heap)) (same_integer c.in_ok-n.n (search rules))
    (c.in_ok-n.ensures.found (setting_of outside c.args.w.now (g.L.Locals.items c.args.l.now)))
    ∙ c.in_ok-list.ensures.found outside gives_value
