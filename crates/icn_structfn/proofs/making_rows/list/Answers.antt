use Rattle.std.proofs.Common.{◌≡◌, ◌∙◌, sym, ap, ℕ, ℤ, map, pos, replicate}
use Rattle.icn_value.specs.Values.{Value, Integer}
use Rattle.icn_heap.specs.Extents.{value_in}
use Rattle.icn_heap.specs.Heaps.{extent_of}
use Rattle.icn_defs.specs.Arguments.{arg, integer, value_or}
use Rattle.icn_defs.specs.Rows.{gives_list, gives_value, natural, new_list_of}
use Rattle.icn_defs.specs.Structures.{list_row}
use Rattle.icn_vars.specs.Worlds.{reach_of, setting_of}
use Rattle.icn_args.proofs.RowAnswers.{value_stop_lives}
use Rattle.icn_structfn.proofs.RowAnswers.{stops_finding}
use Rattle.std.proofs.Common.{rules, FitsSigned, w64, to_z, of_z}
use Rattle.std.proofs.lemmas.Int.{to_z-of_z}
use Rattle.icn_structfn.proofs.making_rows.list.Goals as goal

-- an integer that is passed on
same_integer : (n : ℤ) → FitsSigned w64 n → to_z w64 (of_z w64 n) ≡ n
same_integer n fits = to_z-of_z w64 n fits

pub integer_of-requires : goal.integer_of-requires
integer_of-requires g c =
    c.value_or.ensures.live (extent_of c.args.w.now.heap) (record { live = tt }) (c.arg.ensures.live (extent_of c.args.w.now.heap) c.requires.live.args)

pub returns-in_err-n-clause-row : goal.returns-in_err-n-clause-row
returns-in_err-n-clause-row g c outside =
    stops_finding (extent_of c.args.w.now.heap)
    (list_row (map (value_in (extent_of c.args.w.now.heap)) c.args.args.now)) (integer (value_in (extent_of c.args.w.now.heap) c.value_or.result))
    (λ (n : ℤ). natural n (arg (map (value_in (extent_of c.args.w.now.heap)) c.args.args.now) 0)
    (λ count. gives_list (replicate count (arg (map (value_in (extent_of c.args.w.now.heap)) c.args.args.now) 1))))
    (setting_of outside c.args.w.now (g.L.Locals.items c.args.l.now)) (setting_of outside c.args.w.now (g.L.Locals.items c.args.l.now))
    (setting_of outside c.args.w.now (g.L.Locals.items c.args.l.now)) c.in_err-n.field-0.0 c.from_residual.result
    (ap (λ (v : Value). integer v (λ (n : ℤ). natural n (arg (map (value_in (extent_of c.args.w.now.heap)) c.args.args.now) 0)
    (λ count. gives_list (replicate count (arg (map (value_in (extent_of c.args.w.now.heap)) c.args.args.now) 1))))
    (setting_of outside c.args.w.now (g.L.Locals.items c.args.l.now)))
    (sym (c.value_or.ensures.value (extent_of c.args.w.now.heap) ∙ ap (value_or (Integer (pos 0))) (c.arg.ensures.value (extent_of c.args.w.now.heap)))))
    c.from_residual.ensures.1 (c.in_err-n.ensures.found (setting_of outside c.args.w.now (g.L.Locals.items c.args.l.now)))

pub returns-in_err-count-clause-row : goal.returns-in_err-count-clause-row
returns-in_err-count-clause-row g c outside =
    stops_finding (extent_of c.args.w.now.heap) (list_row (map (value_in (extent_of c.args.w.now.heap)) c.args.args.now))
    (natural (to_z w64 (of_z w64 c.in_ok-n.n)) (value_in (extent_of c.args.w.now.heap) c.arg-2.result))
    (λ (count : ℕ). gives_list (replicate count (arg (map (value_in (extent_of c.args.w.now.heap)) c.args.args.now) 1)))
    (setting_of outside c.args.w.now (g.L.Locals.items c.args.l.now)) (setting_of outside c.args.w.now (g.L.Locals.items c.args.l.now))
    (setting_of outside c.args.w.now (g.L.Locals.items c.args.l.now)) c.in_err-count.field-0.0 c.from_residual-in_err-count.result
    ((ap (λ (v : Value). integer v (λ (n : ℤ). natural n (arg (map (value_in (extent_of c.args.w.now.heap)) c.args.args.now) 0) (λ count. gives_list (replicate
    count (arg (map (value_in (extent_of c.args.w.now.heap)) c.args.args.now) 1)))) (setting_of outside c.args.w.now (g.L.Locals.items c.args.l.now)))
    (sym (c.value_or.ensures.value (extent_of c.args.w.now.heap) ∙ ap (value_or (Integer (pos 0))) (c.arg.ensures.value (extent_of c.args.w.now.heap)))))
    ∙ (c.in_ok-n.ensures.found (setting_of outside c.args.w.now (g.L.Locals.items c.args.l.now))
    (λ (n : ℤ). natural n (arg (map (value_in (extent_of c.args.w.now.heap)) c.args.args.now) 0)
    (λ count. gives_list (replicate count (arg (map (value_in (extent_of c.args.w.now.heap)) c.args.args.now) 1))))
    ∙ (ap (λ (v : Value). natural c.in_ok-n.n v (λ (count : ℕ). gives_list (replicate count (arg (map (value_in (extent_of c.args.w.now.heap)) c.args.args.now)
    1))) (setting_of outside c.args.w.now (g.L.Locals.items c.args.l.now))) (sym (c.arg-2.ensures.value (extent_of c.args.w.now.heap)))
    ∙ ap (λ (m : ℤ). natural m (value_in (extent_of c.args.w.now.heap) c.arg-2.result)
    (λ (count : ℕ). gives_list (replicate count (arg (map (value_in (extent_of c.args.w.now.heap)) c.args.args.now) 1)))
    (setting_of outside c.args.w.now (g.L.Locals.items c.args.l.now))) (sym (same_integer c.in_ok-n.n (search rules)))))) c.from_residual-in_err-count.ensures.1
    (c.in_err-count.ensures.found (extent_of c.args.w.now.heap) (setting_of outside c.args.w.now (g.L.Locals.items c.args.l.now)))

pub returns-in_err-count-clause-live : goal.returns-in_err-count-clause-live
returns-in_err-count-clause-live g c =
    value_stop_lives
    (reach_of c.args.w.now (g.L.Locals.items c.args.l.now)) c.in_err-count.field-0.0 c.from_residual-in_err-count.result c.from_residual-in_err-count.ensures.1
    (c.in_err-count.ensures.stops (extent_of c.args.w.now.heap) (c.arg-2.ensures.live (extent_of c.args.w.now.heap) c.requires.live.args))

pub returns-in_err-list-clause-row : goal.returns-in_err-list-clause-row
returns-in_err-list-clause-row g c outside =
    stops_finding (extent_of c.filled_list.new.w.heap) (list_row (map (value_in (extent_of c.args.w.now.heap)) c.args.args.now))
    (new_list_of (replicate c.in_ok-count.count (value_in (extent_of c.args.w.now.heap) c.arg-3.result))) gives_value
    (setting_of outside c.args.w.now (g.L.Locals.items c.args.l.now)) (setting_of outside c.args.w.now (g.L.Locals.items c.args.l.now))
    (setting_of outside c.filled_list.new.w (g.L.Locals.items c.args.l.now)) c.in_err-list.field-0.0 c.from_residual-in_err-list.result
    (((ap (λ (v : Value). integer v (λ (n : ℤ). natural n (arg (map (value_in (extent_of c.args.w.now.heap)) c.args.args.now) 0) (λ count. gives_list (replicate
    count (arg (map (value_in (extent_of c.args.w.now.heap)) c.args.args.now) 1)))) (setting_of outside c.args.w.now (g.L.Locals.items c.args.l.now)))
    (sym (c.value_or.ensures.value (extent_of c.args.w.now.heap) ∙ ap (value_or (Integer (pos 0))) (c.arg.ensures.value (extent_of c.args.w.now.heap)))))
    ∙ (c.in_ok-n.ensures.found (setting_of outside c.args.w.now (g.L.Locals.items c.args.l.now))
    (λ (n : ℤ). natural n (arg (map (value_in (extent_of c.args.w.now.heap)) c.args.args.now) 0)
    (λ count. gives_list (replicate count (arg (map (value_in (extent_of c.args.w.now.heap)) c.args.args.now) 1))))
    ∙ (ap (λ (v : Value). natural c.in_ok-n.n v (λ (count : ℕ). gives_list (replicate count (arg (map (value_in (extent_of c.args.w.now.heap)) c.args.args.now)
    1))) (setting_of outside c.args.w.now (g.L.Locals.items c.args.l.now))) (sym (c.arg-2.ensures.value (extent_of c.args.w.now.heap)))
    ∙ ap (λ (m : ℤ). natural m (value_in (extent_of c.args.w.now.heap) c.arg-2.result)
    (λ (count : ℕ). gives_list (replicate count (arg (map (value_in (extent_of c.args.w.now.heap)) c.args.args.now) 1)))
    (setting_of outside c.args.w.now (g.L.Locals.items c.args.l.now))) (sym (same_integer c.in_ok-n.n (search rules))))))
    ∙ (c.in_ok-count.ensures.found (extent_of c.args.w.now.heap) (setting_of outside c.args.w.now (g.L.Locals.items c.args.l.now))
    (λ (count : ℕ). gives_list (replicate count (arg (map (value_in (extent_of c.args.w.now.heap)) c.args.args.now) 1)))
    ∙ ap (λ (v : Value). gives_list (replicate c.in_ok-count.count v) (setting_of outside c.args.w.now (g.L.Locals.items c.args.l.now)))
    (sym (c.arg-3.ensures.value (extent_of c.args.w.now.heap))))) c.from_residual-in_err-list.ensures.1 (c.in_err-list.ensures.found outside)

pub returns-clause-row : goal.returns-clause-row
returns-clause-row g c outside = (((ap (λ (v : Value). integer v (λ (n : ℤ). natural n (arg (map (value_in (extent_of c.args.w.now.heap)) c.args.args.now) 0)
    (λ count. gives_list (replicate count (arg (map (value_in (extent_of c.args.w.now.heap)) c.args.args.now) 1))))
    (setting_of outside c.args.w.now (g.L.Locals.items c.args.l.now)))
    (sym (c.value_or.ensures.value (extent_of c.args.w.now.heap) ∙ ap (value_or (Integer (pos 0))) (c.arg.ensures.value (extent_of c.args.w.now.heap)))))
    ∙ (c.in_ok-n.ensures.found (setting_of outside c.args.w.now (g.L.Locals.items c.args.l.now))
    (λ (n : ℤ). natural n (arg (map (value_in (extent_of c.args.w.now.heap)) c.args.args.now) 0)
    (λ count. gives_list (replicate count (arg (map (value_in (extent_of c.args.w.now.heap)) c.args.args.now) 1))))
    ∙ (ap (λ (v : Value). natural c.in_ok-n.n v (λ (count : ℕ). gives_list (replicate count (arg (map (value_in (extent_of c.args.w.now.heap)) c.args.args.now)
    1))) (setting_of outside c.args.w.now (g.L.Locals.items c.args.l.now))) (sym (c.arg-2.ensures.value (extent_of c.args.w.now.heap)))
    ∙ ap (λ (m : ℤ). natural m (value_in (extent_of c.args.w.now.heap) c.arg-2.result)
    (λ (count : ℕ). gives_list (replicate count (arg (map (value_in (extent_of c.args.w.now.heap)) c.args.args.now) 1)))
    (setting_of outside c.args.w.now (g.L.Locals.items c.args.l.now))) (sym (same_integer c.in_ok-n.n (search rules))))))
    ∙ (c.in_ok-count.ensures.found (extent_of c.args.w.now.heap) (setting_of outside c.args.w.now (g.L.Locals.items c.args.l.now))
    (λ (count : ℕ). gives_list (replicate count (arg (map (value_in (extent_of c.args.w.now.heap)) c.args.args.now) 1)))
    ∙ ap (λ (v : Value). gives_list (replicate c.in_ok-count.count v) (setting_of outside c.args.w.now (g.L.Locals.items c.args.l.now)))
    (sym (c.arg-3.ensures.value (extent_of c.args.w.now.heap))))) ∙ c.in_ok-list.ensures.found outside gives_value
