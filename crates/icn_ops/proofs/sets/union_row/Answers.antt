use Rattle.std.proofs.Common.{◌∙◌, ◌++◌, ◌||◌, sym, ap, ℕ, List}
use Rattle.icn_value.specs.Values.{Value, Chars, Val}
use Rattle.icn_value.specs.Members.{members, contains}
use Rattle.icn_defs.specs.Rows.{Gives, gives_value}
use Rattle.icn_heap.specs.Extents.{value_in}
use Rattle.icn_heap.specs.Heaps.{extent_of, heap_of}
use Rattle.icn_vars.specs.Worlds.{item_in, reach_of, setting_of}
use Rattle.icn_args.proofs.RowAnswers.{answer_then, row_stops, stop_lives}
use Rattle.icn_ops.specs.Operands.{two_values}
use Rattle.icn_ops.proofs.SetMaking.{either_members}
use Rattle.icn_ops.specs.Operands.{two_csets}
use Rattle.icn_defs.specs.Operations.{new_set_of, sets_or_csets, two_sets, union_row, difference}
use Rattle.icn_value.specs.Store.{set_at}
use Rattle.icn_defs.specs.Arguments.{set_of}
use Rattle.icn_ops.proofs.sets.union_row.Goals as goal

pub returns-in_err-a-clause-row : goal.returns-in_err-a-clause-row
returns-in_err-a-clause-row g c = λ outside.
    row_stops (extent_of c.args.w.now.heap) (two_values (item_in (extent_of c.args.w.now.heap) c.args.x) (item_in (extent_of c.args.w.now.heap) c.args.y))
    (λ (two : Value × Value). sets_or_csets (λ first second. first ++ difference second first) (λ a b. a || b) two.0 two.1 (two_sets (set_of two.0)
    (set_of two.1))) (setting_of outside c.args.w.now (g.L.Locals.items c.args.l.now)) (setting_of outside c.args.w.now (g.L.Locals.items c.args.l.now))
    c.in_err-a.field-0.0 c.from_residual.result c.from_residual.ensures.1 (c.in_err-a.ensures.found outside)

pub returns-in_err-a-clause-live : goal.returns-in_err-a-clause-live
returns-in_err-a-clause-live g c =
    stop_lives
    (reach_of c.args.w.now (g.L.Locals.items c.args.l.now)) c.in_err-a.field-0.0 c.from_residual.result c.from_residual.ensures.1 c.in_err-a.ensures.stops

pub new_union-requires-clause-first : goal.new_union-requires-clause-first
new_union-requires-clause-first g c =
    c.in-Some.ensures.first_live (extent_of c.args.w.now.heap) c.in_ok-a.ensures.first_live

pub new_union-requires-clause-second : goal.new_union-requires-clause-second
new_union-requires-clause-second g c =
    c.in-Some.ensures.second_live (extent_of c.args.w.now.heap) c.in_ok-a.ensures.second_live

pub returns-in_err-set-in-Some-clause-row : goal.returns-in_err-set-in-Some-clause-row
returns-in_err-set-in-Some-clause-row g c = λ outside.
    answer_then (extent_of c.new_union.new.w.heap) (union_row (item_in (extent_of c.args.w.now.heap) c.args.x) (item_in (extent_of c.args.w.now.heap) c.args.y))
    (new_set_of ((set_at (heap_of c.args.w.now.heap) c.in-Some.ids.0) ++ difference (set_at (heap_of c.args.w.now.heap) c.in-Some.ids.1)
    (set_at (heap_of c.args.w.now.heap) c.in-Some.ids.0)) gives_value) (setting_of outside c.args.w.now (g.L.Locals.items c.args.l.now))
    (setting_of outside c.args.w.now (g.L.Locals.items c.args.l.now)) (setting_of outside c.new_union.new.w (g.L.Locals.items c.args.l.now))
    c.from_residual-in_err-set-in-Some.result (c.in_ok-a.ensures.found outside (λ (two : Value × Value).
    sets_or_csets (λ first second. first ++ difference second first) (λ a b. a || b) two.0 two.1 (two_sets (set_of two.0) (set_of two.1)))
    ∙ ap (λ ids. sets_or_csets (λ first second. first ++ difference second first) (λ a b. a || b) (value_in (extent_of c.args.w.now.heap) c.in_ok-a.a)
    (value_in (extent_of c.args.w.now.heap) c.in_ok-a.b) ids (setting_of outside c.args.w.now (g.L.Locals.items c.args.l.now)))
    (sym (c.in-Some.ensures.sets (extent_of c.args.w.now.heap))))
    (row_stops (extent_of c.new_union.new.w.heap) (new_set_of ((set_at (heap_of c.args.w.now.heap) c.in-Some.ids.0)
    ++ difference (set_at (heap_of c.args.w.now.heap) c.in-Some.ids.1) (set_at (heap_of c.args.w.now.heap) c.in-Some.ids.0)))
    gives_value (setting_of outside c.args.w.now (g.L.Locals.items c.args.l.now)) (setting_of outside c.new_union.new.w (g.L.Locals.items c.args.l.now))
    c.in_err-set-in-Some.field-0.0 c.from_residual-in_err-set-in-Some.result c.from_residual-in_err-set-in-Some.ensures.1
    (c.in_err-set-in-Some.ensures.found outside))

pub returns-in_err-set-in-Some-clause-live : goal.returns-in_err-set-in-Some-clause-live
returns-in_err-set-in-Some-clause-live g c =
    stop_lives (reach_of c.new_union.new.w (g.L.Locals.items c.args.l.now)) c.in_err-set-in-Some.field-0.0 c.from_residual-in_err-set-in-Some.result
    c.from_residual-in_err-set-in-Some.ensures.1 c.in_err-set-in-Some.ensures.stops

pub returns-in_ok-set-in-Some-clause-row : goal.returns-in_ok-set-in-Some-clause-row
returns-in_ok-set-in-Some-clause-row g c = λ outside.
    (c.in_ok-a.ensures.found outside (λ (two : Value × Value).
    sets_or_csets (λ first second. first ++ difference second first) (λ a b. a || b) two.0 two.1 (two_sets (set_of two.0) (set_of two.1)))
    ∙ ap (λ ids. sets_or_csets (λ first second. first ++ difference second first) (λ a b. a || b) (value_in (extent_of c.args.w.now.heap) c.in_ok-a.a)
    (value_in (extent_of c.args.w.now.heap) c.in_ok-a.b) ids (setting_of outside c.args.w.now (g.L.Locals.items c.args.l.now)))
    (sym (c.in-Some.ensures.sets (extent_of c.args.w.now.heap)))) ∙ c.in_ok-set-in-Some.ensures.found outside gives_value

pub returns-in_err-c-in-None-clause-row : goal.returns-in_err-c-in-None-clause-row
returns-in_err-c-in-None-clause-row g c = λ outside.
    answer_then (extent_of c.args.w.now.heap) (union_row (item_in (extent_of c.args.w.now.heap) c.args.x) (item_in (extent_of c.args.w.now.heap) c.args.y))
    (two_csets (value_in (extent_of c.args.w.now.heap) c.in_ok-a.a) (value_in (extent_of c.args.w.now.heap) c.in_ok-a.b)
    (λ (two : List ℕ × List ℕ). gives_value (Chars (members (λ byte. contains two.0 byte || contains two.1 byte)))))
    (setting_of outside c.args.w.now (g.L.Locals.items c.args.l.now)) (setting_of outside c.args.w.now (g.L.Locals.items c.args.l.now)) (setting_of outside
    c.args.w.now (g.L.Locals.items c.args.l.now)) c.from_residual-in_err-c-in-None.result (c.in_ok-a.ensures.found outside (λ (two : Value × Value).
    sets_or_csets (λ first second. first ++ difference second first) (λ a b. a || b) two.0 two.1 (two_sets (set_of two.0) (set_of two.1)))
    ∙ ap (λ ids. sets_or_csets (λ first second. first ++ difference second first) (λ a b. a || b) (value_in (extent_of c.args.w.now.heap) c.in_ok-a.a)
    (value_in (extent_of c.args.w.now.heap) c.in_ok-a.b) ids (setting_of outside c.args.w.now (g.L.Locals.items c.args.l.now)))
    (sym (c.in-None.ensures.sets (extent_of c.args.w.now.heap))))
    (row_stops (extent_of c.args.w.now.heap)
    (two_csets (value_in (extent_of c.args.w.now.heap) c.in_ok-a.a) (value_in (extent_of c.args.w.now.heap) c.in_ok-a.b)) (λ (two : List ℕ × List ℕ).
    gives_value (Chars (members (λ byte. contains two.0 byte || contains two.1 byte)))) (setting_of outside c.args.w.now (g.L.Locals.items c.args.l.now))
    (setting_of outside c.args.w.now (g.L.Locals.items c.args.l.now)) c.in_err-c-in-None.field-0.0 c.from_residual-in_err-c-in-None.result
    c.from_residual-in_err-c-in-None.ensures.1 (c.in_err-c-in-None.ensures.found (setting_of outside c.args.w.now (g.L.Locals.items c.args.l.now))))

pub returns-in_err-c-in-None-clause-live : goal.returns-in_err-c-in-None-clause-live
returns-in_err-c-in-None-clause-live g c =
    stop_lives (reach_of c.args.w.now (g.L.Locals.items c.args.l.now)) c.in_err-c-in-None.field-0.0 c.from_residual-in_err-c-in-None.result
    c.from_residual-in_err-c-in-None.ensures.1 c.in_err-c-in-None.ensures.stops

pub returns-in_ok-c-in-None-clause-row : goal.returns-in_ok-c-in-None-clause-row
returns-in_ok-c-in-None-clause-row g c = λ outside.
    (c.in_ok-a.ensures.found outside (λ (two : Value × Value).
    sets_or_csets (λ first second. first ++ difference second first) (λ a b. a || b) two.0 two.1 (two_sets (set_of two.0) (set_of two.1)))
    ∙ ap (λ ids. sets_or_csets (λ first second. first ++ difference second first) (λ a b. a || b) (value_in (extent_of c.args.w.now.heap) c.in_ok-a.a)
    (value_in (extent_of c.args.w.now.heap) c.in_ok-a.b) ids (setting_of outside c.args.w.now (g.L.Locals.items c.args.l.now)))
    (sym (c.in-None.ensures.sets (extent_of c.args.w.now.heap))))
    ∙ (c.in_ok-c-in-None.ensures.found (setting_of outside c.args.w.now (g.L.Locals.items c.args.l.now))
    (λ (two : List ℕ × List ℕ). gives_value (Chars (members (λ byte. contains two.0 byte || contains two.1 byte))))
    ∙ ap (λ bytes. Gives (Val (Chars bytes)) (setting_of outside c.args.w.now (g.L.Locals.items c.args.l.now)))
    (sym (either_members c.in_ok-c-in-None.c c.in_ok-c-in-None.d c.either.result c.either.ensures)))
