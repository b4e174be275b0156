use Rattle.std.proofs.Common.{rules, FitsSigned, ◌∙◌, sym, ap, ℤ}
use Rattle.std.specs.Ordering.{int_cmp}
use Rattle.std.specs.declared.cmp.Ordering.{Ordering}
use Rattle.std.specs.Int.{w64}
use Rattle.icn_heap.specs.Heaps.{extent_of}
use Rattle.icn_vars.specs.Worlds.{item_in, setting_of}
use Rattle.icn_args.proofs.RowAnswers.{first_stops}
use Rattle.icn_ops.specs.Operands.{two_numbers}
use Rattle.icn_ops.proofs.TwoOperandSteps.{held_one, held_two}
use Rattle.icn_ops.proofs.operands.compared_numbers.Goals as goal

pub returns-in_err-m-clause-found : goal.returns-in_err-m-clause-found
returns-in_err-m-clause-found g c = λ outside.
    first_stops (extent_of c.args.w.now.heap) (two_numbers (item_in (extent_of c.args.w.now.heap) c.args.x) (item_in (extent_of c.args.w.now.heap) c.args.y))
    (λ (two : ℤ × ℤ) next. next (int_cmp two.0 two.1, two.1)) (setting_of outside c.args.w.now (g.L.Locals.items c.args.l.now))
    (setting_of outside c.args.w.now (g.L.Locals.items c.args.l.now))
    (λ (two : Ordering × ℤ). two) c.in_err-m.field-0.0 c.from_residual.result c.from_residual.ensures.1 (c.in_err-m.ensures.found outside)

pub returns-clause-found : goal.returns-clause-found
returns-clause-found g c = λ outside.
    λ next. c.in_ok-m.ensures.found outside (λ two. next (int_cmp two.0 two.1, two.1))
    ∙ (ap (λ (order : Ordering). next (order, c.in_ok-m.n) (setting_of outside c.args.w.now (g.L.Locals.items c.args.l.now)))
    (sym (c.cmp.ensures ∙ held_two int_cmp c.in_ok-m.m c.in_ok-m.n (let fits : FitsSigned w64 c.in_ok-m.m = search rules in fits)
    (let fits : FitsSigned w64 c.in_ok-m.n = search rules in fits)))
    ∙ sym (held_one (λ n. next (c.cmp.result, n) (setting_of outside c.args.w.now (g.L.Locals.items c.args.l.now))) c.in_ok-m.n
    (let fits : FitsSigned w64 c.in_ok-m.n = search rules in fits)))
