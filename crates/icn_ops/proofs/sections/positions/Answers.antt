use Rattle.std.proofs.Common.{FitsSigned, ap, rules, subst, sym, ℤ, ◌∙◌}
use Rattle.std.specs.Int.{w64}
use Rattle.icn_defs.specs.Arguments.{integer}
use Rattle.icn_defs.specs.Rows.{number_or_error}
use Rattle.icn_heap.specs.Extents.{value_in}
use Rattle.icn_heap.specs.Heaps.{extent_of}
use Rattle.icn_vars.specs.Stops.{StopsFinding}
use Rattle.icn_args.proofs.RowAnswers.{first_stops, stop_lives_on, stops_behind, stops_within, then_stops}
use Rattle.icn_ops.specs.Sections.{second_of}
use Rattle.icn_ops.proofs.TwoOperandSteps.{held_two}
use Rattle.icn_ops.proofs.sections.positions.Goals as goal

pub returns-in_err-m-clause-found : goal.returns-in_err-m-clause-found
returns-in_err-m-clause-found c = λ setting.
    first_stops (extent_of c.args.heap.now) (integer (value_in (extent_of c.args.heap.now) c.args.from))
    (λ m next. integer (value_in (extent_of c.args.heap.now) c.args.to) (λ n. number_or_error (second_of c.args.kind m n) (λ end. next (m, end)))) setting
    setting
    (λ (two : ℤ × ℤ). two) c.in_err-m.field-0.0 c.from_residual.result c.from_residual.ensures.1 (c.in_err-m.ensures.found setting)

pub returns-in_err-n-clause-found : goal.returns-in_err-n-clause-found
returns-in_err-n-clause-found c = λ setting.
    then_stops (extent_of c.args.heap.now) (integer (value_in (extent_of c.args.heap.now) c.args.from)) c.in_ok-m.m
    (λ m next. integer (value_in (extent_of c.args.heap.now) c.args.to) (λ n. number_or_error (second_of c.args.kind m n) (λ end. next (m, end)))) setting
    setting
    setting (λ (two : ℤ × ℤ). two) c.in_err-n.field-0.0 c.from_residual-in_err-n.result c.from_residual-in_err-n.ensures.1 (c.in_ok-m.ensures.found setting)
    (stops_within (extent_of c.args.heap.now) (integer (value_in (extent_of c.args.heap.now) c.args.to)) (λ n next.
    number_or_error (second_of c.args.kind c.in_ok-m.m n) (λ end. next (c.in_ok-m.m, end))) setting setting c.in_err-n.field-0.0
    (c.in_err-n.ensures.found setting))

pub returns-in_err-end-clause-found : goal.returns-in_err-end-clause-found
returns-in_err-end-clause-found c = λ setting.
    then_stops (extent_of c.args.heap.now) (integer (value_in (extent_of c.args.heap.now) c.args.from)) c.in_ok-m.m (λ m next.
    integer (value_in (extent_of c.args.heap.now) c.args.to) (λ n. number_or_error (second_of c.args.kind m n) (λ end. next (m, end)))) setting setting setting
    (λ (two : ℤ × ℤ). two) c.in_err-end.field-0.0 c.from_residual-in_err-end.result c.from_residual-in_err-end.ensures.1 (c.in_ok-m.ensures.found setting)
    (stops_behind (extent_of c.args.heap.now) (integer (value_in (extent_of c.args.heap.now) c.args.to)) c.in_ok-n.n
    (λ n next. number_or_error (second_of c.args.kind c.in_ok-m.m n) (λ end. next (c.in_ok-m.m, end))) setting setting setting c.in_err-end.field-0.0
    (c.in_ok-n.ensures.found setting)
    (stops_within (extent_of c.args.heap.now) (number_or_error (second_of c.args.kind c.in_ok-m.m c.in_ok-n.n)) (λ end next. next (c.in_ok-m.m, end)) setting
    setting c.in_err-end.field-0.0 (subst (λ given. StopsFinding (extent_of c.args.heap.now) (number_or_error given) setting setting c.in_err-end.field-0.0)
    (c.second_of.ensures ∙ held_two (second_of c.args.kind) c.in_ok-m.m c.in_ok-n.n (let fits : FitsSigned w64 c.in_ok-m.m = search rules in
    fits) (let fits : FitsSigned w64 c.in_ok-n.n = search rules in fits)) (c.in_err-end.ensures.found (extent_of c.args.heap.now) setting))))

pub returns-clause-found : goal.returns-clause-found
returns-clause-found c = λ setting next.
    c.in_ok-m.ensures.found setting
    (λ m. integer (value_in (extent_of c.args.heap.now) c.args.to) (λ n. number_or_error (second_of c.args.kind m n) (λ end. next (m, end))))
    ∙ (c.in_ok-n.ensures.found setting (λ n. number_or_error (second_of c.args.kind c.in_ok-m.m n) (λ end. next (c.in_ok-m.m, end)))
    ∙ (ap (λ given. number_or_error given (λ end. next (c.in_ok-m.m, end)) setting) (sym (c.second_of.ensures ∙ held_two (second_of c.args.kind) c.in_ok-m.m
    c.in_ok-n.n (let fits : FitsSigned w64 c.in_ok-m.m = search rules in fits) (let fits : FitsSigned w64 c.in_ok-n.n = search rules in fits)))
    ∙ (c.in_ok-end.ensures.found (extent_of c.args.heap.now) setting (λ end. next (c.in_ok-m.m, end))
    ∙ sym (held_two (λ m end. next (m, end) setting) c.in_ok-m.m c.in_ok-end.end (let fits : FitsSigned w64 c.in_ok-m.m = search rules in fits)
    (let fits : FitsSigned w64 c.in_ok-end.end = search rules in fits)))))

pub returns-in_err-end-clause-stops : goal.returns-in_err-end-clause-stops
returns-in_err-end-clause-stops c = stop_lives_on (extent_of c.args.heap.now) c.in_err-end.field-0.0 c.from_residual-in_err-end.result
    c.from_residual-in_err-end.ensures.1 (c.in_err-end.ensures.stops (extent_of c.args.heap.now))
