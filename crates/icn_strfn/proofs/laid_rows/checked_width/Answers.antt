use Rattle.std.proofs.Common.{FitsSigned, w64, rules}
use Rattle.std.proofs.lemmas.Int.{to_z-of_z}
use Rattle.std.proofs.Common.{◌∙◌, sym, ap, map}
use Rattle.icn_value.specs.Values.{Value}
use Rattle.icn_defs.specs.Arguments.{value_or}
use Rattle.icn_defs.specs.Strings.{one}
use Rattle.icn_heap.specs.Extents.{value_in}
use Rattle.icn_heap.specs.Heaps.{extent_of}
use Rattle.icn_strfn.specs.Layouts.{laid_out}
use Rattle.icn_strfn.proofs.CheckedRows as steps
use Rattle.icn_strfn.proofs.laid_rows.checked_width.Goals as goal

pub to_integer-requires : goal.to_integer-requires
to_integer-requires c = c.or_one-count.ensures.live _ (c.arg-given.ensures.live _ c.requires)

pub returns-then-lacks_text-clause-stops : goal.returns-then-lacks_text-clause-stops
returns-then-lacks_text-clause-stops c = λ layout setting. steps.field_no_text (map (value_in (extent_of c.args.heap.now)) c.args.args.now)
    (value_in (extent_of c.args.heap.now) c.arg-val.result) (value_in (extent_of c.args.heap.now) c.or_one-count.result)
    (value_in (extent_of c.args.heap.now) c.arg-given.result) (value_in (extent_of c.args.heap.now) c.arg-fill.result)
    (laid_out layout) setting (c.arg-val.ensures.value (extent_of c.args.heap.now)) (c.or_one-count.ensures.value (extent_of c.args.heap.now)
    ∙ ap (λ (v : Value). value_or one v) (c.arg-given.ensures.value (extent_of c.args.heap.now))) (c.arg-given.ensures.value (extent_of c.args.heap.now))
    (c.arg-fill.ensures.value (extent_of c.args.heap.now)) (c.if-lacks_text.ensures (extent_of c.args.heap.now))

pub returns-in_default-clause-stops : goal.returns-in_default-clause-stops
returns-in_default-clause-stops c = λ layout setting. steps.field_no_count (map (value_in (extent_of c.args.heap.now)) c.args.args.now)
    (value_in (extent_of c.args.heap.now) c.arg-val.result) (value_in (extent_of c.args.heap.now) c.or_one-count.result)
    (value_in (extent_of c.args.heap.now) c.arg-given.result) (value_in (extent_of c.args.heap.now) c.arg-fill.result)
    (laid_out layout) setting (c.arg-val.ensures.value (extent_of c.args.heap.now)) (c.or_one-count.ensures.value (extent_of c.args.heap.now)
    ∙ ap (λ (v : Value). value_or one v) (c.arg-given.ensures.value (extent_of c.args.heap.now))) (c.arg-given.ensures.value (extent_of c.args.heap.now))
    (c.arg-fill.ensures.value (extent_of c.args.heap.now)) (c.if-lacks_text.ensures (extent_of c.args.heap.now)) (sym c.to_integer.ensures ∙ c.in_default.is)

pub returns-in_default-clause-live : goal.returns-in_default-clause-live
returns-in_default-clause-live c = c.or_one-count.ensures.live _ (c.arg-given.ensures.live _ c.requires)

pub returns-then-lacks_argument-clause-stops : goal.returns-then-lacks_argument-clause-stops
returns-then-lacks_argument-clause-stops c =
    λ layout setting. steps.field_no_fill (map (value_in (extent_of c.args.heap.now)) c.args.args.now) (value_in (extent_of c.args.heap.now) c.arg-val.result)
    (value_in (extent_of c.args.heap.now) c.or_one-count.result) (value_in (extent_of c.args.heap.now) c.arg-given.result)
    (value_in (extent_of c.args.heap.now) c.arg-fill.result) (laid_out layout) setting (c.arg-val.ensures.value (extent_of c.args.heap.now))
    (c.or_one-count.ensures.value (extent_of c.args.heap.now) ∙ ap (λ (v : Value). value_or one v) (c.arg-given.ensures.value (extent_of c.args.heap.now)))
    (c.arg-given.ensures.value (extent_of c.args.heap.now)) (c.arg-fill.ensures.value (extent_of c.args.heap.now))
    (c.if-lacks_text.ensures (extent_of c.args.heap.now)) c.in-Some.n (sym c.to_integer.ensures ∙ c.in-Some.is)
    (c.if-lacks_argument.ensures.text (extent_of c.args.heap.now)) (c.if-lacks_argument.ensures.value (extent_of c.args.heap.now))

pub returns-in_default-natural_number-clause-stops : goal.returns-in_default-natural_number-clause-stops
returns-in_default-natural_number-clause-stops c = λ layout setting. steps.field_below (map (value_in (extent_of c.args.heap.now)) c.args.args.now)
    (value_in (extent_of c.args.heap.now) c.arg-val.result) (value_in (extent_of c.args.heap.now) c.or_one-count.result)
    (value_in (extent_of c.args.heap.now) c.arg-given.result) (value_in (extent_of c.args.heap.now) c.arg-fill.result)
    (laid_out layout) setting (c.arg-val.ensures.value (extent_of c.args.heap.now)) (c.or_one-count.ensures.value (extent_of c.args.heap.now)
    ∙ ap (λ (v : Value). value_or one v) (c.arg-given.ensures.value (extent_of c.args.heap.now))) (c.arg-given.ensures.value (extent_of c.args.heap.now))
    (c.arg-fill.ensures.value (extent_of c.args.heap.now)) (c.if-lacks_text.ensures (extent_of c.args.heap.now)) c.in-Some.n
    (sym c.to_integer.ensures ∙ c.in-Some.is) (c.if-lacks_argument.ensures.text (extent_of c.args.heap.now))
    (let fits : FitsSigned w64 c.in-Some.n = search rules in
    rw (to_z-of_z w64 c.in-Some.n fits) at (sym c.natural_number.ensures ∙ c.in_default-natural_number.is))

pub returns-clause-field : goal.returns-clause-field
returns-clause-field c =
    steps.is_field (map (value_in (extent_of c.args.heap.now)) c.args.args.now) (value_in (extent_of c.args.heap.now) c.arg-val.result)
    (value_in (extent_of c.args.heap.now) c.or_one-count.result)
    (value_in (extent_of c.args.heap.now) c.arg-fill.result) c.in-Some.n c.in-Some-natural_number.width
    (c.arg-val.ensures.value (extent_of c.args.heap.now)) (c.or_one-count.ensures.value (extent_of c.args.heap.now)
    ∙ ap (λ (v : Value). value_or one v) (c.arg-given.ensures.value (extent_of c.args.heap.now))) (c.arg-fill.ensures.value (extent_of c.args.heap.now))
    (c.if-lacks_text.ensures (extent_of c.args.heap.now)) (sym c.to_integer.ensures ∙ c.in-Some.is)
    (c.if-lacks_argument.ensures.text (extent_of c.args.heap.now)) (let fits : FitsSigned w64 c.in-Some.n = search rules in
    rw (to_z-of_z w64 c.in-Some.n fits) at (sym c.natural_number.ensures ∙ c.in-Some-natural_number.is))
