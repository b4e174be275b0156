use Rattle.std.proofs.Common.{◌∙◌, sym, map}
use Rattle.icn_heap.specs.Extents.{value_in}
use Rattle.icn_heap.specs.Heaps.{extent_of}
use Rattle.icn_strfn.proofs.CheckedRows as steps
use Rattle.icn_strfn.proofs.laid_rows.checked_mapping.Goals as goal

pub returns-then-lacks_text-clause-stops : goal.returns-then-lacks_text-clause-stops
returns-then-lacks_text-clause-stops c =
    λ setting. steps.map_no_text (map (value_in (extent_of c.args.heap.now)) c.args.args.now) (value_in (extent_of c.args.heap.now) c.arg-val.result)
    (value_in (extent_of c.args.heap.now) c.arg-from.result) (value_in (extent_of c.args.heap.now) c.arg-to.result) setting
    (c.arg-val.ensures.value (extent_of c.args.heap.now)) (c.arg-from.ensures.value (extent_of c.args.heap.now))
    (c.arg-to.ensures.value (extent_of c.args.heap.now)) (c.if-lacks_text.ensures (extent_of c.args.heap.now))

pub returns-then-lacks_argument-clause-stops : goal.returns-then-lacks_argument-clause-stops
returns-then-lacks_argument-clause-stops c =
    λ setting. steps.map_no_from (map (value_in (extent_of c.args.heap.now)) c.args.args.now) (value_in (extent_of c.args.heap.now) c.arg-val.result)
    (value_in (extent_of c.args.heap.now) c.arg-from.result) (value_in (extent_of c.args.heap.now) c.arg-to.result) setting
    (c.arg-val.ensures.value (extent_of c.args.heap.now)) (c.arg-from.ensures.value (extent_of c.args.heap.now))
    (c.arg-to.ensures.value (extent_of c.args.heap.now)) (c.if-lacks_text.ensures (extent_of c.args.heap.now))
    (c.if-lacks_argument.ensures.text (extent_of c.args.heap.now)) (c.if-lacks_argument.ensures.value (extent_of c.args.heap.now))

pub returns-then-lacks_argument-2-clause-stops : goal.returns-then-lacks_argument-2-clause-stops
returns-then-lacks_argument-2-clause-stops c = λ setting. steps.map_no_to (map (value_in (extent_of c.args.heap.now)) c.args.args.now)
    (value_in (extent_of c.args.heap.now) c.arg-val.result) (value_in (extent_of c.args.heap.now) c.arg-from.result)
    (value_in (extent_of c.args.heap.now) c.arg-to.result) setting (c.arg-val.ensures.value (extent_of c.args.heap.now))
    (c.arg-from.ensures.value (extent_of c.args.heap.now)) (c.arg-to.ensures.value (extent_of c.args.heap.now))
    (c.if-lacks_text.ensures (extent_of c.args.heap.now)) (c.if-lacks_argument.ensures.text (extent_of c.args.heap.now))
    (c.if-lacks_argument-2.ensures.text (extent_of c.args.heap.now)) (c.if-lacks_argument-2.ensures.value (extent_of c.args.heap.now))

pub returns-then-argument_len-clause-stops : goal.returns-then-argument_len-clause-stops
returns-then-argument_len-clause-stops c =
    λ setting. steps.map_unlike (map (value_in (extent_of c.args.heap.now)) c.args.args.now) (value_in (extent_of c.args.heap.now) c.arg-val.result)
    (value_in (extent_of c.args.heap.now) c.arg-from.result) (value_in (extent_of c.args.heap.now) c.arg-to.result) setting
    (c.arg-val.ensures.value (extent_of c.args.heap.now)) (c.arg-from.ensures.value (extent_of c.args.heap.now))
    (c.arg-to.ensures.value (extent_of c.args.heap.now)) (c.if-lacks_text.ensures (extent_of c.args.heap.now))
    (c.if-lacks_argument.ensures.text (extent_of c.args.heap.now)) (c.if-lacks_argument-2.ensures.text (extent_of c.args.heap.now))
    (λ same. c.if-argument_len.true (c.argument_len.ensures ∙ (same ∙ sym c.argument_len-2.ensures)))

pub returns-clause-mapping : goal.returns-clause-mapping
returns-clause-mapping c = steps.is_mapping (map (value_in (extent_of c.args.heap.now)) c.args.args.now) (value_in (extent_of c.args.heap.now) c.arg-val.result)
    (value_in (extent_of c.args.heap.now) c.arg-from.result) (value_in (extent_of c.args.heap.now) c.arg-to.result)
    (c.arg-val.ensures.value (extent_of c.args.heap.now)) (c.arg-from.ensures.value (extent_of c.args.heap.now))
    (c.arg-to.ensures.value (extent_of c.args.heap.now)) (c.if-lacks_text.ensures (extent_of c.args.heap.now))
    (c.if-lacks_argument.ensures.text (extent_of c.args.heap.now)) (c.if-lacks_argument-2.ensures.text (extent_of c.args.heap.now))
    (sym c.argument_len.ensures ∙ (c.if-argument_len.false ∙ c.argument_len-2.ensures))
