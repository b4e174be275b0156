use Rattle.std.proofs.Common.{◌≡◌, ◌∙◌, ap, rules, FitsSigned}
use Rattle.std.proofs.lemmas.Int.{to_z-of_z}
use Rattle.std.specs.Int.{w64, cast_signed, cast_unsigned}
use Rattle.std.specs.Ordering.{int_cmp}
use Rattle.icn_heap.specs.Extents.{value_in}
use Rattle.icn_heap.specs.Heaps.{extent_of, heap_of}
use Rattle.icn_convert.proofs.Comparison.{alike}
use Rattle.icn_convert.proofs.order.compare.Goals as goal

pub returns-in-Equal : goal.returns-in-Equal
returns-in-Equal g c =
    let left : FitsSigned w64 c.number.result = search rules in
    let right : FitsSigned w64 c.number-in-Equal.result = search rules in
    let by_number : c.cmp-in-Equal.result ≡ int_cmp c.number.result c.number-in-Equal.result =
    c.cmp-in-Equal.ensures ∙ (ap (λ k. int_cmp k (cast_signed w64 (cast_unsigned w64 c.number-in-Equal.result))) (to_z-of_z w64 c.number.result left)
    ∙ ap (int_cmp c.number.result) (to_z-of_z w64 c.number-in-Equal.result right)) in
    alike (g.N.Names.known c.args.names.now) (heap_of c.args.heap.now) (value_in (extent_of c.args.heap.now) c.args.a)
    (value_in (extent_of c.args.heap.now) c.args.b)
    c.rank.result c.rank-2.result c.number.result c.number-in-Equal.result c.compare_texts.result c.cmp-in-Equal.result c.then.result
    c.in-Equal.ensures (c.rank.ensures (extent_of c.args.heap.now)) (c.rank-2.ensures (extent_of c.args.heap.now)) c.compare_texts.ensures
    (c.number.ensures (extent_of c.args.heap.now)) (c.number-in-Equal.ensures (extent_of c.args.heap.now)) by_number c.then.ensures
