use Rattle.std.proofs.Common.{ap, ◌∙◌, rules, FitsSigned}
use Rattle.std.specs.Int.{w64}
use Rattle.std.specs.Fmt.{signed_decimal}
use Rattle.std.proofs.lemmas.Int.{to_z-of_z}
use Rattle.icn_heap.specs.Extents.{text_in, value_in}
use Rattle.icn_heap.specs.Heaps.{extent_of}
use Rattle.icn_convert.proofs.MemberLists.{integer_cset, text_cset}
use Rattle.icn_convert.proofs.conversions.to_cset.Goals as goal

pub returns-in-Integer : goal.returns-in-Integer
returns-in-Integer c =
    let fits : FitsSigned w64 c.in-Integer.n = search rules in
    integer_cset c.cset_of_text.result c.as_bytes.result.now c.in-Integer.n (value_in (extent_of c.args.heap.now) c.args.val)
    c.cset_of_text.ensures (c.as_bytes.ensures ∙ (c.decimal.ensures ∙ ap signed_decimal (to_z-of_z w64 c.in-Integer.n fits)))
    (ap (value_in (extent_of c.args.heap.now)) c.in-Integer.is)

pub returns-in-Text : goal.returns-in-Text
returns-in-Text c =
    text_cset c.cset_of_text-in-Text.result c.bytes.result.now (text_in (extent_of c.args.heap.now) c.in-Text.span)
    (value_in (extent_of c.args.heap.now) c.args.val)
    c.cset_of_text-in-Text.ensures c.bytes.ensures (ap (value_in (extent_of c.args.heap.now)) c.in-Text.is)
