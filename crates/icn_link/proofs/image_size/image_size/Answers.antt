use Rattle.std.proofs.Common.{◌≡◌, ◌+◌, ◌*◌, ap, arith, length, sym, ◌∙◌}
use Rattle.std.proofs.lemmas.List.{length-map}
use Rattle.icn_code.specs.Codes.{Tables, proc_of, procs_of, records_of}
use Rattle.icn_code.specs.CodeTables.{tables_of}
use Rattle.icn_image.specs.Spelling.{image_of}
use Rattle.icn_link.specs.ImageSizes.{bodies_size, records_size, strings_size}
use Rattle.icn_link.specs.LinkFaults.{count_told}
use Rattle.icn_link.proofs.ImageLengths.{image_length}
use Rattle.icn_link.proofs.ToldCounts.{told_plus, told_same}
use Rattle.icn_link.proofs.image_size.image_size.Goals as goal

pub returns : goal.returns
returns c =
    let T : Tables = tables_of c.args.code.now in
    let head = told_plus (strings_size T.strings) 36 c.strings_size.result 36 c.saturating_add-size.result
    (c.strings_size.ensures ∙ ap (λ items. count_told (strings_size items)) c.deref.ensures.value) (sym (told_same 36 (omega arith)))
    c.saturating_add-size.ensures in
    let csets = told_plus _ (length T.csets * 32) c.saturating_add-size.result c.entries_size.result c.saturating_add-size-2.result head
    (c.entries_size.ensures ∙ ap (λ items. count_told (length items * 32)) c.deref-2.ensures.value) c.saturating_add-size-2.ensures in
    let integers = told_plus _ (length T.integers * 8) c.saturating_add-size-2.result c.entries_size-2.result c.saturating_add-size-3.result csets
    (c.entries_size-2.ensures ∙ ap (λ items. count_told (length items * 8)) c.deref-3.ensures.value) c.saturating_add-size-3.ensures in
    let fields = told_plus _ (length T.fields * 4) c.saturating_add-size-3.result c.entries_size-3.result c.saturating_add-size-4.result integers
    (c.entries_size-3.ensures ∙ ap (λ items. count_told (length items * 4)) c.deref-4.ensures.value) c.saturating_add-size-4.ensures in
    let records = told_plus _ (records_size T.records) c.saturating_add-size-4.result c.records_size.result c.saturating_add-size-5.result fields
    (c.records_size.ensures ∙ ap (λ items. count_told (records_size (records_of items))) c.deref-5.ensures.value) c.saturating_add-size-5.ensures in
    let globals = told_plus _ (length T.globals * 9) c.saturating_add-size-5.result c.entries_size-4.result c.saturating_add-size-6.result records
    (c.entries_size-4.ensures ∙ ap (λ items. count_told (length items * 9)) c.deref-6.ensures.value) c.saturating_add-size-6.ensures in
    let heads = told_plus _ (length c.args.code.now.procs.items * 21) c.saturating_add-size-6.result c.entries_size-5.result c.saturating_add-size-7.result
    globals (c.entries_size-5.ensures ∙ ap (λ items. count_told (length items * 21)) c.deref-7.ensures.value) c.saturating_add-size-7.ensures in
    let all = told_plus _ (bodies_size T.procs) c.saturating_add-size-7.result c.bodies_size.result c.saturating_add.result heads
    (c.bodies_size.ensures ∙ ap (λ items. count_told (bodies_size (procs_of items))) c.deref-8.ensures.value) c.saturating_add.ensures in
    let sum : strings_size T.strings + 36 + length T.csets * 32 + length T.integers * 8 + length T.fields * 4 + records_size T.records
    + length T.globals * 9 + length c.args.code.now.procs.items * 21 + bodies_size T.procs ≡ length (image_of T) =
    omega (arith, image_length T c.args.code.now.rules, ap (λ n. n * 21) (length-map c.args.code.now.procs.items proc_of)) in
    all ∙ ap count_told sum
