-- The bytes that are written among blanks are the field's.
use Rattle.std.proofs.Common.{◌≡◌, ◌∙◌, List, Ok, ap, arith, length, subst, take, ℕ}
use Rattle.icn_value.specs.Changes.{charged_strings}
use Rattle.icn_heap.specs.Extents.{text_in}
use Rattle.icn_heap.specs.Heaps.{extent_of, heap_of}
use Rattle.icn_strfn.specs.Layouts.{laid_out}
use Rattle.icn_strfn.specs.TextArguments.{default_bytes}
use Rattle.icn_strfn.specs.declared.text_arguments.DefaultText.TheVariants.{Blank}
use Rattle.icn_strfn.proofs.FewBytes.{few_made, part_size}
use Rattle.icn_strfn.proofs.new_texts.few_in_field.Goals as goal

pub part-shown-requires-clause-within : goal.part-shown-requires-clause-within
part-shown-requires-clause-within c = omega (arith, c.length_of_text.ensures, c.field_of-field.ensures.within)

pub among_blanks-bytes-requires : goal.among_blanks-bytes-requires
among_blanks-bytes-requires c =
    let text : List ℕ = text_in (extent_of c.args.heap.now) c.args.span in
    let size = part_size text c.bytes.result.now c.field_of-field.result.from c.field_of-field.result.len (c.bytes.ensures ∙ c.part-shown.ensures.bytes)
    (omega (arith, c.length_of_text.ensures, c.field_of-field.ensures.within)) in
    omega (arith, size, c.field_of-field.ensures.width, c.requires.few)

pub returns-clause-bytes : goal.returns-clause-bytes
returns-clause-bytes c =
    let text : List ℕ = text_in (extent_of c.args.heap.now) c.args.span in
    let field = c.field_of-field.result in
    let is = c.bytes.ensures ∙ c.part-shown.ensures.bytes in
    let size = part_size text c.bytes.result.now field.from field.len is (omega (arith, c.length_of_text.ensures, c.field_of-field.ensures.within)) in
    c.in_ok-text.ensures.bytes ∙ c.front.ensures ∙ ap (take c.args.width) c.among_blanks-bytes.ensures
    ∙ few_made field text c.bytes.result.now c.args.width is size c.field_of-field.ensures.width c.requires.few
    ∙ c.field_of-field.ensures.field text (default_bytes Blank) c.length_of_text.ensures

pub returns-clause-charged : goal.returns-clause-charged
returns-clause-charged c =
    let text : List ℕ = text_in (extent_of c.args.heap.now) c.args.span in
    let field = c.field_of-field.result in
    let is = c.bytes.ensures ∙ c.part-shown.ensures.bytes in
    let size = part_size text c.bytes.result.now field.from field.len is (omega (arith, c.length_of_text.ensures, c.field_of-field.ensures.within)) in
    let made : c.front.result.now ≡ laid_out c.args.layout text c.args.width (default_bytes Blank)
    = c.front.ensures ∙ ap (take c.args.width) c.among_blanks-bytes.ensures
    ∙ few_made field text c.bytes.result.now c.args.width is size c.field_of-field.ensures.width c.requires.few
    ∙ c.field_of-field.ensures.field text (default_bytes Blank) c.length_of_text.ensures in
    subst (λ (bytes : List ℕ). charged_strings (heap_of c.args.heap.now) (length bytes) ≡ Ok (heap_of c.build.new.self)) made c.in_ok-text.ensures.step
