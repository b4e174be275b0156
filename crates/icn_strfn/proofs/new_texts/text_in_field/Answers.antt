-- The pieces of the field make its text.
use Rattle.std.proofs.Common.{◌≡◌, ◌∙◌, List, [], ◌∷◌, Ok, arith, length, subst, ℕ}
use Rattle.icn_value.specs.Changes.{charged_strings}
use Rattle.icn_defs.specs.Strings.{filling_text}
use Rattle.icn_heap.specs.Extents.{text_in}
use Rattle.icn_heap.specs.Heaps.{extent_of, heap_of}
use Rattle.icn_strings.specs.declared.piece.StringPiece.{StringPiece}
use Rattle.icn_strings.specs.declared.piece.StringPiece.TheVariants.{Copies, FilledLeft, FilledRight}
use Rattle.icn_strings.specs.Pieces.{made_of}
use Rattle.icn_strfn.specs.Layouts.{laid_out}
use Rattle.icn_strfn.specs.TextArguments.{default_bytes}
use Rattle.icn_strfn.specs.declared.text_arguments.DefaultText.TheVariants.{Blank}
use Rattle.icn_strfn.proofs.MadePieces.{field_is, field_made}
use Rattle.icn_strfn.proofs.new_texts.text_in_field.Goals as goal

pub part-shown-requires-clause-within : goal.part-shown-requires-clause-within
part-shown-requires-clause-within c = omega (arith, c.length_of_text.ensures, c.field_of-field.ensures.within)

pub build_of-requires : goal.build_of-requires
build_of-requires c =
    let all = extent_of c.args.heap.now in
    field_is all.strings c.filling-unit.result c.held.result c.field_of-field.result (c.filling-unit.ensures.of all tt) c.filling-unit.ensures.some
    (c.held.ensures.of all c.part-shown.ensures.live)

pub returns-clause-bytes : goal.returns-clause-bytes
returns-clause-bytes c =
    let all = extent_of c.args.heap.now in
    let text : List ℕ = text_in all c.args.span in
    let fill : List ℕ = default_bytes Blank in
    c.in_ok-text.ensures.bytes
    ∙ field_made all.strings c.filling-unit.result c.held.result c.field_of-field.result text (filling_text fill)
    (c.filling-unit.ensures.bytes all tt) (c.held.ensures.bytes all ∙ c.part-shown.ensures.bytes)
    ∙ c.field_of-field.ensures.field text fill c.length_of_text.ensures

pub returns-clause-charged : goal.returns-clause-charged
returns-clause-charged c =
    let all = extent_of c.args.heap.now in
    let text : List ℕ = text_in all c.args.span in
    let fill : List ℕ = default_bytes Blank in
    let field = c.field_of-field.result in
    let unit = c.filling-unit.result in
    let pieces : List StringPiece = FilledLeft unit field.before ∷ (Copies c.held.result 1 ∷ (FilledRight unit field.behind ∷ [])) in
    let made : made_of all.strings pieces ≡ laid_out c.args.layout text c.args.width fill
    = field_made all.strings unit c.held.result field text (filling_text fill)
    (c.filling-unit.ensures.bytes all tt) (c.held.ensures.bytes all ∙ c.part-shown.ensures.bytes)
    ∙ c.field_of-field.ensures.field text fill c.length_of_text.ensures in
    subst (λ (bytes : List ℕ). charged_strings (heap_of c.args.heap.now) (length bytes) ≡ Ok (heap_of c.build_of.new.self)) made c.in_ok-text.ensures.step
