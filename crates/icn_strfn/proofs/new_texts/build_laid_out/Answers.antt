-- The pieces of the field make the row's text.
use Rattle.std.proofs.Common.{◌∙◌, List, ℕ, arith}
use Rattle.icn_defs.specs.Strings.{filling_text}
use Rattle.icn_heap.specs.Extents.{text_in}
use Rattle.icn_heap.specs.Heaps.{extent_of, heap_of}
use Rattle.icn_strfn.specs.TextArguments.{argument_bytes}
use Rattle.icn_strfn.proofs.MadePieces.{field_is, field_made, gives_as, refuses_as}
use Rattle.icn_strfn.proofs.new_texts.build_laid_out.Goals as goal

pub part-shown-requires-clause-within : goal.part-shown-requires-clause-within
part-shown-requires-clause-within g c = omega (arith, c.length_of_text.ensures, c.field_of-field.ensures.within)

pub build_pieces-requires-clause-pieces : goal.build_pieces-requires-clause-pieces
build_pieces-requires-clause-pieces g c =
    let all = extent_of c.args.w.now.heap in
    field_is all.strings c.filling-unit.result c.held.result c.field_of-field.result (c.filling-unit.ensures.of all c.requires.fill) c.filling-unit.ensures.some
    (c.held.ensures.of all c.part-shown.ensures.live)

pub returns-clause-row : goal.returns-clause-row
returns-clause-row g c =
    let all = extent_of c.args.w.now.heap in
    let text : List ℕ = text_in all c.args.span in
    let fill : List ℕ = argument_bytes all c.args.fill in
    gives_as c.args.w.now c.build_pieces.new.w (g.L.Locals.items c.args.l.now) _ _ c.build_pieces.result
    (field_made all.strings c.filling-unit.result c.held.result c.field_of-field.result text (filling_text fill)
    (c.filling-unit.ensures.bytes all c.requires.fill) (c.held.ensures.bytes all ∙ c.part-shown.ensures.bytes)
    ∙ c.field_of-field.ensures.field text fill c.length_of_text.ensures) c.build_pieces.ensures.row

pub returns-clause-limits : goal.returns-clause-limits
returns-clause-limits g c =
    let all = extent_of c.args.w.now.heap in
    let text : List ℕ = text_in all c.args.span in
    let fill : List ℕ = argument_bytes all c.args.fill in
    refuses_as (heap_of c.args.w.now.heap) _ _ c.build_pieces.result
    (field_made all.strings c.filling-unit.result c.held.result c.field_of-field.result text (filling_text fill)
    (c.filling-unit.ensures.bytes all c.requires.fill) (c.held.ensures.bytes all ∙ c.part-shown.ensures.bytes)
    ∙ c.field_of-field.ensures.field text fill c.length_of_text.ensures) c.build_pieces.ensures.limits
