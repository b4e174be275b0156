-- The images make the row's text.
use Rattle.std.proofs.Common.{◌≡◌, ◌∙◌, List, ℕ, ◌<◌, map, ap, subst}
use Rattle.std.specs.Prelude.{slice_index}
use Rattle.icn_defs.specs.Strings.{map_byte}
use Rattle.icn_heap.specs.Extents.{text_in}
use Rattle.icn_heap.specs.Heaps.{extent_of, heap_of}
use Rattle.icn_strfn.specs.TextArguments.{argument_bytes}
use Rattle.icn_strfn.proofs.MadePieces.{gives_as, refuses_as}
use Rattle.icn_strfn.proofs.MappedBytes.{same_map}
use Rattle.icn_strfn.proofs.new_texts.build_mapped.Goals as goal

-- the images of the table are those of the two texts
table_is : (text from to one two table : List ℕ) → one ≡ from → two ≡ to → ((k : ℕ) → slice_index text k < 256)
    → ((byte : ℕ) → byte < 256 → slice_index table byte ≡ map_byte one two byte) → map (slice_index table) text ≡ map (map_byte from to) text
table_is text from to one two table same also small are =
    same_map (slice_index table) (map_byte from to) text (λ k within. small k)
    (λ byte below. are byte below ∙ (ap (λ bytes. map_byte bytes two byte) same ∙ ap (λ bytes. map_byte from bytes byte) also))

pub returns-clause-row : goal.returns-clause-row
returns-clause-row g c =
    let all = extent_of c.args.w.now.heap in
    let text : List ℕ = text_in all c.args.span in
    let small : (k : ℕ) → slice_index text k < 256 =
    subst (λ (bytes : List ℕ). (k : ℕ) → slice_index bytes k < 256) c.bytes.ensures c.bytes_are_small.ensures in
    gives_as c.args.w.now c.build_by_table.new.w (g.L.Locals.items c.args.l.now) _ _ c.build_by_table.result
    (table_is text (argument_bytes all c.args.from) (argument_bytes all c.args.to) c.bytes-2.result.now c.bytes-3.result.now c.images-table.result
    c.bytes-2.ensures c.bytes-3.ensures small c.images-table.ensures) c.build_by_table.ensures.row

pub returns-clause-limits : goal.returns-clause-limits
returns-clause-limits g c =
    let all = extent_of c.args.w.now.heap in
    let text : List ℕ = text_in all c.args.span in
    let small : (k : ℕ) → slice_index text k < 256 =
    subst (λ (bytes : List ℕ). (k : ℕ) → slice_index bytes k < 256) c.bytes.ensures c.bytes_are_small.ensures in
    refuses_as (heap_of c.args.w.now.heap) _ _ c.build_by_table.result
    (table_is text (argument_bytes all c.args.from) (argument_bytes all c.args.to) c.bytes-2.result.now c.bytes-3.result.now c.images-table.result
    c.bytes-2.ensures c.bytes-3.ensures small c.images-table.ensures) c.build_by_table.ensures.limits
