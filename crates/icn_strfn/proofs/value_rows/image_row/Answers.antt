use Rattle.std.proofs.Common.{◌∙◌, sym, ap, map}
use Rattle.icn_defs.specs.Rows.{builds}
use Rattle.icn_heap.specs.Extents.{value_in}
use Rattle.icn_heap.specs.Heaps.{extent_of, heap_of}
use Rattle.icn_vars.specs.Worlds.{setting_of}
use Rattle.icn_strfn.proofs.RowAnswers.{row_goes_on}
use Rattle.icn_defs.specs.Images.{image}
use Rattle.icn_defs.specs.Strings.{image_row}
use Rattle.icn_strfn.proofs.value_rows.image_row.Goals as goal

pub image-requires-clause-live : goal.image-requires-clause-live
image-requires-clause-live g c = c.first_argument-val.ensures.live _ c.requires.live.args

pub image-requires-clause-named : goal.image-requires-clause-named
image-requires-clause-named g c = c.first_argument-val.ensures.named _ c.requires.named

pub returns-clause-row : goal.returns-clause-row
returns-clause-row g c = λ outside.
    row_goes_on (extent_of c.build_text.new.w.heap)
    (image_row (g.N.Names.known c.args.names.now) (map (value_in (extent_of c.args.w.now.heap)) c.args.args.now))
    (builds c.deref.result.now) (setting_of outside c.args.w.now (g.L.Locals.items c.args.l.now))
    (setting_of outside c.args.w.now (g.L.Locals.items c.args.l.now))
    (setting_of outside c.build_text.new.w (g.L.Locals.items c.args.l.now)) c.build_text.result
    (ap (λ bytes. builds bytes (setting_of outside c.args.w.now (g.L.Locals.items c.args.l.now)))
    (ap (image (g.N.Names.known c.args.names.now) (heap_of c.args.w.now.heap)) (sym (c.first_argument-val.ensures.value (extent_of c.args.w.now.heap)))
    ∙ (sym c.in_ok-shown.ensures ∙ sym c.deref.ensures.value)))
    (c.build_text.ensures.row outside)
