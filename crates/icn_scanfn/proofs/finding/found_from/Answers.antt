use Rattle.std.proofs.Common.{◌∙◌, Some, None, arith}
use Rattle.icn_defs.specs.Rows.{Found}
use Rattle.icn_heap.specs.Extents.{text_in}
use Rattle.icn_heap.specs.Heaps.{extent_of}
use Rattle.icn_vars.specs.Worlds.{setting_of}
use Rattle.icn_scanfn.proofs.KnownPlaces.{text_found, place_held}
use Rattle.icn_scanfn.proofs.finding.found_from.Goals as goal

pub returns-in-Some-clause-row : goal.returns-in-Some-clause-row
returns-in-Some-clause-row g c = λ outside.
    text_found (text_in (extent_of c.args.w.now.heap) c.args.wanted)
    (text_in (extent_of c.args.w.now.heap) c.args.text) c.bytes.result.now c.bytes-2.result.now c.args.place c.args.last (Some c.in-Some.found)
    (setting_of outside c.args.w.now (g.L.Locals.items c.args._l.now)) c.bytes.ensures c.bytes-2.ensures c.in-Some.ensures.value
    ∙ place_held c.in-Some.found
    (Found (text_in (extent_of c.args.w.now.heap) c.args.wanted) (text_in (extent_of c.args.w.now.heap) c.args.text) c.in-Some.found c.args.last)
    (setting_of outside c.args.w.now (g.L.Locals.items c.args._l.now)) (omega (arith, c.in-Some.ensures.within.1, c.requires.search.high, c.short_text.ensures))

pub returns-in-None-clause-row : goal.returns-in-None-clause-row
returns-in-None-clause-row g c = λ outside.
    text_found (text_in (extent_of c.args.w.now.heap) c.args.wanted) (text_in (extent_of c.args.w.now.heap) c.args.text) c.bytes.result.now c.bytes-2.result.now
    c.args.place c.args.last None (setting_of outside c.args.w.now (g.L.Locals.items c.args._l.now)) c.bytes.ensures c.bytes-2.ensures c.in-None.ensures.value
