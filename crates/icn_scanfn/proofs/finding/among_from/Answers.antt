use Rattle.std.proofs.Common.{◌∙◌, Some, None, arith}
use Rattle.icn_value.specs.Members.{members_of}
use Rattle.icn_defs.specs.Rows.{Among}
use Rattle.icn_heap.specs.Extents.{text_in}
use Rattle.icn_heap.specs.Heaps.{extent_of}
use Rattle.icn_vars.specs.Worlds.{setting_of}
use Rattle.icn_scanfn.proofs.KnownPlaces.{member_found, place_held}
use Rattle.icn_scanfn.proofs.finding.among_from.Goals as goal

pub returns-in-Some-clause-row : goal.returns-in-Some-clause-row
returns-in-Some-clause-row g c = λ outside.
    member_found (members_of c.args.wanted) (text_in (extent_of c.args.w.now.heap) c.args.text) c.bytes.result.now c.args.place c.args.last
    (Some c.in-Some.found) (setting_of outside c.args.w.now (g.L.Locals.items c.args._l.now)) c.bytes.ensures c.in-Some.ensures.value
    ∙ place_held c.in-Some.found (Among (members_of c.args.wanted) (text_in (extent_of c.args.w.now.heap) c.args.text) c.in-Some.found c.args.last)
    (setting_of outside c.args.w.now (g.L.Locals.items c.args._l.now)) (omega (arith, c.in-Some.ensures.within.1, c.requires.high, c.short_text.ensures))

pub returns-in-None-clause-row : goal.returns-in-None-clause-row
returns-in-None-clause-row g c = λ outside.
    member_found (members_of c.args.wanted) (text_in (extent_of c.args.w.now.heap) c.args.text) c.bytes.result.now c.args.place c.args.last None
    (setting_of outside c.args.w.now (g.L.Locals.items c.args._l.now)) c.bytes.ensures c.in-None.ensures.value
