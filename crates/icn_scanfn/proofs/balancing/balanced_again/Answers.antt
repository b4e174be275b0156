use Rattle.std.proofs.Common.{◌∙◌, Some, None, arith}
use Rattle.icn_value.specs.Members.{members_of}
use Rattle.icn_heap.specs.Extents.{text_in}
use Rattle.icn_heap.specs.Heaps.{extent_of}
use Rattle.icn_vars.specs.Worlds.{setting_of}
use Rattle.icn_scanfn.proofs.KnownPlaces.{balanced_on, no_more_balanced}
use Rattle.icn_scanfn.proofs.balancing.balanced_again.Goals as goal

pub returns-then-place-last-clause-row : goal.returns-then-place-last-clause-row
returns-then-place-last-clause-row g c = λ outside.
    no_more_balanced (members_of c.args.sets.wanted) (members_of c.args.sets.opening) (members_of c.args.sets.closing)
    (text_in (extent_of c.args.w.now.heap) c.args.text) c.args.last (setting_of outside c.args.w.now (g.L.Locals.items c.args.l.now)) c.args.place (omega arith)

pub returns-in-Some-clause-row : goal.returns-in-Some-clause-row
returns-in-Some-clause-row g c = λ outside.
    balanced_on (members_of c.args.sets.wanted) (members_of c.args.sets.opening) (members_of c.args.sets.closing)
    (text_in (extent_of c.args.w.now.heap) c.args.text) c.args.last (setting_of outside c.args.w.now (g.L.Locals.items c.args.l.now)) c.bytes.result.now
    c.args.place (Some c.in-Some.count) c.bytes.ensures c.in-Some.ensures.value
    ∙ c.balanced_from.ensures.row outside

pub returns-in-None-clause-row : goal.returns-in-None-clause-row
returns-in-None-clause-row g c = λ outside.
    balanced_on (members_of c.args.sets.wanted) (members_of c.args.sets.opening) (members_of c.args.sets.closing)
    (text_in (extent_of c.args.w.now.heap) c.args.text) c.args.last
    (setting_of outside c.args.w.now (g.L.Locals.items c.args.l.now)) c.bytes.result.now c.args.place None c.bytes.ensures c.in-None.ensures.value
