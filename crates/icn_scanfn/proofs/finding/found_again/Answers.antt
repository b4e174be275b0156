use Rattle.std.proofs.Common.{arith}
use Rattle.icn_heap.specs.Extents.{text_in}
use Rattle.icn_heap.specs.Heaps.{extent_of}
use Rattle.icn_vars.specs.Worlds.{setting_of}
use Rattle.icn_scanfn.proofs.KnownPlaces.{no_more_text}
use Rattle.icn_scanfn.proofs.finding.found_again.Goals as goal

pub returns-else-place-last-clause-row : goal.returns-else-place-last-clause-row
returns-else-place-last-clause-row g c = λ outside.
    no_more_text (text_in (extent_of c.args.w.now.heap) c.args.wanted) (text_in (extent_of c.args.w.now.heap) c.args.text) c.args.place c.args.last
    (setting_of outside c.args.w.now (g.L.Locals.items c.args.l.now)) (omega arith)
