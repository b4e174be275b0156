use Rattle.icn_heap.specs.Extents.{text_in}
use Rattle.icn_heap.specs.Heaps.{extent_of}
use Rattle.icn_vars.specs.Worlds.{setting_of}
use Rattle.icn_ops.proofs.TwoOperandSteps.{moved}
use Rattle.icn_ops.proofs.scanning.match_here.Goals as goal

pub returns-then-stands-clause-row : goal.returns-then-stands-clause-row
returns-then-stands-clause-row g c = λ outside.
    moved (text_in (extent_of c.args.w.now.heap) c.args.wanted) c.bytes-bytes.result.now (text_in (extent_of c.args.w.now.heap) c.args.w.now.pair.subject)
    c.bytes-subject.result.now c.args.w.now.pair.position c.stands.result (setting_of outside c.args.w.now (g.L.Locals.items c.args.l.now))
    _ c.bytes-bytes.ensures c.bytes-subject.ensures c.stands.ensures c.if-stands.true (c.tab_to.ensures.row outside)
