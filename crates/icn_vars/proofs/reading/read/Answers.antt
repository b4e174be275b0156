use Rattle.icn_heap.specs.Extents.{text_in}
use Rattle.icn_heap.specs.Heaps.{extent_of}
use Rattle.icn_vars.specs.Worlds.{root_in, setting_of}
use Rattle.icn_vars.proofs.ReadValues.{part_read, part_stops}
use Rattle.icn_vars.proofs.reading.read.Goals as goal

pub returns-in_ok-text-in-Part-clause-value : goal.returns-in_ok-text-in-Part-clause-value
returns-in_ok-text-in-Part-clause-value g c = λ outside.
    rw c.in-Part.is (part_read (setting_of outside c.args.w.now (g.L.Locals.items c.args.l.now))
    (root_in (extent_of c.args.w.now.heap) c.in-Part.root) c.in-Part.place c.in-Part.len
    (text_in (extent_of c.args.w.now.heap) c.in_ok-text-in-Part.text) (text_in (extent_of c.args.w.now.heap) c.part.result)
    (c.in_ok-text-in-Part.ensures.value outside) c.part.ensures.bytes)

pub returns-in_err-text-in-Part-clause-value : goal.returns-in_err-text-in-Part-clause-value
returns-in_err-text-in-Part-clause-value g c = λ outside.
    rw c.in-Part.is (part_stops (extent_of c.args.w.now.heap) (setting_of outside c.args.w.now (g.L.Locals.items c.args.l.now))
    (root_in (extent_of c.args.w.now.heap) c.in-Part.root) c.in-Part.place c.in-Part.len
    c.in_err-text-in-Part.field-0.0 c.from_residual.result c.from_residual.ensures.1 (c.in_err-text-in-Part.ensures.value outside))
