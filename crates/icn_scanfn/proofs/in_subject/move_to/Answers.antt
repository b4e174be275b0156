use Rattle.std.proofs.Common.{◌-◌}
use Rattle.icn_scanfn.specs.InSubject.{subject_of}
use Rattle.icn_scanfn.proofs.SubjectSteps.{part_short}
use Rattle.icn_heap.specs.Extents.{text_in}
use Rattle.icn_heap.specs.Heaps.{extent_of}
use Rattle.icn_scanfn.proofs.in_subject.move_to.Goals as goal

pub returns-clause-short : goal.returns-clause-short
returns-clause-short c =
    let w = c.args.w.now in
    part_short (subject_of w) (text_in (extent_of w.heap) c.part-text.result) (c.min-from.result - 1) (c.max-to.result - c.min-from.result)
    c.part-text.ensures.bytes
