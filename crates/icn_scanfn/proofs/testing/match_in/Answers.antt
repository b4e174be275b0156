use Rattle.std.proofs.Common.{◌∙◌}
use Rattle.icn_heap.specs.Extents.{text_in}
use Rattle.icn_heap.specs.Heaps.{extent_of}
use Rattle.icn_scanfn.specs.Regions.{searched_in}
use Rattle.icn_scanfn.proofs.KnownPlaces.{match_fails, match_passes}
use Rattle.icn_scanfn.proofs.testing.match_in.Goals as goal

pub returns-then-stands-clause-row : goal.returns-then-stands-clause-row
returns-then-stands-clause-row c = λ setting.
    match_passes (searched_in (extent_of c.args.heap.now) c.args.searched) setting c.in-Some.from c.in-Some.to c.in-Some.ensures.ends
    (text_in (extent_of c.args.heap.now) c.args.wanted) c.bytes-bytes.result.now c.bytes.result.now c.stands.result c.bytes-bytes.ensures c.bytes.ensures
    c.stands.ensures c.if-stands.true
    ∙ c.place_given.ensures.row (extent_of c.args.heap.now) setting

pub returns-else-stands-clause-row : goal.returns-else-stands-clause-row
returns-else-stands-clause-row c = λ setting.
    match_fails (searched_in (extent_of c.args.heap.now) c.args.searched) setting c.in-Some.from c.in-Some.to c.in-Some.ensures.ends
    (text_in (extent_of c.args.heap.now) c.args.wanted) c.bytes-bytes.result.now c.bytes.result.now c.stands.result c.bytes-bytes.ensures c.bytes.ensures
    c.stands.ensures c.if-stands.false
