use Rattle.std.proofs.Common.{◌∙◌, arith}
use Rattle.icn_value.specs.Members.{members_of}
use Rattle.icn_heap.specs.Heaps.{extent_of}
use Rattle.icn_scanfn.specs.Regions.{searched_in}
use Rattle.icn_scanfn.proofs.KnownPlaces.{many_fails, many_passes}
use Rattle.icn_scanfn.proofs.testing.many_in.Goals as goal

pub returns-then-count-gt0-clause-row : goal.returns-then-count-gt0-clause-row
returns-then-count-gt0-clause-row c = λ setting.
    many_passes (searched_in (extent_of c.args.heap.now) c.args.searched) setting c.in-Some.from c.in-Some.to c.in-Some.ensures.ends
    (members_of c.args.wanted.now) c.bytes.result.now c.run_length-count.result c.bytes.ensures c.run_length-count.ensures.value (omega arith)
    ∙ c.place_given.ensures.row (extent_of c.args.heap.now) setting

pub returns-else-count-gt0-clause-row : goal.returns-else-count-gt0-clause-row
returns-else-count-gt0-clause-row c = λ setting.
    many_fails (searched_in (extent_of c.args.heap.now) c.args.searched) setting c.in-Some.from c.in-Some.to c.in-Some.ensures.ends
    (members_of c.args.wanted.now) c.bytes.result.now c.run_length-count.result c.bytes.ensures c.run_length-count.ensures.value (omega arith)
