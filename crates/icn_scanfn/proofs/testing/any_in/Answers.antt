use Rattle.std.proofs.Common.{◌∙◌}
use Rattle.icn_value.specs.Members.{members_of}
use Rattle.icn_heap.specs.Heaps.{extent_of}
use Rattle.icn_scanfn.specs.Regions.{searched_in}
use Rattle.icn_scanfn.proofs.KnownPlaces.{any_fails, any_passes}
use Rattle.icn_scanfn.proofs.testing.any_in.Goals as goal

pub returns-then-has_behind-clause-row : goal.returns-then-has_behind-clause-row
returns-then-has_behind-clause-row c = λ setting.
    any_passes (searched_in (extent_of c.args.heap.now) c.args.searched) setting c.in-Some.from c.in-Some.to c.in-Some.ensures.ends
    (members_of c.args.wanted.now) c.bytes.result.now c.has_behind.result c.bytes.ensures c.has_behind.ensures.value c.if-has_behind.true
    ∙ c.place_given.ensures.row (extent_of c.args.heap.now) setting

pub returns-else-has_behind-clause-row : goal.returns-else-has_behind-clause-row
returns-else-has_behind-clause-row c = λ setting.
    any_fails (searched_in (extent_of c.args.heap.now) c.args.searched) setting c.in-Some.from c.in-Some.to c.in-Some.ensures.ends
    (members_of c.args.wanted.now) c.bytes.result.now c.has_behind.result c.bytes.ensures c.has_behind.ensures.value c.if-has_behind.false
