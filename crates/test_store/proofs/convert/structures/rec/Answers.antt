use Rattle.std.proofs.Common.{map}
use Rattle.icn_heap.specs.Extents.{value_in}
use Rattle.icn_heap.specs.Heaps.{extent_of, heap_of}
use Rattle.test_store.proofs.Known.{record_named, same_named}
use Rattle.test_store.proofs.convert.structures.rec.Goals as goal

pub returns-in_err-make_rec-clause-named : goal.returns-in_err-make_rec-clause-named
returns-in_err-make_rec-clause-named c = same_named (heap_of c.args.heap.now) (heap_of c.make_rec.new.self) c.in_err-make_rec.ensures.unchanged c.requires.named

pub returns-clause-named : goal.returns-clause-named
returns-clause-named c =
    record_named (heap_of c.args.heap.now) (heap_of c.make_rec.new.self) c.args.kind
    (map (value_in (extent_of c.args.heap.now)) c.args.fields.now) c.requires.known c.in_ok-make_rec.ensures.step c.requires.named
