use Rattle.std.proofs.Common.{refl}
use Rattle.icn_heap.specs.Heaps.{extent_of, heap_of, parts_of}
use Rattle.icn_heap.proofs.OtherChanges.{texts_join}
use Rattle.icn_heap.proofs.ChangedParts.{sound_as, keeps_as}
use Rattle.icn_heap.proofs.TextChanges.{text_has, texts_same}
use Rattle.icn_heap.proofs.heap.Heap.hold.Goals as goal

pub invariant_of-self : goal.invariant_of-self
unfolding extent_of
invariant_of-self c = record { sound = sound_as refl (texts_join (parts_of c.args.self.now) c.args.self.now.sound _ c.hold.ensures.kept) }

pub returns-in_err-hold-clause-kept : goal.returns-in_err-hold-clause-kept
unfolding extent_of
returns-in_err-hold-clause-kept c = keeps_as refl (texts_join (parts_of c.args.self.now) c.args.self.now.sound _ c.hold.ensures.kept)

pub returns-in_err-hold-clause-unchanged : goal.returns-in_err-hold-clause-unchanged
unfolding heap_of
returns-in_err-hold-clause-unchanged c = texts_same (parts_of c.args.self.now) c.args.self.now.sound _ c.hold.ensures.kept c.hold.ensures.sum

pub returns-clause-bytes : goal.returns-clause-bytes
unfolding extent_of
returns-clause-bytes c = text_has _ _ c.span_of.ensures c.in_ok-hold.ensures.bytes

pub returns-clause-kept : goal.returns-clause-kept
unfolding extent_of
returns-clause-kept c = keeps_as refl (texts_join (parts_of c.args.self.now) c.args.self.now.sound _ c.hold.ensures.kept)

pub returns-clause-unchanged : goal.returns-clause-unchanged
unfolding heap_of
returns-clause-unchanged c = texts_same (parts_of c.args.self.now) c.args.self.now.sound _ c.hold.ensures.kept c.hold.ensures.sum
