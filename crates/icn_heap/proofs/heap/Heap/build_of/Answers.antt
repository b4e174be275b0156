use Rattle.std.proofs.Common.{refl}
use Rattle.icn_heap.specs.Heaps.{extent_of, heap_of, parts_of}
use Rattle.icn_heap.proofs.HeapCharges.{limits_ok}
use Rattle.icn_heap.proofs.OtherChanges.{texts_join}
use Rattle.icn_heap.proofs.ChangedParts.{sound_as, keeps_as}
use Rattle.icn_heap.proofs.TextChanges.{text_is, text_has, texts_charged, texts_same, text_refused, text_limits}
use Rattle.icn_heap.proofs.heap.Heap.build_of.Goals as goal

pub invariant_of-self : goal.invariant_of-self
unfolding extent_of
invariant_of-self c = record { sound = sound_as refl (texts_join (parts_of c.args.self.now) c.args.self.now.sound _ c.build_of.ensures.kept) }

pub returns-in-Ok-clause-live : goal.returns-in-Ok-clause-live
unfolding extent_of
returns-in-Ok-clause-live c = text_is _ _ c.span_of.ensures c.in-Ok.ensures.of

pub returns-in-Ok-clause-bytes : goal.returns-in-Ok-clause-bytes
unfolding extent_of
returns-in-Ok-clause-bytes c = text_has _ _ c.span_of.ensures c.in-Ok.ensures.bytes

pub returns-in-Ok-clause-step : goal.returns-in-Ok-clause-step
unfolding extent_of heap_of
returns-in-Ok-clause-step c = texts_charged (parts_of c.args.self.now) c.args.self.now.sound _ c.build_of.ensures.kept _ c.in-Ok.ensures.sum c.build_of.ensures.within

pub returns-in-Ok-clause-limits : goal.returns-in-Ok-clause-limits
unfolding extent_of heap_of
returns-in-Ok-clause-limits c =
    limits_ok (texts_charged (parts_of c.args.self.now) c.args.self.now.sound _ c.build_of.ensures.kept _ c.in-Ok.ensures.sum c.build_of.ensures.within)

pub returns-in-Ok-clause-kept : goal.returns-in-Ok-clause-kept
unfolding extent_of
returns-in-Ok-clause-kept c = keeps_as refl (texts_join (parts_of c.args.self.now) c.args.self.now.sound _ c.build_of.ensures.kept)

pub returns-in-Err-clause-step : goal.returns-in-Err-clause-step
unfolding extent_of heap_of
returns-in-Err-clause-step c =
    rw c.full_of.ensures (text_refused (parts_of c.args.self.now) c.args.self.now.sound _ c.in-Err.ensures.full c.in-Err.ensures.memory)

pub returns-in-Err-clause-limits : goal.returns-in-Err-clause-limits
unfolding extent_of heap_of
returns-in-Err-clause-limits c =
    text_limits (parts_of c.args.self.now) c.args.self.now.sound _ c.in-Err.ensures.full c.in-Err.ensures.memory _ (rw c.full_of.ensures refl)

pub returns-in-Err-clause-kept : goal.returns-in-Err-clause-kept
unfolding extent_of
returns-in-Err-clause-kept c = keeps_as refl (texts_join (parts_of c.args.self.now) c.args.self.now.sound _ c.build_of.ensures.kept)

pub returns-in-Err-clause-unchanged : goal.returns-in-Err-clause-unchanged
unfolding extent_of heap_of
returns-in-Err-clause-unchanged c = texts_same (parts_of c.args.self.now) c.args.self.now.sound _ c.build_of.ensures.kept c.in-Err.ensures.err.sum
