use Rattle.std.proofs.Common.{◌∙◌, refl, sym, ap, subst, ℕ, ◌+◌, ◌≤◌, drop, length, take}
use Rattle.icn_strings.specs.Regions.{sum_of}
use Rattle.icn_value.specs.Store.{OpenedFile}
use Rattle.icn_heap.specs.Heaps.{extent_of, heap_of, parts_of}
use Rattle.icn_heap.proofs.FileChanges.{file_view}
use Rattle.icn_heap.proofs.HeapCharges.{limits_ok}
use Rattle.icn_heap.proofs.OtherChanges.{texts_join}
use Rattle.icn_heap.proofs.ChangedParts.{sound_as, keeps_as}
use Rattle.icn_heap.proofs.TextChanges.{text_is, text_has, texts_charged, texts_same, text_refused, text_limits}
use Rattle.icn_heap.proofs.heap.Heap.build_of_file.Goals as goal

pub part_at-bytes-requires-clause-within : goal.part_at-bytes-requires-clause-within
unfolding extent_of heap_of
part_at-bytes-requires-clause-within c =
    subst (λ (file : OpenedFile). c.args.from + c.args.len ≤ length file.content)
    (file_view (extent_of c.args.self.now) (parts_of c.args.self.now) c.args.number) c.requires.within

pub invariant_of-self : goal.invariant_of-self
unfolding extent_of
invariant_of-self c = record { sound = sound_as refl (texts_join (parts_of c.args.self.now) c.args.self.now.sound _ c.build.ensures.kept) }

pub returns-in-Ok-clause-live : goal.returns-in-Ok-clause-live
unfolding extent_of
returns-in-Ok-clause-live c = text_is _ _ c.span_of.ensures c.in-Ok.ensures.of

pub returns-in-Ok-clause-bytes : goal.returns-in-Ok-clause-bytes
unfolding extent_of heap_of
returns-in-Ok-clause-bytes c =
    text_has _ _ c.span_of.ensures
    (c.in-Ok.ensures.bytes ∙ c.part_at-bytes.ensures.part
    ∙ ap (λ (file : OpenedFile). take c.args.len (drop c.args.from file.content))
    (sym (file_view (extent_of c.args.self.now) (parts_of c.args.self.now) c.args.number)))

pub returns-in-Ok-clause-step : goal.returns-in-Ok-clause-step
unfolding heap_of
returns-in-Ok-clause-step c =
    texts_charged (parts_of c.args.self.now) c.args.self.now.sound _ c.build.ensures.kept c.args.len
    (c.in-Ok.ensures.sum ∙ ap (λ (n : ℕ). sum_of c.args.self.now.strings + n) c.part_at-bytes.ensures.len) c.build.ensures.within

pub returns-in-Ok-clause-limits : goal.returns-in-Ok-clause-limits
unfolding heap_of
returns-in-Ok-clause-limits c =
    limits_ok (texts_charged (parts_of c.args.self.now) c.args.self.now.sound _ c.build.ensures.kept c.args.len
    (c.in-Ok.ensures.sum ∙ ap (λ (n : ℕ). sum_of c.args.self.now.strings + n) c.part_at-bytes.ensures.len) c.build.ensures.within)

pub returns-in-Ok-clause-kept : goal.returns-in-Ok-clause-kept
unfolding extent_of
returns-in-Ok-clause-kept c = keeps_as refl (texts_join (parts_of c.args.self.now) c.args.self.now.sound _ c.build.ensures.kept)

pub returns-in-Err-clause-step : goal.returns-in-Err-clause-step
unfolding heap_of
returns-in-Err-clause-step c =
    rw c.full_of.ensures (rw (← c.part_at-bytes.ensures.len)
    (text_refused (parts_of c.args.self.now) c.args.self.now.sound _ c.in-Err.ensures.full c.in-Err.ensures.memory))

pub returns-in-Err-clause-limits : goal.returns-in-Err-clause-limits
unfolding heap_of
returns-in-Err-clause-limits c =
    rw (← c.part_at-bytes.ensures.len)
    (text_limits (parts_of c.args.self.now) c.args.self.now.sound _ c.in-Err.ensures.full c.in-Err.ensures.memory _ (rw c.full_of.ensures refl))

pub returns-in-Err-clause-kept : goal.returns-in-Err-clause-kept
unfolding extent_of
returns-in-Err-clause-kept c = keeps_as refl (texts_join (parts_of c.args.self.now) c.args.self.now.sound _ c.build.ensures.kept)

pub returns-in-Err-clause-unchanged : goal.returns-in-Err-clause-unchanged
unfolding heap_of
returns-in-Err-clause-unchanged c = texts_same (parts_of c.args.self.now) c.args.self.now.sound _ c.build.ensures.kept c.in-Err.ensures.err.sum
