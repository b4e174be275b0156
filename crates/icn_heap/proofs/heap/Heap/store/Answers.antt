use Rattle.std.proofs.Common.{◌≡◌, ◌∙◌, ap, sym, is_some}
use Rattle.icn_value.specs.Changes.{charged_unless, value_at_key, with_pair}
use Rattle.icn_heap.specs.Extents.{value_in}
use Rattle.icn_heap.specs.Heaps.{extent_of, heap_of, parts_of}
use Rattle.icn_heap.proofs.PaidChanges.{limits_paid}
use Rattle.icn_heap.proofs.OtherChanges.{pair_stores}
use Rattle.icn_heap.proofs.ChangedParts.{with_tables, sound_as, steps_as}
use Rattle.icn_heap.proofs.heap.Heap.store.Goals as goal

pub invariant_of-self-2 : goal.invariant_of-self-2
unfolding extent_of
invariant_of-self-2 c = record {
  sound = sound_as (with_tables c.args.self.now _ c.in_ok-entry_stored_at.ensures.ok)
      (pair_stores (parts_of c.args.self.now) c.args.self.now.sound c.args.table c.requires.table.live c.in_ok-sum.ensures.more c.in_ok-sum.ensures.within
      _ _ c.in_ok-held.ensures.formed c.requires.key c.requires.live c.in_ok-held.ensures.value);
}

pub returns-clause-step : goal.returns-clause-step
unfolding extent_of heap_of
returns-clause-step c =
    let has : c.has_key.result ≡ is_some (value_at_key (heap_of c.args.self.now) c.args.table (value_in (extent_of c.args.self.now) c.args.key)) =
    rw c.in_ok-held.ensures.value at c.has_key.ensures in
    steps_as _ (with_pair c.args.table (value_in (extent_of c.args.self.now) c.args.key) (value_in (extent_of c.args.self.now) c.args.val))
    (ap (λ b. charged_unless b (heap_of c.args.self.now)) (sym has) ∙ c.in_ok-sum.ensures.ok)
    (with_tables c.args.self.now _ c.in_ok-entry_stored_at.ensures.ok)
    (pair_stores (parts_of c.args.self.now) c.args.self.now.sound c.args.table c.requires.table.live c.in_ok-sum.ensures.more c.in_ok-sum.ensures.within
    _ _ c.in_ok-held.ensures.formed c.requires.key c.requires.live c.in_ok-held.ensures.value)

pub returns-clause-limits : goal.returns-clause-limits
unfolding extent_of heap_of
returns-clause-limits c plain =
    let has : c.has_key.result ≡ is_some (value_at_key (heap_of c.args.self.now) c.args.table (value_in (extent_of c.args.self.now) c.args.key)) =
    rw c.in_ok-held.ensures.value at c.has_key.ensures in
    limits_paid _ (with_pair c.args.table (value_in (extent_of c.args.self.now) c.args.key) (value_in (extent_of c.args.self.now) c.args.val))
    (ap (λ b. charged_unless b (heap_of c.args.self.now)) (sym has) ∙ c.in_ok-sum.ensures.ok)

pub returns-in_err-entry_stored_at-clause-limits : goal.returns-in_err-entry_stored_at-clause-limits
unfolding extent_of heap_of
returns-in_err-entry_stored_at-clause-limits c plain =
    let has : c.has_key.result ≡ is_some (value_at_key (heap_of c.args.self.now) c.args.table (value_in (extent_of c.args.self.now) c.args.key)) =
    rw c.in_ok-held.ensures.value at c.has_key.ensures in
    limits_paid _ (with_pair c.args.table (value_in (extent_of c.args.self.now) c.args.key) (value_in (extent_of c.args.self.now) c.args.val))
    (ap (λ b. charged_unless b (heap_of c.args.self.now)) (sym has) ∙ c.in_ok-sum.ensures.ok)
