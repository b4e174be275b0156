use Rattle.std.proofs.Common.{◌≡◌, ◌∙◌, ap, sym, true, false, arith}
use Rattle.icn_value.specs.Sameness.{has_value}
use Rattle.icn_value.specs.Store.{set_at}
use Rattle.icn_value.specs.Changes.{charged_unless, having_member}
use Rattle.icn_heap.specs.Extents.{value_in}
use Rattle.icn_heap.specs.Heaps.{extent_of, heap_of, parts_of}
use Rattle.icn_heap.proofs.PaidChanges.{limits_paid}
use Rattle.icn_heap.proofs.OtherChanges.{member_adds, member_there}
use Rattle.icn_heap.proofs.ChangedParts.{with_sets, sound_as, steps_as}
use Rattle.icn_heap.proofs.heap.Heap.add.Goals as goal

pub returns-then-has_member-clause-step : goal.returns-then-has_member-clause-step
unfolding extent_of heap_of
returns-then-has_member-clause-step c =
    let has : has_value (set_at (heap_of c.args.self.now) c.args.set) (value_in (extent_of c.args.self.now) c.args.val)
    ≡ true = rw c.in_ok-key.ensures.value at (sym c.has_member.ensures ∙ c.if-has_member.true) in
    member_there (heap_of c.args.self.now) c.args.set (value_in (extent_of c.args.self.now) c.args.val) has

pub invariant_of-self-2 : goal.invariant_of-self-2
unfolding extent_of heap_of
invariant_of-self-2 c = record {
  sound = sound_as (with_sets c.args.self.now _ c.in_ok-member_stored_at.ensures.ok)
      (member_adds (parts_of c.args.self.now) c.args.self.now.sound c.args.set c.requires.set.live
      (omega (arith, c.in_ok-sum.ensures.sum)) c.in_ok-sum.ensures.within _ c.args.val c.in_ok-key.ensures.formed c.requires.live c.in_ok-key.ensures.value
      (sym c.has_member.ensures ∙ c.if-has_member.false));
}

pub returns-clause-step : goal.returns-clause-step
unfolding extent_of heap_of
returns-clause-step c =
    let has : has_value (set_at (heap_of c.args.self.now) c.args.set) (value_in (extent_of c.args.self.now) c.args.val)
    ≡ false = rw c.in_ok-key.ensures.value at (sym c.has_member.ensures ∙ c.if-has_member.false) in
    steps_as _ (having_member c.args.set (value_in (extent_of c.args.self.now) c.args.val))
    (ap (λ b. charged_unless b (heap_of c.args.self.now)) has ∙ c.in_ok-sum.ensures.ok)
    (with_sets c.args.self.now _ c.in_ok-member_stored_at.ensures.ok)
    (member_adds (parts_of c.args.self.now) c.args.self.now.sound c.args.set c.requires.set.live
    (omega (arith, c.in_ok-sum.ensures.sum)) c.in_ok-sum.ensures.within _ c.args.val c.in_ok-key.ensures.formed c.requires.live c.in_ok-key.ensures.value
    (sym c.has_member.ensures ∙ c.if-has_member.false))

pub returns-clause-limits : goal.returns-clause-limits
unfolding extent_of heap_of
returns-clause-limits c plain =
    let has : has_value (set_at (heap_of c.args.self.now) c.args.set) (value_in (extent_of c.args.self.now) c.args.val)
    ≡ false = rw c.in_ok-key.ensures.value at (sym c.has_member.ensures ∙ c.if-has_member.false) in
    limits_paid _ (having_member c.args.set (value_in (extent_of c.args.self.now) c.args.val))
    (ap (λ b. charged_unless b (heap_of c.args.self.now)) has ∙ c.in_ok-sum.ensures.ok)

pub returns-in_err-member_stored_at-clause-limits : goal.returns-in_err-member_stored_at-clause-limits
unfolding extent_of heap_of
returns-in_err-member_stored_at-clause-limits c plain =
    let has : has_value (set_at (heap_of c.args.self.now) c.args.set) (value_in (extent_of c.args.self.now) c.args.val)
    ≡ false = rw c.in_ok-key.ensures.value at (sym c.has_member.ensures ∙ c.if-has_member.false) in
    limits_paid _ (having_member c.args.set (value_in (extent_of c.args.self.now) c.args.val))
    (ap (λ b. charged_unless b (heap_of c.args.self.now)) has ∙ c.in_ok-sum.ensures.ok)

pub returns-then-has_member-clause-limits : goal.returns-then-has_member-clause-limits
unfolding extent_of heap_of
returns-then-has_member-clause-limits c plain =
    let has : has_value (set_at (heap_of c.args.self.now) c.args.set) (value_in (extent_of c.args.self.now) c.args.val)
    ≡ true = rw c.in_ok-key.ensures.value at (sym c.has_member.ensures ∙ c.if-has_member.true) in
    limits_paid _ (having_member c.args.set (value_in (extent_of c.args.self.now) c.args.val)) (ap (λ b. charged_unless b (heap_of c.args.self.now)) has)
