use Rattle.std.proofs.Common.{◌∙◌, List, sym, ap, subst, arith}
use Rattle.std.specs.List.{All}
use Rattle.icn_strings.specs.declared.byte_range.ByteRange.{ByteRange}
use Rattle.icn_strings.specs.Ranges.{total_length}
use Rattle.icn_strings.specs.Regions.{IsOf}
use Rattle.icn_heap.specs.Extents.{IsLive, KeepsMeaning}
use Rattle.icn_heap.specs.HeapParts.{Parts, extent_in, heap_over, IsSoundHeap}
use Rattle.icn_heap.specs.Heaps.{extent_of, heap_of, parts_of}
use Rattle.icn_heap.specs.MarkedStructures.{marks_of}
use Rattle.icn_heap.specs.NeededValues.{held_vals, length_of_vals}
use Rattle.icn_heap.proofs.CollectedHeaps.{kept_anyway, left_marked, live_collected, means_collected, parts_given, sound_collected, stands_collected}
use Rattle.icn_heap.proofs.heap.Heap.give_back_unmarked.Goals as goal

pub sweep-requires : goal.sweep-requires
sweep-requires c =
    subst (λ (rs : List ByteRange). All (IsOf c.args.self.now.strings) rs) (sym c.deref_mut.ensures.value) c.requires.1.reached.of_heap.of

pub invariant_of-self : goal.invariant_of-self
invariant_of-self c =
    let old = c.args.self.now in
    let new = c.sweep.new.self in
    let ranges = c.deref_mut.result.now in
    let were : All (IsOf old.strings) ranges =
    subst (λ (rs : List ByteRange). All (IsOf old.strings) rs) (sym c.deref_mut.ensures.value) c.requires.1.reached.of_heap.of in
    let are : All (IsOf new) ranges = kept_anyway c.sweep.result ranges c.sweep.ensures.of c.sweep.ensures.err were in
    let of : All (IsOf new) c.args.needed.ranges.items = subst (λ (rs : List ByteRange). All (IsOf new) rs) c.deref_mut.ensures.value are in
    record {
      sound =
          subst IsSoundHeap (sym (parts_given old new c.give_back.ensures c.give_back-2.ensures c.give_back-3.ensures c.give_back-4.ensures))
          (sound_collected (parts_of old) old.sound (marks_of old) c.requires.1 new c.sweep.ensures.means of);
    }

pub returns-in_err-sweep-clause-heap : goal.returns-in_err-sweep-clause-heap
unfolding heap_of
returns-in_err-sweep-clause-heap c =
    let old = c.args.self.now in
    let new = c.sweep.new.self in
    let given = parts_given old new c.give_back.ensures c.give_back-2.ensures c.give_back-3.ensures c.give_back-4.ensures in
    let ranges = c.deref_mut.result.now in
    let were : All (IsOf old.strings) ranges =
    subst (λ (rs : List ByteRange). All (IsOf old.strings) rs) (sym c.deref_mut.ensures.value) c.requires.1.reached.of_heap.of in
    let are : All (IsOf new) ranges = kept_anyway c.sweep.result ranges c.sweep.ensures.of c.sweep.ensures.err were in
    let of : All (IsOf new) c.args.needed.ranges.items = subst (λ (rs : List ByteRange). All (IsOf new) rs) c.deref_mut.ensures.value are in
    ap (λ (p : Parts). heap_over (extent_in p) p) given
    ∙ stands_collected (parts_of old) old.sound (marks_of old) c.requires.1 new c.sweep.ensures.means of c.sweep.ensures.sum

pub returns-in_err-sweep-clause-means : goal.returns-in_err-sweep-clause-means
unfolding extent_of
returns-in_err-sweep-clause-means c =
    let old = c.args.self.now in
    let new = c.sweep.new.self in
    let given = parts_given old new c.give_back.ensures c.give_back-2.ensures c.give_back-3.ensures c.give_back-4.ensures in
    let ranges = c.deref_mut.result.now in
    let were : All (IsOf old.strings) ranges =
    subst (λ (rs : List ByteRange). All (IsOf old.strings) rs) (sym c.deref_mut.ensures.value) c.requires.1.reached.of_heap.of in
    let are : All (IsOf new) ranges = kept_anyway c.sweep.result ranges c.sweep.ensures.of c.sweep.ensures.err were in
    let of : All (IsOf new) c.args.needed.ranges.items = subst (λ (rs : List ByteRange). All (IsOf new) rs) c.deref_mut.ensures.value are in
    subst (λ (p : Parts). KeepsMeaning (extent_in (parts_of old)) (extent_in p)) (sym given)
    (means_collected (parts_of old) old.sound (marks_of old) c.requires.1 new c.sweep.ensures.means of)

pub returns-in_err-sweep-clause-live : goal.returns-in_err-sweep-clause-live
unfolding extent_of
returns-in_err-sweep-clause-live c = λ first all val is needed.
    let old = c.args.self.now in
    let new = c.sweep.new.self in
    let given = parts_given old new c.give_back.ensures c.give_back-2.ensures c.give_back-3.ensures c.give_back-4.ensures in
    let ranges = c.deref_mut.result.now in
    let were : All (IsOf old.strings) ranges =
    subst (λ (rs : List ByteRange). All (IsOf old.strings) rs) (sym c.deref_mut.ensures.value) c.requires.1.reached.of_heap.of in
    let are : All (IsOf new) ranges = kept_anyway c.sweep.result ranges c.sweep.ensures.of c.sweep.ensures.err were in
    let of : All (IsOf new) c.args.needed.ranges.items = subst (λ (rs : List ByteRange). All (IsOf new) rs) c.deref_mut.ensures.value are in
    subst (λ (p : Parts). IsLive (extent_in p) val) (sym given)
    (live_collected (parts_of old) old.sound (marks_of old) all new c.sweep.ensures.means of val is needed)

pub returns-clause-heap : goal.returns-clause-heap
unfolding heap_of
returns-clause-heap c =
    let old = c.args.self.now in
    let new = c.sweep.new.self in
    let given = parts_given old new c.give_back.ensures c.give_back-2.ensures c.give_back-3.ensures c.give_back-4.ensures in
    let ranges = c.deref_mut.result.now in
    let were : All (IsOf old.strings) ranges =
    subst (λ (rs : List ByteRange). All (IsOf old.strings) rs) (sym c.deref_mut.ensures.value) c.requires.1.reached.of_heap.of in
    let are : All (IsOf new) ranges = kept_anyway c.sweep.result ranges c.sweep.ensures.of c.sweep.ensures.err were in
    let of : All (IsOf new) c.args.needed.ranges.items = subst (λ (rs : List ByteRange). All (IsOf new) rs) c.deref_mut.ensures.value are in
    ap (λ (p : Parts). heap_over (extent_in p) p) given
    ∙ stands_collected (parts_of old) old.sound (marks_of old) c.requires.1 new c.sweep.ensures.means of c.sweep.ensures.sum

pub returns-clause-means : goal.returns-clause-means
unfolding extent_of
returns-clause-means c =
    let old = c.args.self.now in
    let new = c.sweep.new.self in
    let given = parts_given old new c.give_back.ensures c.give_back-2.ensures c.give_back-3.ensures c.give_back-4.ensures in
    let ranges = c.deref_mut.result.now in
    let were : All (IsOf old.strings) ranges =
    subst (λ (rs : List ByteRange). All (IsOf old.strings) rs) (sym c.deref_mut.ensures.value) c.requires.1.reached.of_heap.of in
    let are : All (IsOf new) ranges = kept_anyway c.sweep.result ranges c.sweep.ensures.of c.sweep.ensures.err were in
    let of : All (IsOf new) c.args.needed.ranges.items = subst (λ (rs : List ByteRange). All (IsOf new) rs) c.deref_mut.ensures.value are in
    subst (λ (p : Parts). KeepsMeaning (extent_in (parts_of old)) (extent_in p)) (sym given)
    (means_collected (parts_of old) old.sound (marks_of old) c.requires.1 new c.sweep.ensures.means of)

pub returns-clause-live : goal.returns-clause-live
unfolding extent_of
returns-clause-live c = λ first all val is needed.
    let old = c.args.self.now in
    let new = c.sweep.new.self in
    let given = parts_given old new c.give_back.ensures c.give_back-2.ensures c.give_back-3.ensures c.give_back-4.ensures in
    let ranges = c.deref_mut.result.now in
    let were : All (IsOf old.strings) ranges =
    subst (λ (rs : List ByteRange). All (IsOf old.strings) rs) (sym c.deref_mut.ensures.value) c.requires.1.reached.of_heap.of in
    let are : All (IsOf new) ranges = kept_anyway c.sweep.result ranges c.sweep.ensures.of c.sweep.ensures.err were in
    let of : All (IsOf new) c.args.needed.ranges.items = subst (λ (rs : List ByteRange). All (IsOf new) rs) c.deref_mut.ensures.value are in
    subst (λ (p : Parts). IsLive (extent_in p) val) (sym given)
    (live_collected (parts_of old) old.sound (marks_of old) all new c.sweep.ensures.means of val is needed)

pub returns-clause-few : goal.returns-clause-few
unfolding extent_of
returns-clause-few c = λ first all.
    let old = c.args.self.now in
    let new = c.sweep.new.self in
    let given = parts_given old new c.give_back.ensures c.give_back-2.ensures c.give_back-3.ensures c.give_back-4.ensures in
    let weight = ap (λ (p : Parts). length_of_vals (held_vals p)) given in
    let few = c.in_ok-sweep.ensures.few in
    let bytes = all.reached.bytes in
    let total = ap total_length c.deref_mut.ensures.value in
    omega (arith, weight, few, bytes, total)

pub returns-in_err-sweep-clause-marked : goal.returns-in_err-sweep-clause-marked
unfolding extent_of
returns-in_err-sweep-clause-marked c = λ val is.
    let old = c.args.self.now in
    let new = c.sweep.new.self in
    let given = parts_given old new c.give_back.ensures c.give_back-2.ensures c.give_back-3.ensures c.give_back-4.ensures in
    left_marked (parts_of old) (marks_of old) new val (subst (λ (p : Parts). IsLive (extent_in p) val) given is)

pub returns-clause-marked : goal.returns-clause-marked
unfolding extent_of
returns-clause-marked c = λ val is.
    let old = c.args.self.now in
    let new = c.sweep.new.self in
    let given = parts_given old new c.give_back.ensures c.give_back-2.ensures c.give_back-3.ensures c.give_back-4.ensures in
    left_marked (parts_of old) (marks_of old) new val (subst (λ (p : Parts). IsLive (extent_in p) val) given is)
