use Rattle.std.proofs.Common.{◌∙◌, sym, subst}
use Rattle.std.proofs.lemmas.Result.{on_ok_weaker}
use Rattle.icn_heap.specs.Extents.{Extent, IsLive, KeepsMeaning}
use Rattle.icn_heap.specs.HeapParts.{Parts}
use Rattle.icn_heap.specs.Heaps.{extent_of, parts_of}
use Rattle.icn_heap.specs.MarkedStructures.{StructureMarks, AreAllReached, AreReached, IsReachedFrom, LeavesReached, marks_of}
use Rattle.icn_heap.proofs.CollectedHeaps.{extent_same, heap_same}
use Rattle.icn_heap.proofs.GrowingHeaps.{means_refl}
use Rattle.icn_heap.proofs.MarkedStructures.{reached_first}
use Rattle.icn_heap.proofs.RefusedChanges.{on_ok}
use Rattle.icn_heap.proofs.heap.Heap.collect.Goals as goal

pub mark_reached-requires : goal.mark_reached-requires
unfolding extent_of
mark_reached-requires c =
    let old = c.args.self.now in
    subst (λ (p : Parts). AreReached p c.args.needed (marks_of c.unmark.new.self) c.args.needed) (sym c.unmark.ensures.parts)
    (subst (λ (m : StructureMarks). AreReached (parts_of old) c.args.needed m c.args.needed) (sym c.unmark.ensures.marks)
    (reached_first (parts_of old) c.args.needed c.requires))

pub returns-in_err-mark_reached-clause-heap : goal.returns-in_err-mark_reached-clause-heap
returns-in_err-mark_reached-clause-heap c = heap_same c.mark_reached.new.self c.args.self.now (c.mark_reached.ensures.parts ∙ c.unmark.ensures.parts)

pub returns-in_err-mark_reached-clause-means : goal.returns-in_err-mark_reached-clause-means
returns-in_err-mark_reached-clause-means c =
    subst (λ (e : Extent). KeepsMeaning (extent_of c.args.self.now) e)
    (sym (extent_same c.mark_reached.new.self c.args.self.now (c.mark_reached.ensures.parts ∙ c.unmark.ensures.parts)))
    (means_refl (extent_of c.args.self.now))

pub returns-in_err-mark_reached-clause-live : goal.returns-in_err-mark_reached-clause-live
returns-in_err-mark_reached-clause-live c = λ val is needed.
    subst (λ (e : Extent). IsLive e val) (sym (extent_same c.mark_reached.new.self c.args.self.now (c.mark_reached.ensures.parts ∙ c.unmark.ensures.parts))) is

pub give_back_unmarked-requires : goal.give_back_unmarked-requires
give_back_unmarked-requires c = (
  c.args.needed,
  subst (λ (p : Parts). AreAllReached p c.args.needed (marks_of c.mark_reached.new.self) c.mark_reached.new.needed) (sym c.mark_reached.ensures.parts)
      c.in_ok-mark_reached.ensures.reached,
)

pub returns-clause-heap : goal.returns-clause-heap
returns-clause-heap c =
    c.give_back_unmarked.ensures.heap ∙ heap_same c.mark_reached.new.self c.args.self.now (c.mark_reached.ensures.parts ∙ c.unmark.ensures.parts)

pub returns-clause-means : goal.returns-clause-means
returns-clause-means c =
    subst (λ (e : Extent). KeepsMeaning e (extent_of c.give_back_unmarked.new.self))
    (extent_same c.mark_reached.new.self c.args.self.now (c.mark_reached.ensures.parts ∙ c.unmark.ensures.parts)) c.give_back_unmarked.ensures.means

pub returns-clause-live : goal.returns-clause-live
returns-clause-live c = λ val is needed.
    let all = subst (λ (p : Parts). AreAllReached p c.args.needed (marks_of c.mark_reached.new.self) c.mark_reached.new.needed)
    (sym c.mark_reached.ensures.parts) c.in_ok-mark_reached.ensures.reached in
    c.give_back_unmarked.ensures.live c.args.needed all val
    (subst (λ (e : Extent). IsLive e val)
    (sym (extent_same c.mark_reached.new.self c.args.self.now (c.mark_reached.ensures.parts ∙ c.unmark.ensures.parts))) is) needed

pub returns-clause-few : goal.returns-clause-few
returns-clause-few c =
    let all = subst (λ (p : Parts). AreAllReached p c.args.needed (marks_of c.mark_reached.new.self) c.mark_reached.new.needed)
    (sym c.mark_reached.ensures.parts) c.in_ok-mark_reached.ensures.reached in
    on_ok_weaker c.give_back_unmarked.result (λ few. few c.args.needed all) c.give_back_unmarked.ensures.few

pub returns-clause-reached : goal.returns-clause-reached
returns-clause-reached c =
    let left : LeavesReached c.args.self.now c.give_back_unmarked.new.self c.args.needed.structures.items = record {
      reached = λ val structure is. subst (λ (p : Parts). IsReachedFrom p c.args.needed.structures.items val) c.unmark.ensures.parts
          (c.in_ok-mark_reached.ensures.reached.reached.marked val structure (c.give_back_unmarked.ensures.marked val is));
    } in
    on_ok c.give_back_unmarked.result left
