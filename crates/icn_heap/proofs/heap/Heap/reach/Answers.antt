use Rattle.std.proofs.Common.{◌≡◌, ◌∙◌, Bool, true, false, [], sym, subst, if◌then◌else◌}
use Rattle.std.proofs.lemmas.Result.{on_ok_weaker}
use Rattle.icn_heap.specs.Extents.{IsLive}
use Rattle.icn_heap.specs.HeapParts.{Parts, extent_in}
use Rattle.icn_heap.specs.Heaps.{parts_of}
use Rattle.icn_heap.specs.MarkedStructures.{is_unmarked, marks_of, vals_of}
use Rattle.icn_heap.specs.NeededValues.{AreNeeded}
use Rattle.icn_heap.proofs.NeededSteps.{needed_none}
use Rattle.icn_heap.proofs.heap.Heap.reach.Goals as goal

pub add_held-requires : goal.add_held-requires
add_held-requires c = subst (λ (p : Parts). IsLive (extent_in p) c.args.val) (sym c.mark.ensures.parts) c.requires

pub returns-then-mark-clause-added : goal.returns-then-mark-clause-added
returns-then-mark-clause-added c =
    let old = c.args.self.now in
    let fresh : is_unmarked (parts_of old) (marks_of old) c.args.val ≡ true = sym c.mark.ensures.fresh ∙ c.if-mark.true in
    on_ok_weaker c.add_held.result
    (λ added. subst (λ (b : Bool). AreNeeded c.args.needed.now c.add_held.new.needed (if b then vals_of (parts_of old) c.args.val else [])) (sym fresh)
    (subst (λ (p : Parts). AreNeeded c.args.needed.now c.add_held.new.needed (vals_of p c.args.val)) c.mark.ensures.parts added)) c.add_held.ensures

pub returns-else-mark-clause-added : goal.returns-else-mark-clause-added
returns-else-mark-clause-added c =
    let old = c.args.self.now in
    let was : is_unmarked (parts_of old) (marks_of old) c.args.val ≡ false = sym c.mark.ensures.fresh ∙ c.if-mark.false in
    subst (λ (b : Bool). AreNeeded c.args.needed.now c.args.needed.now (if b then vals_of (parts_of old) c.args.val else [])) (sym was)
    (needed_none c.args.needed.now)
