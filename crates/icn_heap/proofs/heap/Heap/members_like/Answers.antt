use Rattle.std.proofs.Common.{◌≡◌, ◌∙◌, ap, subst, [], map, fold, IfOk, List}
use Rattle.icn_value.specs.Values.{Value}
use Rattle.icn_value.specs.Sameness.{with_member}
use Rattle.icn_value.specs.Store.{set_at}
use Rattle.icn_heap.specs.Extents.{value_in}
use Rattle.icn_heap.specs.HeapParts.{set_in}
use Rattle.icn_heap.specs.Heaps.{extent_of, heap_of}
use Rattle.icn_heap.proofs.JoinedValues.{fold_all}
use Rattle.icn_heap.proofs.heap.Heap.members_like.Goals as goal

pub returns-clause-members : goal.returns-clause-members
returns-clause-members c =
    subst (λ (members : List Value). IfOk c.members_from.result (λ made. set_in made ≡ members))
    (ap (λ vals. fold with_member [] (map (value_in (extent_of c.args.self.now)) vals)) c.deref.ensures.value
    ∙ (ap (fold with_member []) c.in_ok-vals.ensures.members ∙ fold_all (set_at (heap_of c.args.self.now) c.args.set) c.members_differ.ensures))
    c.members_from.ensures.members
