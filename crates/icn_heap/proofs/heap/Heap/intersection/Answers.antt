use Rattle.std.proofs.Common.{◌≡◌, ◌∙◌, ap, subst, [], map, fold, MatchResult, Ok, List, true}
use Rattle.icn_value.specs.Values.{Value}
use Rattle.icn_value.specs.Sameness.{with_member}
use Rattle.icn_value.specs.Changes.{Refuses}
use Rattle.icn_value.specs.Store.{set_at}
use Rattle.icn_heap.specs.Extents.{value_in}
use Rattle.icn_heap.specs.MadeStructures.{made_set_of, stands}
use Rattle.icn_heap.specs.Heaps.{extent_of, heap_of}
use Rattle.icn_heap.proofs.JoinedValues.{fold_some}
use Rattle.icn_heap.proofs.heap.Heap.intersection.Goals as goal

pub returns-clause-step : goal.returns-clause-step
returns-clause-step c =
    subst (λ (members : List Value). MatchResult c.set_from.result (λ _. made_set_of (heap_of c.args.self.now) members ≡ Ok (heap_of c.set_from.new.self))
    (Refuses (made_set_of (heap_of c.args.self.now) members)))
    (ap (λ vals. fold with_member [] (map (value_in (extent_of c.args.self.now)) vals)) c.deref.ensures.value
    ∙ (ap (fold with_member []) c.in_ok-members.ensures.members
    ∙ fold_some (stands true (set_at (heap_of c.args.self.now) c.args.second)) (set_at (heap_of c.args.self.now) c.args.first) c.members_differ.ensures))
    c.set_from.ensures.step
