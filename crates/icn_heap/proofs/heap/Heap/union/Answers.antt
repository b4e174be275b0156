use Rattle.std.proofs.Common.{◌≡◌, ◌∙◌, ap, subst, [], ◌++◌, map, fold, MatchResult, Ok, List}
use Rattle.std.proofs.lemmas.List.{map-append}
use Rattle.icn_value.specs.Values.{Value}
use Rattle.icn_value.specs.Sameness.{with_member}
use Rattle.icn_value.specs.Changes.{Refuses}
use Rattle.icn_value.specs.Store.{set_at}
use Rattle.icn_heap.specs.Extents.{value_in}
use Rattle.icn_heap.specs.MadeStructures.{made_set_of}
use Rattle.icn_heap.specs.Heaps.{extent_of, heap_of}
use Rattle.icn_heap.proofs.JoinedValues.{fold_both}
use Rattle.icn_heap.proofs.heap.Heap.union.Goals as goal

pub returns-clause-step : goal.returns-clause-step
returns-clause-step c =
    let all : map (value_in (extent_of c.args.self.now)) c.deref-2.result.now
    ≡ set_at (heap_of c.args.self.now) c.args.first ++ set_at (heap_of c.args.self.now) c.args.second =
    ap (map (value_in (extent_of c.args.self.now)))
    (c.deref-2.ensures.value ∙ (c.in_ok-extend_from_slice.ensures.items ∙ ap (λ vals. c.in_ok-members.members.items ++ vals) c.deref.ensures.value))
    ∙ (map-append (value_in (extent_of c.args.self.now)) c.in_ok-members.members.items c.in_ok-others.others.items
    ∙ (ap (λ (values : List Value). values ++ map (value_in (extent_of c.args.self.now)) c.in_ok-others.others.items) c.in_ok-members.ensures.members
    ∙ ap (λ (values : List Value). set_at (heap_of c.args.self.now) c.args.first ++ values) c.in_ok-others.ensures.members)) in
    subst (λ (members : List Value). MatchResult c.set_from.result (λ _. made_set_of (heap_of c.args.self.now) members ≡ Ok (heap_of c.set_from.new.self))
    (Refuses (made_set_of (heap_of c.args.self.now) members)))
    (ap (fold with_member []) all
    ∙ fold_both (set_at (heap_of c.args.self.now) c.args.first)
    (set_at (heap_of c.args.self.now) c.args.second) c.members_differ.ensures c.members_differ-2.ensures)
    c.set_from.ensures.step
