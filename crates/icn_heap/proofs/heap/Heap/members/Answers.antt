use Rattle.std.proofs.Common.{◌≡◌, ◌∙◌, ap, sym, [], ◌∷◌, ◌++◌, arith}
use Rattle.std.proofs.lemmas.List.Elements.{All-push}
use Rattle.std.specs.Option.{option_map}
use Rattle.icn_value.specs.Store.{set_at}
use Rattle.icn_heap.specs.Extents.{IsLive, value_in}
use Rattle.icn_heap.specs.Heaps.{extent_of, heap_of}
use Rattle.icn_heap.proofs.TakenElements.{gathers, none_there}
use Rattle.icn_heap.proofs.heap.Heap.members.Goals as goal
use Rattle.icn_heap.proofs.heap.Heap.members.Goals.{in-Some+in_ok-push, in_default}

pub loop-place-preserved : goal.loop-place-preserved
loop-place-preserved c =
    elim c.match-member_at.branch [
      | in-Some+in_ok-push w ↦
          (let more : c.match-member_at.members.items ≡ c.loop-place.members.items ++ w.in-Some.member ∷ [] = ap (λ vals. vals.items) w.members-is
          ∙ w.in_ok-push.ensures.items in
          rw more (record {
            members = gathers (value_in (extent_of c.args.self.now)) c.loop-place.members.items (set_at (heap_of c.args.self.now) c.args.set) 0
                c.loop-place.place w.in-Some.member (omega arith) c.loop-place.invariant.members w.in-Some.ensures.member;
            live = All-push (IsLive (extent_of c.args.self.now)) c.loop-place.members.items w.in-Some.member c.loop-place.invariant.live w.in-Some.ensures.live;
          }))
      | in_default w ↦ absurd (none_there (set_at (heap_of c.args.self.now) c.args.set) c.loop-place.place
          (omega (arith, c.loop-place-test.true, c.member_count-place-end.ensures.count))
          (ap (option_map (value_in (extent_of c.args.self.now))) (sym w.in_default.is) ∙ c.member_at.ensures.member))
    ]
