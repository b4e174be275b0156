use Rattle.std.proofs.Common.{◌≡◌, ◌∙◌, ap, sym, [], ◌∷◌, ◌++◌, arith}
use Rattle.std.proofs.lemmas.List.Elements.{All-push}
use Rattle.std.specs.Option.{option_map}
use Rattle.icn_value.specs.Store.{list_at}
use Rattle.icn_heap.specs.Extents.{IsLive, value_in}
use Rattle.icn_heap.specs.Heaps.{extent_of, heap_of}
use Rattle.icn_heap.proofs.TakenElements.{gathers, none_there}
use Rattle.icn_heap.proofs.heap.Heap.section.Goals as goal
use Rattle.icn_heap.proofs.heap.Heap.section.Goals.{in-Some+in_ok-push, in_default}

pub loop-place-preserved : goal.loop-place-preserved
loop-place-preserved c =
    elim c.match-item_at.branch [
      | in-Some+in_ok-push w ↦
          (let more : c.match-item_at.items.items ≡ c.loop-place.items.items ++ w.in-Some.item ∷ [] = ap (λ vals. vals.items) w.items-is
          ∙ w.in_ok-push.ensures.items in
          rw more (record {
            items = gathers (value_in (extent_of c.args.self.now)) c.loop-place.items.items (list_at (heap_of c.args.self.now) c.args.list).items c.args.from
                c.loop-place.place w.in-Some.item c.loop-place.auto.place c.loop-place.invariant.items w.in-Some.ensures.item;
            live = All-push (IsLive (extent_of c.args.self.now)) c.loop-place.items.items w.in-Some.item c.loop-place.invariant.live w.in-Some.ensures.live;
          }))
      | in_default w ↦
          absurd (none_there (list_at (heap_of c.args.self.now) c.args.list).items c.loop-place.place (omega (arith, c.loop-place-test.true, c.requires.within))
          (ap (option_map (value_in (extent_of c.args.self.now))) (sym w.in_default.is) ∙ c.item_at.ensures.item))
    ]
