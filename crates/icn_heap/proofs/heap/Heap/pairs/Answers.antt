use Rattle.std.proofs.Common.{◌≡◌, ◌∙◌, ap, sym, [], ◌∷◌, ◌++◌, arith}
use Rattle.std.proofs.lemmas.List.Elements.{All-push}
use Rattle.std.specs.Option.{option_map}
use Rattle.icn_value.specs.Store.{table_at}
use Rattle.icn_heap.specs.Extents.{AreLive, values_in}
use Rattle.icn_heap.specs.Heaps.{extent_of, heap_of}
use Rattle.icn_heap.proofs.TakenElements.{gathers, none_there}
use Rattle.icn_heap.proofs.heap.Heap.pairs.Goals as goal
use Rattle.icn_heap.proofs.heap.Heap.pairs.Goals.{in-Some+in_ok-push, in_default}

pub loop-place-preserved : goal.loop-place-preserved
loop-place-preserved c =
    elim c.match-pair_at.branch [
      | in-Some+in_ok-push w ↦
          (let more : c.match-pair_at.pairs.items ≡ c.loop-place.pairs.items ++ w.in-Some.pair ∷ [] = ap (λ vals. vals.items) w.pairs-is
          ∙ w.in_ok-push.ensures.items in
          rw more (record {
            pairs = gathers (values_in (extent_of c.args.self.now)) c.loop-place.pairs.items (table_at (heap_of c.args.self.now) c.args.table).pairs 0
                c.loop-place.place w.in-Some.pair (omega arith) c.loop-place.invariant.pairs w.in-Some.ensures.pair;
            live = All-push (AreLive (extent_of c.args.self.now)) c.loop-place.pairs.items w.in-Some.pair c.loop-place.invariant.live
                (record { first = w.in-Some.ensures.live_key; second = w.in-Some.ensures.live_value });
          }))
      | in_default w ↦ absurd (none_there (table_at (heap_of c.args.self.now) c.args.table).pairs c.loop-place.place
          (omega (arith, c.loop-place-test.true, c.pair_count-place-end.ensures.count))
          (ap (option_map (values_in (extent_of c.args.self.now))) (sym w.in_default.is) ∙ c.pair_at.ensures.pair))
    ]
