use Rattle.std.proofs.Common.{map}
use Rattle.std.proofs.lemmas.List.Elements.{All-push, All-same}
use Rattle.icn_structfn.specs.Sorting.{pair_at}
use Rattle.icn_heap.specs.Extents.{AreLive, values_in}
use Rattle.icn_structfn.proofs.SortedPlaces.{all_taken, one_taken}
use Rattle.icn_structfn.proofs.ordering.pairs_at.Goals as goal

pub loop-first-preserved : goal.loop-first-preserved
loop-first-preserved c = record {
  values = λ all. one_taken (values_in all) (pair_at (map (values_in all) c.args.pairs.now)) c.loop-first.found.items c.push.new.self.items c.pair_at.result
      c.in-Some.first.now c.loop-first.rest.now c.in-Some.others.now (map (pair_at (map (values_in all) c.args.pairs.now)) c.args.places.now)
      c.in_ok-push.ensures.items c.in-Some.ensures.cases.0 (c.pair_at.ensures.values all) (c.loop-first.invariant.values all);
  live = λ all live. All-same (AreLive all)
      _ _ c.in_ok-push.ensures.items (All-push (AreLive all) _ _ (c.loop-first.invariant.live all live) (c.pair_at.ensures.live all live));
}

pub returns-clause-values : goal.returns-clause-values
returns-clause-values c = λ all. all_taken (values_in all) (pair_at (map (values_in all) c.args.pairs.now)) c.loop-first.found.items c.loop-first.rest.now
    (map (pair_at (map (values_in all) c.args.pairs.now)) c.args.places.now) c.in_default.ensures.cases (c.loop-first.invariant.values all)

pub returns-clause-live : goal.returns-clause-live
returns-clause-live c = c.loop-first.invariant.live
