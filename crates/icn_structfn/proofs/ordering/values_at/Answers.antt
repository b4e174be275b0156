use Rattle.std.proofs.Common.{map}
use Rattle.std.proofs.lemmas.List.Elements.{All-push, All-same}
use Rattle.icn_defs.specs.Arguments.{arg}
use Rattle.icn_heap.specs.Extents.{IsLive, value_in}
use Rattle.icn_structfn.proofs.SortedPlaces.{all_taken, one_taken}
use Rattle.icn_structfn.proofs.ordering.values_at.Goals as goal

pub loop-first-preserved : goal.loop-first-preserved
loop-first-preserved c = record {
  values = λ all. one_taken (value_in all) (arg (map (value_in all) c.args.vals.now)) c.loop-first.found.items c.push.new.self.items c.arg.result
      c.in-Some.first.now c.loop-first.rest.now c.in-Some.others.now (map (arg (map (value_in all) c.args.vals.now)) c.args.places.now)
      c.in_ok-push.ensures.items c.in-Some.ensures.cases.0 (c.arg.ensures.value all) (c.loop-first.invariant.values all);
  live = λ all live.
      All-same (IsLive all) _ _ c.in_ok-push.ensures.items (All-push (IsLive all) _ _ (c.loop-first.invariant.live all live) (c.arg.ensures.live all live));
}

pub returns-clause-values : goal.returns-clause-values
returns-clause-values c = λ all. all_taken (value_in all) (arg (map (value_in all) c.args.vals.now)) c.loop-first.found.items c.loop-first.rest.now
    (map (arg (map (value_in all) c.args.vals.now)) c.args.places.now) c.in_default.ensures.cases (c.loop-first.invariant.values all)

pub returns-clause-live : goal.returns-clause-live
returns-clause-live c = c.loop-first.invariant.live
