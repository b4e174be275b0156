use Rattle.std.proofs.Common.{sym, map}
use Rattle.std.proofs.lemmas.List.Elements.{All-head, All-push, All-rest, All-same}
use Rattle.icn_heap.specs.Extents.{AreLive, IsLive, values_in}
use Rattle.icn_structfn.specs.Sorting.{in_turn}
use Rattle.icn_structfn.proofs.SortRows.{all_turned, one_turned}
use Rattle.icn_structfn.proofs.sorting.interleave_pairs.Goals as goal

pub loop-first-preserved : goal.loop-first-preserved
loop-first-preserved c = record {
  values = λ all. one_turned all c.loop-first.vals.items c.add.new.vals.items c.add-in-Some.new.vals.items c.in-Some.first.now c.loop-first.rest.now
      c.in-Some.others.now (in_turn (map (values_in all) c.args.pairs.now))
      c.in_ok-add.ensures c.in_ok-add-2.ensures c.in-Some.ensures.cases.0 (c.loop-first.invariant.values all);
  left = λ all live. All-rest (AreLive all) _ _ _ c.in-Some.ensures.cases.0 (c.loop-first.invariant.left all live);
  live = λ all live.
      let here : AreLive all c.in-Some.first.now = All-head (AreLive all) c.in-Some.first.now c.in-Some.others.now
      (All-same (AreLive all) _ _ (sym c.in-Some.ensures.cases.0) (c.loop-first.invariant.left all live)) in
      All-same (IsLive all) _ _ c.in_ok-add-2.ensures (All-push (IsLive all)
      _ _ (All-same (IsLive all) _ _ c.in_ok-add.ensures (All-push (IsLive all) _ _ (c.loop-first.invariant.live all live) here.first)) here.second);
}

pub returns-clause-values : goal.returns-clause-values
returns-clause-values c = λ all. all_turned all c.loop-first.vals.items c.loop-first.rest.now
    (in_turn (map (values_in all) c.args.pairs.now)) c.in_default.ensures.cases (c.loop-first.invariant.values all)

pub returns-clause-live : goal.returns-clause-live
returns-clause-live c = c.loop-first.invariant.live
