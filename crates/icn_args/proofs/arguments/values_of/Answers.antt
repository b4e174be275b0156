use Rattle.std.proofs.Common.{map}
use Rattle.std.proofs.lemmas.List.Elements.{All-push, All-rest, All-same}
use Rattle.icn_heap.specs.Extents.{IsLive, value_in}
use Rattle.icn_heap.specs.Heaps.{extent_of}
use Rattle.icn_vars.specs.Worlds.{IsLiveItem, reach_of, setting_of}
use Rattle.icn_args.proofs.ItemValues.{gather_all, gather_next, gather_stops}
use Rattle.icn_args.proofs.arguments.values_of.Goals as goal

pub returns-in_err-val-clause-found : goal.returns-in_err-val-clause-found
returns-in_err-val-clause-found g c = λ outside.
    gather_stops (extent_of c.args.w.now.heap) (setting_of outside c.args.w.now (g.L.Locals.items c.args.l.now)) c.args.items.now
    (map (value_in (extent_of c.args.w.now.heap)) c.loop-first.vals.items) c.in-Some.first.now c.in-Some.others.now c.loop-first.rest.now
    (λ vals. map (value_in (extent_of c.args.w.now.heap)) vals.items) c.in_err-val.field-0.0 c.from_residual.result c.from_residual.ensures.1
    c.in-Some.ensures.cases.0 (c.loop-first.invariant.is outside) (c.in_err-val.ensures.value outside)

pub loop-first-preserved : goal.loop-first-preserved
loop-first-preserved g c = record {
  live = All-same (IsLive (extent_of c.args.w.now.heap))
      _ _ c.in_ok-add_value.ensures (All-push (IsLive (extent_of c.args.w.now.heap)) _ _ c.loop-first.invariant.live c.in_ok-val.ensures.live);
  left = All-rest (IsLiveItem (reach_of c.args.w.now (g.L.Locals.items c.args.l.now))) _ _ _ c.in-Some.ensures.cases.0 c.loop-first.invariant.left;
  is = λ outside.
      gather_next (extent_of c.args.w.now.heap) (setting_of outside c.args.w.now (g.L.Locals.items c.args.l.now)) c.args.items.now c.loop-first.vals.items
      c.add_value.new.vals.items c.in_ok-val.val c.in-Some.first.now c.in-Some.others.now c.loop-first.rest.now
      c.in-Some.ensures.cases.0 c.in_ok-add_value.ensures (c.loop-first.invariant.is outside) (c.in_ok-val.ensures.value outside);
}

pub returns-clause-found : goal.returns-clause-found
returns-clause-found g c = λ outside.
    gather_all (extent_of c.args.w.now.heap) (setting_of outside c.args.w.now (g.L.Locals.items c.args.l.now)) c.args.items.now
    (map (value_in (extent_of c.args.w.now.heap)) c.loop-first.vals.items) c.loop-first.rest.now c.in_default.ensures.cases (c.loop-first.invariant.is outside)
