use Rattle.std.proofs.lemmas.Int.{to_z-of_z}
use Rattle.std.proofs.Common.{◌<◌, [], None, FitsSigned, w64, rules, sym, ap, ◌∙◌, subst, arith}
use Rattle.icn_vars.specs.Worlds.{Reach, reach_of}
use Rattle.icn_frames.specs.Stacks.{FlatStack}
use Rattle.icn_control.specs.LiveStacks.{IsLiveStack}
use Rattle.icn_control.specs.StackAndWorld.{natural_of}
use Rattle.icn_control.proofs.LiveCalls.{live_pop, live_limit}
use Rattle.icn_control.proofs.StackAndWorldSteps.{limit_err, limit_none, limit_below, limit_zero, limit_more}
use Rattle.icn_control.proofs.Halts.{unless_ended}
use Rattle.icn_control.proofs.limits.limit.Goals as goal

pub returns-in_err-v-clause-step : goal.returns-in_err-v-clause-step
returns-in_err-v-clause-step g c =
    limit_err c.from_residual.result c.args.world.now c.args.frames.now.flat c.pop-x.new.self.flat c.value_of.new.frames.flat c.pop-x.result
    c.in_err-v.field-0.0 c.from_residual.ensures.1 c.pop-x.ensures.flat c.value_of.ensures.same c.in_err-v.ensures.value

pub returns-in_default-clause-step : goal.returns-in_default-clause-step
returns-in_default-clause-step g c =
    limit_none c.args.world.now c.args.frames.now.flat c.pop-x.new.self.flat c.value_of.new.frames.flat c.pop-x.result c.in_ok-v.v c.pop-x.ensures.flat
    c.in_ok-v.ensures.value (sym c.in_default.is ∙ c.to_integer.ensures) c.value_of.ensures.same

pub returns-in_default-count_of-clause-step : goal.returns-in_default-count_of-clause-step
returns-in_default-count_of-clause-step g c =
    let fits : FitsSigned w64 c.in-Some.n = search rules in
    limit_below c.args.world.now c.args.frames.now.flat c.pop-x.new.self.flat c.value_of.new.frames.flat c.pop-x.result c.in_ok-v.v c.pop-x.ensures.flat
    c.in_ok-v.ensures.value
    c.in-Some.n (sym c.in-Some.is ∙ c.to_integer.ensures)
    (sym c.in_default-count_of.is ∙ c.count_of.ensures ∙ ap natural_of (to_z-of_z w64 c.in-Some.n fits)) c.value_of.ensures.same

pub returns-then-count-eq0-clause-step : goal.returns-then-count-eq0-clause-step
returns-then-count-eq0-clause-step g c =
    let fits : FitsSigned w64 c.in-Some.n = search rules in
    limit_zero c.args.world.now c.args.frames.now.flat c.pop-x.new.self.flat c.value_of.new.frames.flat c.pop-x.result c.in_ok-v.v c.pop-x.ensures.flat
    c.in_ok-v.ensures.value c.in-Some.n (sym c.in-Some.is ∙ c.to_integer.ensures)
    c.in-Some-count_of.count
    (sym c.in-Some-count_of.is ∙ c.count_of.ensures ∙ ap natural_of (to_z-of_z w64 c.in-Some.n fits)) c.if-count-eq0.true c.value_of.ensures.same

pub returns-in_err-v-clause-live : goal.returns-in_err-v-clause-live
returns-in_err-v-clause-live g c t k =
    unless_ended c.from_residual.result (IsLiveStack t (reach_of c.args.world.now []) c.value_of.new.frames.flat)
    (subst (λ (x : FlatStack). IsLiveStack t (reach_of c.args.world.now []) x) (sym c.value_of.ensures.same)
    (live_pop t (reach_of c.args.world.now []) c.args.frames.now.flat c.pop-x.new.self.flat c.pop-x.result c.pop-x.ensures.flat k).rest)

pub returns-in_default-clause-live : goal.returns-in_default-clause-live
returns-in_default-clause-live g c t k =
    subst (λ (x : FlatStack). IsLiveStack t (reach_of c.args.world.now []) x) (sym c.value_of.ensures.same)
    (live_pop t (reach_of c.args.world.now []) c.args.frames.now.flat c.pop-x.new.self.flat c.pop-x.result c.pop-x.ensures.flat k).rest

pub returns-in_default-count_of-clause-live : goal.returns-in_default-count_of-clause-live
returns-in_default-count_of-clause-live g c t k =
    subst (λ (x : FlatStack). IsLiveStack t (reach_of c.args.world.now []) x) (sym c.value_of.ensures.same)
    (live_pop t (reach_of c.args.world.now []) c.args.frames.now.flat c.pop-x.new.self.flat c.pop-x.result c.pop-x.ensures.flat k).rest

pub returns-then-count-eq0-clause-live : goal.returns-then-count-eq0-clause-live
returns-then-count-eq0-clause-live g c t k =
    subst (λ (x : FlatStack). IsLiveStack t (reach_of c.args.world.now []) x) (sym c.value_of.ensures.same)
    (live_pop t (reach_of c.args.world.now []) c.args.frames.now.flat c.pop-x.new.self.flat c.pop-x.result c.pop-x.ensures.flat k).rest

pub returns-clause-step : goal.returns-clause-step
returns-clause-step g c =
    let fits : FitsSigned w64 c.in-Some.n = search rules in
    limit_more c.args.world.now c.args.frames.now.flat c.pop-x.new.self.flat c.value_of.new.frames.flat c.open_limit.new.frames.flat c.pop-x.result c.in_ok-v.v
    c.pop-x.ensures.flat c.in_ok-v.ensures.value c.in-Some.n
    (sym c.in-Some.is ∙ c.to_integer.ensures) c.in-Some-count_of.count (sym c.in-Some-count_of.is ∙ c.count_of.ensures
    ∙ ap natural_of (to_z-of_z w64 c.in-Some.n fits)) c.if-count-eq0.false c.value_of.ensures.same c.open_limit.ensures

pub returns-clause-live : goal.returns-clause-live
returns-clause-live g c t k =
    let reach : Reach = reach_of c.args.world.now [] in
    let rest = (live_pop t reach c.args.frames.now.flat c.pop-x.new.self.flat c.pop-x.result c.pop-x.ensures.flat k).rest in
    let here : IsLiveStack t reach c.value_of.new.frames.flat = subst (λ (x : FlatStack). IsLiveStack t reach x) (sym c.value_of.ensures.same) rest in
    let more : 0 < c.in-Some-count_of.count = omega (arith, c.if-count-eq0.false) in
    subst (λ (x : FlatStack). IsLiveStack t reach x) (sym c.open_limit.ensures)
    (live_limit t reach c.value_of.new.frames.flat None c.in-Some-count_of.count more here)
