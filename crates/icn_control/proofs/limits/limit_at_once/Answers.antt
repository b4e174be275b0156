use Rattle.std.proofs.Common.{◌<◌, None, sym, subst, arith}
use Rattle.icn_frames.specs.Stacks.{FlatStack}
use Rattle.icn_control.specs.LiveStacks.{IsLiveStack}
use Rattle.icn_control.proofs.LiveCalls.{live_limit, live_pop}
use Rattle.icn_control.proofs.PlainValueSteps.{limit_fails, limit_opens, limit_taken, one_above}
use Rattle.icn_control.proofs.limits.limit_at_once.Goals as goal

pub drop_with-requires : goal.drop_with-requires
drop_with-requires g c = one_above c.args.frames.now.flat c.requires

pub returns-then-count-eq0-clause-step : goal.returns-then-count-eq0-clause-step
returns-then-count-eq0-clause-step g c w =
    let taken = limit_taken c.args.frames.now.flat c.drop_with.new.self.flat c.top-slot.result c.in-Some.count c.drop_with.ensures.drops c.in-Some.ensures
    c.top-slot.ensures in
    limit_fails w c.args.frames.now.flat c.drop_with.new.self.flat c.in-Some.count taken c.if-count-eq0.true

pub returns-then-count-eq0-clause-live : goal.returns-then-count-eq0-clause-live
returns-then-count-eq0-clause-live g c t reach k =
    let taken = limit_taken c.args.frames.now.flat c.drop_with.new.self.flat c.top-slot.result c.in-Some.count c.drop_with.ensures.drops c.in-Some.ensures
    c.top-slot.ensures in
    (live_pop t reach c.args.frames.now.flat c.drop_with.new.self.flat taken.item taken.pops k).rest

pub open_limit-requires : goal.open_limit-requires
open_limit-requires g c = omega (arith, c.drop_with.ensures.spare)

pub returns-clause-step : goal.returns-clause-step
returns-clause-step g c w =
    let taken = limit_taken c.args.frames.now.flat c.drop_with.new.self.flat c.top-slot.result c.in-Some.count c.drop_with.ensures.drops c.in-Some.ensures
    c.top-slot.ensures in
    limit_opens w c.args.frames.now.flat c.drop_with.new.self.flat c.open_limit.new.frames.flat c.in-Some.count taken c.if-count-eq0.false c.open_limit.ensures

pub returns-clause-live : goal.returns-clause-live
returns-clause-live g c t reach k =
    let taken = limit_taken c.args.frames.now.flat c.drop_with.new.self.flat c.top-slot.result c.in-Some.count c.drop_with.ensures.drops c.in-Some.ensures
    c.top-slot.ensures in
    let rest = (live_pop t reach c.args.frames.now.flat c.drop_with.new.self.flat taken.item taken.pops k).rest in
    let more : 0 < c.in-Some.count = omega (arith, c.if-count-eq0.false) in
    subst (λ (x : FlatStack). IsLiveStack t reach x) (sym c.open_limit.ensures)
    (live_limit t reach c.drop_with.new.self.flat None c.in-Some.count more rest)
