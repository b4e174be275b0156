use Rattle.std.proofs.Common.{◌≡◌, arith}
use Rattle.icn_control.proofs.LiveSets.{live_more, live_last_result}
use Rattle.icn_control.proofs.StackSteps.{lsusp_more, lsusp_last}
use Rattle.icn_control.proofs.on_stack.give_limited.Goals as goal

pub returns-then-count_down-gt0-clause-step : goal.returns-then-count_down-gt0-clause-step
returns-then-count_down-gt0-clause-step g c =
    lsusp_more c.args.frames.now.flat c.pop-x.new.self.flat c.count_down.new.self.flat c.suspend.new.self.flat c.pop-x.result c.count_down.result
    c.pop-x.ensures.flat c.count_down.ensures.flat c.if-count_down-gt0.true
    c.in_ok-suspend.ensures.ok

pub returns-then-count_down-gt0-clause-live : goal.returns-then-count_down-gt0-clause-live
returns-then-count_down-gt0-clause-live g c t reach k =
    live_more t reach c.args.frames.now.flat c.pop-x.new.self.flat c.count_down.new.self.flat c.suspend.new.self.flat c.pop-x.result c.count_down.result
    c.pop-x.ensures.flat c.count_down.ensures.flat
    c.if-count_down-gt0.true c.in_ok-suspend.ensures.ok k

pub returns-clause-step : goal.returns-clause-step
returns-clause-step g c =
    let zero_is : c.count_down.result ≡ 0 = omega (arith, c.if-count_down-gt0.false) in
    lsusp_last c.args.frames.now.flat c.pop-x.new.self.flat c.count_down.new.self.flat c.unmark-pair.new.self.flat c.push.new.self.flat c.pop-x.result
    c.count_down.result c.unmark-pair.result c.pop-x.ensures.flat
    c.count_down.ensures.flat zero_is c.unmark-pair.ensures.flat c.in_ok-push.ensures.ok

pub returns-clause-live : goal.returns-clause-live
returns-clause-live g c t reach k =
    (live_last_result t reach c.args.frames.now.flat c.pop-x.new.self.flat c.count_down.new.self.flat c.unmark-pair.new.self.flat c.push.new.self.flat
    c.pop-x.result c.count_down.result c.unmark-pair.result
    c.pop-x.ensures.flat c.count_down.ensures.flat c.unmark-pair.ensures.flat c.in_ok-push.ensures.ok k).rest

pub returns-clause-pair : goal.returns-clause-pair
returns-clause-pair g c t reach k =
    (live_last_result t reach c.args.frames.now.flat c.pop-x.new.self.flat c.count_down.new.self.flat c.unmark-pair.new.self.flat c.push.new.self.flat
    c.pop-x.result c.count_down.result c.unmark-pair.result
    c.pop-x.ensures.flat c.count_down.ensures.flat c.unmark-pair.ensures.flat c.in_ok-push.ensures.ok k).pair_live
