use Rattle.icn_machine.proofs.GiveSteps.{fails_given, gives_given, gives_live, gives_named, suspends_given, suspends_live, suspends_named}
use Rattle.icn_machine.proofs.giving.give_outcome.Goals as goal

pub returns-in-Fails-clause-gives : goal.returns-in-Fails-clause-gives
returns-in-Fails-clause-gives g c = fails_given c.args.outcome c.args.frames.now.flat c.in-Fails.is

pub returns-in_ok-push-in-Gives-clause-gives : goal.returns-in_ok-push-in-Gives-clause-gives
returns-in_ok-push-in-Gives-clause-gives g c =
    gives_given c.args.outcome c.in-Gives.item c.args.frames.now.flat c.push.new.self.flat c.in-Gives.is c.in_ok-push-in-Gives.ensures.ok

pub returns-in_ok-push-in-Gives-clause-live : goal.returns-in_ok-push-in-Gives-clause-live
returns-in_ok-push-in-Gives-clause-live g c tables reach l i =
    gives_live tables reach c.args.outcome c.in-Gives.item c.args.frames.now.flat c.push.new.self.flat c.in-Gives.is c.in_ok-push-in-Gives.ensures.ok l i

pub returns-in_ok-push-in-Gives-clause-named : goal.returns-in_ok-push-in-Gives-clause-named
returns-in_ok-push-in-Gives-clause-named g c names all seen h o =
    gives_named names all seen c.args.outcome c.in-Gives.item c.args.frames.now.flat c.push.new.self.flat c.in-Gives.is c.in_ok-push-in-Gives.ensures.ok h o

pub returns-in_ok-suspend-in-Suspends-clause-gives : goal.returns-in_ok-suspend-in-Suspends-clause-gives
returns-in_ok-suspend-in-Suspends-clause-gives g c =
    suspends_given c.args.outcome c.in-Suspends.item c.in-Suspends.rest c.args.frames.now.flat c.suspend.new.self.flat c.in-Suspends.is
    c.in_ok-suspend-in-Suspends.ensures.ok

pub returns-in_ok-suspend-in-Suspends-clause-live : goal.returns-in_ok-suspend-in-Suspends-clause-live
returns-in_ok-suspend-in-Suspends-clause-live g c tables reach l i =
    suspends_live tables reach c.args.outcome c.in-Suspends.item c.in-Suspends.rest c.args.frames.now.flat c.suspend.new.self.flat c.in-Suspends.is
    c.in_ok-suspend-in-Suspends.ensures.ok l i

pub returns-in_ok-suspend-in-Suspends-clause-named : goal.returns-in_ok-suspend-in-Suspends-clause-named
returns-in_ok-suspend-in-Suspends-clause-named g c names all seen h o =
    suspends_named names all seen c.args.outcome c.in-Suspends.item c.in-Suspends.rest c.args.frames.now.flat c.suspend.new.self.flat c.in-Suspends.is
    c.in_ok-suspend-in-Suspends.ensures.ok h o
