use Rattle.std.proofs.Common.{sym, ◌∙◌}
use Rattle.icn_machine.proofs.CountSteps.{count_ended, count_given, count_live, count_named}
use Rattle.icn_machine.proofs.counts.give_count.Goals as goal

pub returns-then-counts_on-clause-gives : goal.returns-then-counts_on-clause-gives
returns-then-counts_on-clause-gives g c =
    count_given c.args.frames.now.flat c.suspend_count.new.self.flat c.args.count (sym c.counts_on.ensures ∙ c.if-counts_on.true)
    c.in_ok-suspend_count.ensures.ok

pub returns-then-counts_on-clause-live : goal.returns-then-counts_on-clause-live
returns-then-counts_on-clause-live g c t reach l =
    count_live c.args.frames.now.flat c.suspend_count.new.self.flat c.args.count c.in_ok-suspend_count.ensures.ok t reach l

pub returns-then-counts_on-clause-named : goal.returns-then-counts_on-clause-named
returns-then-counts_on-clause-named g c names all h =
    count_named c.args.frames.now.flat c.suspend_count.new.self.flat c.args.count c.in_ok-suspend_count.ensures.ok names all h

pub returns-clause-gives : goal.returns-clause-gives
returns-clause-gives g c = count_ended c.args.frames.now.flat c.args.count (sym c.counts_on.ensures ∙ c.if-counts_on.false)
