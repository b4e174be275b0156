use Rattle.std.proofs.Common.{ap}
use Rattle.icn_value.specs.declared.item.Item.TheVariants as Items
use Rattle.icn_vars.specs.Outcomes.{outcome_of}
use Rattle.icn_machine.proofs.GiveSteps.{fails_given, gives_given, gives_live, gives_named}
use Rattle.icn_machine.proofs.giving.give_value.Goals as goal

pub returns-in-Fails-clause-gives : goal.returns-in-Fails-clause-gives
returns-in-Fails-clause-gives g c = fails_given (outcome_of c.args.given) c.args.frames.now.flat (ap outcome_of c.in-Fails.is)

pub returns-in_ok-push_value-in-Gives-clause-gives : goal.returns-in_ok-push_value-in-Gives-clause-gives
returns-in_ok-push_value-in-Gives-clause-gives g c =
    gives_given (outcome_of c.args.given) (Items.Val c.in-Gives.val) c.args.frames.now.flat c.push_value.new.self.flat (ap outcome_of c.in-Gives.is) c.in_ok-push_value-in-Gives.ensures.ok

pub returns-in_ok-push_value-in-Gives-clause-live : goal.returns-in_ok-push_value-in-Gives-clause-live
returns-in_ok-push_value-in-Gives-clause-live g c tables reach l i =
    gives_live tables reach (outcome_of c.args.given) (Items.Val c.in-Gives.val) c.args.frames.now.flat c.push_value.new.self.flat (ap outcome_of c.in-Gives.is) c.in_ok-push_value-in-Gives.ensures.ok l i

pub returns-in_ok-push_value-in-Gives-clause-named : goal.returns-in_ok-push_value-in-Gives-clause-named
returns-in_ok-push_value-in-Gives-clause-named g c names all seen h o =
    gives_named names all seen (outcome_of c.args.given) (Items.Val c.in-Gives.val) c.args.frames.now.flat c.push_value.new.self.flat (ap outcome_of c.in-Gives.is) c.in_ok-push_value-in-Gives.ensures.ok h o
