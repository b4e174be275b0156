use Rattle.std.proofs.Common.{◌∙◌, sym}
use Rattle.icn_strings.proofs.GatheredRuns.{closed_is_of, last_is_of}
use Rattle.icn_strings.proofs.region.Region.is_together.Goals as goal

pub returns-then-holds : goal.returns-then-holds
returns-then-holds c = λ is. last_is_of c.args.self.now c.args.range (sym c.holds.ensures ∙ c.if-holds.true)

pub has-requires-clause-order : goal.has-requires-clause-order
has-requires-clause-order c = c.args.self.now.sound.order

pub returns : goal.returns
returns c = λ is. closed_is_of c.args.self.now c.args.range (sym c.has.ensures ∙ is)
