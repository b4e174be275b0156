use Rattle.std.proofs.Common.{true}
use Rattle.icn_strings.proofs.region.Region.stays.Goals as goal

pub returns-then-is_empty-clause-none : goal.returns-then-is_empty-clause-none
returns-then-is_empty-clause-none c = λ _. c.is_empty.ensures c.if-is_empty.true
