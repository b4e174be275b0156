use Rattle.std.proofs.Common.{ap}
use Rattle.icn_value.specs.Values.{Chars}
use Rattle.icn_scanfn.proofs.BracketSets.{opening_members}
use Rattle.icn_scanfn.proofs.defaults.or_opening.Goals as goal

pub returns-in-Null-clause-value : goal.returns-in-Null-clause-value
returns-in-Null-clause-value c all = rw c.in-Null.is (ap Chars (opening_members c.empty.result c.with.result c.empty.ensures c.with.ensures))
