use Rattle.std.proofs.Common.{ap}
use Rattle.icn_value.specs.Values.{Chars}
use Rattle.icn_scanfn.proofs.BracketSets.{all_members}
use Rattle.icn_scanfn.proofs.defaults.or_all_bytes.Goals as goal

pub returns-in-Null-clause-value : goal.returns-in-Null-clause-value
returns-in-Null-clause-value c all = rw c.in-Null.is (ap Chars (all_members c.empty.result c.other.result c.empty.ensures c.other.ensures))
