use Rattle.std.proofs.Common.{ap}
use Rattle.icn_value.specs.Values.{Chars}
use Rattle.icn_strfn.proofs.Trims.{blank_members}
use Rattle.icn_strfn.proofs.defaults.or_blank.Goals as goal

pub returns-in-Null-clause-value : goal.returns-in-Null-clause-value
returns-in-Null-clause-value c all = rw c.in-Null.is (ap Chars (blank_members c.empty.result c.with.result c.empty.ensures c.with.ensures))
