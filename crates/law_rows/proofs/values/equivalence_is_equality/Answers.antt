use Rattle.icn_value.proofs.SameValues.{same_equiv, same_is}
use Rattle.law_rows.proofs.values.equivalence_is_equality.Goals as goal

pub returns-clause-equivalence : goal.returns-clause-equivalence
returns-clause-equivalence c = same_equiv

pub returns-clause-equality : goal.returns-clause-equality
returns-clause-equality c = same_is
