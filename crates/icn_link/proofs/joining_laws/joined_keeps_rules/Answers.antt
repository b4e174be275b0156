use Rattle.icn_link.proofs.JoinedUnits.{kept_units_keep, units_keep}
use Rattle.icn_link.proofs.joining_laws.joined_keeps_rules.Goals as goal

pub returns-clause-joinable : goal.returns-clause-joinable
returns-clause-joinable c units all none = units_keep units all none

pub returns-clause-kept : goal.returns-clause-kept
returns-clause-kept c units kept none = kept_units_keep units kept none
