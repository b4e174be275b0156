use Rattle.icn_units.proofs.RulesKept.{unit_keeps_rules}
use Rattle.icn_units.proofs.code_laws.units_keep_rules.Goals as goal

pub returns : goal.returns
returns c file spelled faultless numbers bytes = unit_keeps_rules file spelled faultless numbers bytes
