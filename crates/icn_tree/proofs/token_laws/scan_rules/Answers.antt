use Rattle.icn_tree.proofs.KeptByScans.{rule_of_scan}
use Rattle.icn_tree.proofs.token_laws.scan_rules.Goals as goal

pub returns : goal.returns
returns c = rule_of_scan
