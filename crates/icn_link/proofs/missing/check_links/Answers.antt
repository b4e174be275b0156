use Rattle.icn_link.specs.Units.{units_seen}
use Rattle.icn_link.specs.Views.{texts_seen}
use Rattle.icn_link.proofs.RuleByRule.{list_fault, list_kept}
use Rattle.icn_link.proofs.LinkTexts.{missing_same}
use Rattle.icn_link.proofs.missing.check_links.Goals as goal

pub returns-clause-none : goal.returns-clause-none
returns-clause-none c =
    list_kept c.check_all.result _ _ (missing_same (texts_seen c.in_ok-names.names.keys) (units_seen c.args.units.now) c.in_ok-names.ensures)
    c.check_all.ensures.none

pub returns-clause-fault : goal.returns-clause-fault
returns-clause-fault c =
    list_fault c.check_all.result _ _ (missing_same (texts_seen c.in_ok-names.names.keys) (units_seen c.args.units.now) c.in_ok-names.ensures)
    c.check_all.ensures.fault
