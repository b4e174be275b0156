use Rattle.std.proofs.Common.{[], ap, ◌∙◌}
use Rattle.icn_unit.specs.PlainUnits.{owned_names}
use Rattle.icn_link.specs.FirstMentions.{with_texts}
use Rattle.icn_link.specs.Units.{units_seen}
use Rattle.icn_link.specs.Views.{texts_seen}
use Rattle.icn_link.proofs.RuleByRule.{list_fault, list_kept}
use Rattle.icn_link.proofs.CalledNames.{unknown_same}
use Rattle.icn_link.proofs.invocables.check_invocables.Goals as goal

pub returns-clause-none : goal.returns-clause-none
returns-clause-none c =
    list_kept c.check_all.result _ _ (unknown_same (texts_seen c.in_ok-owned.owned.keys) (units_seen c.args.units.now)
    (c.in_ok-owned.ensures ∙ ap (λ decls. with_texts [] (owned_names decls)) c.requires.decls))
    c.check_all.ensures.none

pub returns-clause-fault : goal.returns-clause-fault
returns-clause-fault c =
    list_fault c.check_all.result _ _ (unknown_same (texts_seen c.in_ok-owned.owned.keys) (units_seen c.args.units.now)
    (c.in_ok-owned.ensures ∙ ap (λ decls. with_texts [] (owned_names decls)) c.requires.decls))
    c.check_all.ensures.fault
