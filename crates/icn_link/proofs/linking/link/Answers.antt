use Rattle.std.proofs.Common.{ap, ◌∙◌}
use Rattle.std.specs.Prelude.{codes}
use Rattle.std.specs.List.{flat_map, list_all, list_any}
use Rattle.std.specs.Str.{bytes_eq}
use Rattle.icn_link.specs.JoinableUnits.{is_joinable_decl, is_joinable_proc}
use Rattle.icn_link.specs.LinkFaults.{IsFault, first_fault}
use Rattle.icn_link.specs.Mentions.{invocable_in}
use Rattle.icn_link.specs.Units.{units_seen}
use Rattle.icn_link.specs.Views.{decls_seen, procs_seen}
use Rattle.icn_link.proofs.CalledNames.{units_named}
use Rattle.icn_link.proofs.RuleByRule.{if_err_known}
use Rattle.icn_link.proofs.KeptUnits.{units_decls, units_joinable, units_procs}
use Rattle.icn_link.proofs.LinkRules.{missing_exit, repeated_exit, sizes_exit, units_few, units_joined, units_kept, unknown_exit}
use Rattle.icn_link.proofs.linking.link.Goals as goal

pub returns-in_err-check_links-clause-fault : goal.returns-in_err-check_links-clause-fault
returns-in_err-check_links-clause-fault c =
    if_err_known c.from_residual.result (IsFault (first_fault (units_seen c.args.units.now))) c.in_err-check_links.field-0.0 c.from_residual.ensures.1
    (missing_exit (units_seen c.args.units.now) c.in_err-check_links.field-0.0 c.in_err-check_links.ensures.fault)

pub returns-in_err-check_owners-clause-fault : goal.returns-in_err-check_owners-clause-fault
returns-in_err-check_owners-clause-fault c =
    if_err_known c.from_residual-in_err-check_owners.result
    (IsFault (first_fault (units_seen c.args.units.now))) c.in_err-check_owners.field-0.0 c.from_residual-in_err-check_owners.ensures.1
    (repeated_exit (units_seen c.args.units.now) c.in_err-check_owners.field-0.0 c.in_ok-check_links.ensures.none c.in_err-check_owners.ensures.fault)

pub returns-in_err-check_invocables-clause-fault : goal.returns-in_err-check_invocables-clause-fault
returns-in_err-check_invocables-clause-fault c =
    if_err_known c.from_residual-in_err-check_invocables.result
    (IsFault (first_fault (units_seen c.args.units.now))) c.in_err-check_invocables.field-0.0 c.from_residual-in_err-check_invocables.ensures.1
    (unknown_exit (units_seen c.args.units.now) c.in_err-check_invocables.field-0.0 c.in_ok-check_links.ensures.none
    c.in_ok-check_owners.ensures.none c.in_err-check_invocables.ensures.fault)

pub join-requires-clause-decls : goal.join-requires-clause-decls
join-requires-clause-decls c = ap (list_all is_joinable_decl) (ap decls_seen c.deref-2.ensures.value ∙ c.in_ok-decls.ensures)
    ∙ units_decls (units_seen c.args.units.now) (units_joinable c.args.units.now)

pub join-requires-clause-procs : goal.join-requires-clause-procs
join-requires-clause-procs c = ap (list_all is_joinable_proc) (ap procs_seen c.deref-3.ensures.value ∙ c.in_ok-procs.ensures)
    ∙ units_procs (units_seen c.args.units.now) (units_joinable c.args.units.now)

pub returns-in_err-code-clause-fault : goal.returns-in_err-code-clause-fault
returns-in_err-code-clause-fault c =
    if_err_known c.from_residual-in_err-code.result
    (IsFault (first_fault (units_seen c.args.units.now))) c.in_err-code.field-0.0 c.from_residual-in_err-code.ensures.1
    (sizes_exit (units_seen c.args.units.now) (decls_seen c.deref-2.result.now) (procs_seen c.deref-3.result.now) c.in_err-code.field-0.0
    (ap decls_seen c.deref-2.ensures.value ∙ c.in_ok-decls.ensures) (ap procs_seen c.deref-3.ensures.value ∙ c.in_ok-procs.ensures)
    c.in_ok-check_links.ensures.none c.in_ok-check_owners.ensures.none c.in_ok-check_invocables.ensures.none c.in_err-code.ensures.fault)

pub returns-clause-joined : goal.returns-clause-joined
returns-clause-joined c =
    c.in_ok-code.ensures.joined
    ∙ units_joined (units_seen c.args.units.now) (decls_seen c.deref-2.result.now) (procs_seen c.deref-3.result.now)
    (ap decls_seen c.deref-2.ensures.value ∙ c.in_ok-decls.ensures) (ap procs_seen c.deref-3.ensures.value ∙ c.in_ok-procs.ensures)

pub returns-clause-fits : goal.returns-clause-fits
returns-clause-fits c =
    units_kept (units_seen c.args.units.now) (decls_seen c.deref-2.result.now) (procs_seen c.deref-3.result.now)
    (ap decls_seen c.deref-2.ensures.value ∙ c.in_ok-decls.ensures) (ap procs_seen c.deref-3.ensures.value ∙ c.in_ok-procs.ensures)
    c.in_ok-check_links.ensures.none c.in_ok-check_owners.ensures.none c.in_ok-check_invocables.ensures.none c.in_ok-code.ensures.fits

pub numbers_named-requires : goal.numbers_named-requires
numbers_named-requires c = record {
  procs = units_few (units_seen c.args.units.now) (decls_seen c.deref-2.result.now) (procs_seen c.deref-3.result.now) (procs_seen c.deref-5.result.now)
      (ap decls_seen c.deref-2.ensures.value ∙ c.in_ok-decls.ensures) (ap procs_seen c.deref-3.ensures.value ∙ c.in_ok-procs.ensures)
      (ap procs_seen c.deref-5.ensures.value ∙ c.in_ok-procs.ensures) (units_joinable c.args.units.now) c.in_ok-code.ensures.fits;
}

pub returns-clause-named : goal.returns-clause-named
returns-clause-named c =
    c.in_ok-named.ensures
    ∙ units_named (units_seen c.args.units.now) (decls_seen c.deref-4.result.now) (procs_seen c.deref-5.result.now)
    (ap decls_seen c.deref-4.ensures.value ∙ c.in_ok-decls.ensures) (ap procs_seen c.deref-5.ensures.value ∙ c.in_ok-procs.ensures)

pub returns-clause-all : goal.returns-clause-all
returns-clause-all c =
    c.names_all-all.ensures
    ∙ ap (λ decls. list_any (bytes_eq (codes "all")) (flat_map invocable_in decls)) (ap decls_seen c.deref-6.ensures.value ∙ c.in_ok-decls.ensures)
