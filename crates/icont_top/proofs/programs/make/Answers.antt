use Rattle.std.proofs.Common.{◌≡◌, None, ◌∙◌, ap, subst, true}
use Rattle.std.proofs.lemmas.Result.{err_from_is_err_and}
use Rattle.icn_code.specs.CodeTables.{tables_of}
use Rattle.icn_code.specs.Rules.{keeps_rules}
use Rattle.icn_image.specs.Spelling.{image_of}
use Rattle.icn_link.specs.LinkFaults.{first_fault}
use Rattle.icn_link.specs.Joined.{joined_code}
use Rattle.icn_link.specs.Units.{units_seen}
use Rattle.law_link.specs.PrunedUnits.{pruned_code}
use Rattle.icont_top.specs.declared.programs.MadeProgram.{MadeProgram}
use Rattle.icont_top.specs.MadeUnits.{RefusesLink}
use Rattle.icont_top.proofs.UnitPrograms.{PruneLaws, code_refused, link_refused, linked_pruned, made_of, named_there, sources_verified}
use Rattle.icont_top.proofs.programs.make.Goals as goal

pub returns-in_err-linked-clause-made : goal.returns-in_err-linked-clause-made
returns-in_err-linked-clause-made c list stands =
    let p = err_from_is_err_and c.from_residual.result c.from_residual.ensures.1 in
    rw (p.1, p.2) (link_refused c.args.members.now list c.in_err-linked.field-0.0 stands
    (subst (λ units. RefusesLink (units_seen units) c.in_err-linked.field-0.0) c.deref.ensures.value c.in_err-linked.ensures.refused))

pub prune_linked-requires : goal.prune_linked-requires
prune_linked-requires c = record {
  named = named_there (units_seen c.deref.result.now) (tables_of c.in_ok-linked.linked.code) c.in_ok-linked.linked.named.items c.in_ok-linked.ensures.code
      c.in_ok-linked.ensures.named;
}

pub verify_linked-requires : goal.verify_linked-requires
verify_linked-requires c =
    let laws : PruneLaws = record {
      least = c.kept_is_least.ensures.of_code;
      verified = c.pruned_code_is_verified.ensures;
      shorter = c.pruned_code_is_no_longer.ensures;
    } in
    record {
      sources = sources_verified c.translations_join.ensures c.joined_code_is_verified.ensures laws c.args.members.now (tables_of c.in_ok-code.code)
          c.requires.sound
          (linked_pruned (units_seen c.deref.result.now) (tables_of c.in_ok-linked.linked.code) (tables_of c.in_ok-code.code) _ _
          c.in_ok-linked.ensures.code c.in_ok-linked.ensures.named c.in_ok-linked.ensures.all c.in_ok-code.ensures.code
          ∙ ap (λ units. pruned_code (units_seen units)) c.deref.ensures.value)
          (subst (λ units. keeps_rules (joined_code (units_seen units)) ≡ true) c.deref.ensures.value
          (subst (λ t. keeps_rules t ≡ true) c.in_ok-linked.ensures.code c.in_ok-linked.linked.code.rules));
    }

pub returns-in_err-code-2-clause-made : goal.returns-in_err-code-2-clause-made
returns-in_err-code-2-clause-made c list stands =
    let p = err_from_is_err_and c.from_residual-in_err-code-2.result c.from_residual-in_err-code-2.ensures.1 in
    rw (p.1, p.2) (code_refused c.args.members.now list (tables_of c.in_ok-code.code) c.in_err-code-2.field-0.0 stands
    (linked_pruned (units_seen c.deref.result.now) (tables_of c.in_ok-linked.linked.code) (tables_of c.in_ok-code.code) _ _
    c.in_ok-linked.ensures.code c.in_ok-linked.ensures.named c.in_ok-linked.ensures.all c.in_ok-code.ensures.code
    ∙ ap (λ units. pruned_code (units_seen units)) c.deref.ensures.value)
    (subst (λ units. first_fault (units_seen units) ≡ None) c.deref.ensures.value c.in_ok-linked.ensures.fits) c.in_err-code-2.ensures.refused)

pub returns-in-Ok-clause-made : goal.returns-in-Ok-clause-made
returns-in-Ok-clause-made c list stands =
    let made : MadeProgram = record { code = c.in_ok-code-2.code; image = c.in-Ok.image } in
    let laws : PruneLaws = record {
      least = c.kept_is_least.ensures.of_code;
      verified = c.pruned_code_is_verified.ensures;
      shorter = c.pruned_code_is_no_longer.ensures;
    } in
    made_of c.translations_run.ensures.on_stacks laws c.args.members.now list made (tables_of c.in_ok-code.code) stands
    (linked_pruned (units_seen c.deref.result.now) (tables_of c.in_ok-linked.linked.code) (tables_of c.in_ok-code.code) _ _
    c.in_ok-linked.ensures.code c.in_ok-linked.ensures.named c.in_ok-linked.ensures.all c.in_ok-code.ensures.code
    ∙ ap (λ units. pruned_code (units_seen units)) c.deref.ensures.value)
    (subst (λ units. keeps_rules (joined_code (units_seen units)) ≡ true) c.deref.ensures.value
    (subst (λ t. keeps_rules t ≡ true) c.in_ok-linked.ensures.code c.in_ok-linked.linked.code.rules))
    (subst (λ units. first_fault (units_seen units) ≡ None) c.deref.ensures.value c.in_ok-linked.ensures.fits)
    c.in_ok-code-2.ensures.verified (ap tables_of c.in_ok-code-2.ensures.same)
    (c.in-Ok.ensures.spelled ∙ ap (λ code. image_of (tables_of code)) (c.code.ensures.code ∙ c.in_ok-code-2.ensures.same))
