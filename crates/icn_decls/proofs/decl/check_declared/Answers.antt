use Rattle.std.proofs.Common.{◌≡◌, None, Err, subst, sym, ap, ◌∙◌, map}
use Rattle.std.specs.List.{flat_map}
use Rattle.icn_tree.specs.declared.rule.Rule.TheVariants.{C1}
use Rattle.icn_tree.specs.TreeOf.{locals_of}
use Rattle.icn_decls.specs.Faults.{all_repeated, with_names}
use Rattle.icn_tree.specs.NameSets.{none_met, has}
use Rattle.icn_decls.specs.Views.{first_of, Checks}
use Rattle.icn_decls.proofs.FirstOfTwo.{first_of_second, checks_as, checks_passed, all_repeated-append}
use Rattle.icn_decls.proofs.decl.check_declared.Goals as goal

pub returns-in_err-check_names : goal.returns-in_err-check_names
returns-in_err-check_names c =
    let parameters = c.args.procedure.now.parameters.items in
    let later = flat_map (λ locals. locals.names) (map locals_of c.args.procedure.now.locals.items) in
    let h : Checks (all_repeated C1 none_met parameters) (Err c.in_err-check_names.field-0.0) =
    subst (λ met. Checks (all_repeated C1 met parameters) (Err c.in_err-check_names.field-0.0)) c.new-met.ensures
    (subst (λ names. Checks (all_repeated C1 (has c.new-met.result) names) (Err c.in_err-check_names.field-0.0)) c.deref.ensures.value
    c.in_err-check_names.ensures.first) in
    checks_passed (all_repeated C1 none_met parameters)
    (all_repeated C1 (with_names none_met parameters) later) _ c.in_err-check_names.field-0.0 c.from_residual.result c.from_residual.ensures.1 h
    (sym (ap first_of (all_repeated-append C1 none_met parameters later)))

pub returns : goal.returns
returns c =
    let parameters = c.args.procedure.now.parameters.items in
    let later = flat_map (λ locals. locals.names) (map locals_of c.args.procedure.now.locals.items) in
    let h : None ≡ first_of (all_repeated C1 none_met parameters) =
    subst (λ met. None ≡ first_of (all_repeated C1 met parameters)) c.new-met.ensures
    (subst (λ names. None ≡ first_of (all_repeated C1 (has c.new-met.result) names)) c.deref.ensures.value c.in_ok-check_names.ensures.first) in
    let has_now : has c.check_names.new.met ≡ with_names none_met parameters =
    c.in_ok-check_names.ensures.has ∙ ap (with_names (has c.new-met.result)) c.deref.ensures.value ∙ ap (λ met. with_names met parameters) c.new-met.ensures in
    checks_as (all_repeated C1 (has c.check_names.new.met) later) _ c.check_locals.result
    (ap (λ met. first_of (all_repeated C1 met later)) has_now
    ∙ sym (first_of_second (all_repeated C1 none_met parameters) (all_repeated C1 (with_names none_met parameters) later) h)
    ∙ sym (ap first_of (all_repeated-append C1 none_met parameters later)))
    (subst (λ rows. Checks (all_repeated C1 (has c.check_names.new.met) (flat_map (λ locals. locals.names) (map locals_of rows))) c.check_locals.result)
    c.deref-2.ensures.value c.check_locals.ensures)
