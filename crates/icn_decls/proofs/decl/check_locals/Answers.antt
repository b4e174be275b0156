use Rattle.std.proofs.Common.{◌≡◌, ◌+◌, None, Err, subst, sym, ap, ◌∙◌, drop, map}
use Rattle.std.specs.List.{flat_map}
use Rattle.icn_tree.specs.declared.rule.Rule.TheVariants.{C1}
use Rattle.icn_tree.specs.TreeOf.{locals_of}
use Rattle.icn_decls.specs.Faults.{all_repeated, with_names}
use Rattle.icn_tree.specs.NameSets.{has}
use Rattle.icn_decls.specs.Views.{first_of, Checks}
use Rattle.icn_decls.proofs.FirstOfTwo.{first_of_second, checks_passed, rows}
use Rattle.icn_decls.proofs.decl.check_locals.Goals as goal

pub returns-in_err-check_names : goal.returns-in_err-check_names
returns-in_err-check_names c =
    checks_passed _ _ _ c.in_err-check_names.field-0.0 c.from_residual.result c.from_residual.ensures.1
    (subst (λ names. Checks (all_repeated C1 (has c.loop-local.met) names) (Err c.in_err-check_names.field-0.0)) c.deref.ensures.value
    c.in_err-check_names.ensures.first)
    (sym (ap first_of (rows C1 (has c.loop-local.met) c.args.locals.now c.loop-local.local-index c.local-item.result c.loop-local-test.true c.local-item.is))
    ∙ c.loop-local.invariant)

pub loop-local-preserved : goal.loop-local-preserved
loop-local-preserved c =
    let names = c.local-item.result.names.items in
    let later = flat_map (λ locals. locals.names) (map locals_of (drop (c.loop-local.local-index + 1) c.args.locals.now)) in
    let has_now : has c.check_names.new.met ≡ with_names (has c.loop-local.met) names = c.in_ok-check_names.ensures.has
    ∙ ap (with_names (has c.loop-local.met)) c.deref.ensures.value in
    ap (λ met. first_of (all_repeated C1 met later)) has_now
    ∙ sym (first_of_second (all_repeated C1 (has c.loop-local.met) names) (all_repeated C1 (with_names (has c.loop-local.met) names) later)
    (subst (λ row. None ≡ first_of (all_repeated C1 (has c.loop-local.met) row)) c.deref.ensures.value c.in_ok-check_names.ensures.first))
    ∙ sym (ap first_of (rows C1 (has c.loop-local.met) c.args.locals.now c.loop-local.local-index c.local-item.result c.loop-local-test.true c.local-item.is))
    ∙ c.loop-local.invariant
