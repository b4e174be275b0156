use Rattle.std.proofs.Common.{◌≡◌, length, map, ap, ◌∙◌, arith}
use Rattle.icn_translate.specs.Drafts.{with_names}
use Rattle.icn_translate.specs.ProcCodes.{texts_of}
use Rattle.icn_translate.proofs.DraftStarts.{names_step}
use Rattle.icn_translate.proofs.RowNumbers.{locals_left}
use Rattle.icn_translate.proofs.procedure.enter_locals.Goals as goal

pub loop-local-preserved : goal.loop-local-preserved
loop-local-preserved c =
    let left = locals_left c.args.locals.now c.loop-local.local-index c.local-item.result c.loop-local-test.true c.local-item.is in
    let count : length c.deref.result.now ≡ length c.local-item.result.names.items = ap length c.deref.ensures.value in
    record {
      names = names_step c.args.locals.now c.loop-local.local-index c.local-item.result _ _ c.loop-local-test.true c.local-item.is
          (c.in_ok-enter_names.ensures.names ∙ ap (λ names. with_names (map (λ name. name.now) c.loop-local.names.keys) (texts_of names)) c.deref.ensures.value)
          ∙ c.loop-local.invariant.names;
      given = omega (arith, left, count, c.in_ok-enter_names.ensures.given, c.loop-local.invariant.given);
    }

pub enter_names-requires : goal.enter_names-requires
enter_names-requires c =
    let left = locals_left c.args.locals.now c.loop-local.local-index c.local-item.result c.loop-local-test.true c.local-item.is in
    let count : length c.deref.result.now ≡ length c.local-item.result.names.items = ap length c.deref.ensures.value in
    omega (arith, left, count, c.loop-local.invariant.given, c.requires)
