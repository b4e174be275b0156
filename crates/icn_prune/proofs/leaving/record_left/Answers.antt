use Rattle.std.proofs.Common.{◌++◌, ◌∷◌, [], ap, ◌∙◌}
use Rattle.icn_prune.specs.PrunedCode.{new_place}
use Rattle.icn_prune.proofs.SurvivingTables.{mapped_next}
use Rattle.icn_prune.proofs.leaving.record_left.Goals as goal

pub loop-field-preserved : goal.loop-field-preserved
loop-field-preserved c =
    mapped_next (new_place c.args.left.now.fields.left.items) c.args.kind.now.fields.items c.deref-field-items.result.now c.loop-field.field-index _ _ _ _
    c.deref-field-items.ensures.value c.loop-field-test.true
    (c.in_ok-push.ensures.items ∙ ap (λ place. c.loop-field.fields.items ++ place ∷ []) c.new_place.ensures) c.loop-field.invariant
