use Rattle.std.proofs.Common.{◌++◌, ◌∷◌, [], ap, ◌∙◌, rules}
use Rattle.std.specs.Int.{w64}
use Rattle.std.specs.Int.RustNames.{FitsSigned}
use Rattle.std.specs.Prelude.{pos, slice_index_or}
use Rattle.std.proofs.lemmas.Int.{to_z-of_z}
use Rattle.icn_code.specs.CodeTables.{tables_of}
use Rattle.icn_prune.proofs.SurvivingTables.{mapped_next}
use Rattle.icn_prune.proofs.leaving.integers_left.Goals as goal

pub loop-place-preserved : goal.loop-place-preserved
loop-place-preserved c =
    let fits : FitsSigned w64 c.integer_at.result = search rules in
    mapped_next (λ place. slice_index_or (tables_of c.args.code.now).integers place (pos 0)) c.args.left.now.integers.left.items
    c.deref-place-items.result.now c.loop-place.place-index _ _ _ _ c.deref-place-items.ensures.value c.loop-place-test.true
    (c.in_ok-push.ensures.items
    ∙ ap (λ n. c.loop-place.integers.items ++ n ∷ []) (to_z-of_z w64 c.integer_at.result fits ∙ c.integer_at.ensures)) c.loop-place.invariant
