use Rattle.std.proofs.Common.{◌++◌, ◌∷◌, [], None, ap, ◌∙◌}
use Rattle.icn_prune.proofs.StandingPlaces.{none_more}
use Rattle.icn_prune.proofs.places.no_places.Goals as goal

pub loop-entry-preserved : goal.loop-entry-preserved
loop-entry-preserved c = c.in_ok-push.ensures.items ∙ ap (λ places. places ++ None ∷ []) c.loop-entry.invariant ∙ none_more c.loop-entry._entry
