use Rattle.std.proofs.Common.{List, ℕ, Bor, [], ◌∷◌, ◌++◌, ap, ◌∙◌}
use Rattle.icn_link.specs.FirstMentions.{text_index}
use Rattle.icn_link.specs.Views.{texts_seen}
use Rattle.icn_link.proofs.GatheringLoops.{mapped_step}
use Rattle.icn_link.proofs.linking.text_indices.Goals as goal

pub loop-text-preserved : goal.loop-text-preserved
loop-text-preserved c =
    mapped_step (λ (text : Bor (List ℕ)). text.now) (text_index (texts_seen c.args.table.now.keys)) c.args.texts.now c.loop-text.text-index _
    c.loop-text.indices.items c.push.new.self.items c.loop-text-test.true
    (c.in_ok-push.ensures.items ∙ ap (λ n. c.loop-text.indices.items ++ n ∷ []) c.text_index.ensures)
    ∙ c.loop-text.invariant
