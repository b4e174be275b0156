use Rattle.std.proofs.Common.{◌≡◌, ◌++◌, drop, map}
use Rattle.icn_link.specs.FirstMentions.{text_index}
use Rattle.icn_link.specs.Views.{texts_seen}
use Rattle.icn_link.proofs.linking.text_indices.Given as goal

abbrev pub invariant-loop-text : goal.invariant-loop-text
invariant-loop-text l = l.indices.items ++ map (text_index (texts_seen l.table.keys)) (texts_seen (drop l.text-index l.texts))
    ≡ map (text_index (texts_seen l.table.keys)) (texts_seen l.texts)
