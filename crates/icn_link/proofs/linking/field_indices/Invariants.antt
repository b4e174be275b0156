use Rattle.std.proofs.Common.{◌≡◌, ◌++◌, drop, map}
use Rattle.icn_link.specs.FirstMentions.{text_index}
use Rattle.icn_link.specs.Views.{texts_seen}
use Rattle.icn_link.proofs.linking.field_indices.Given as goal

abbrev pub invariant-loop-field : goal.invariant-loop-field
invariant-loop-field l = l.indices.items ++ map (text_index (texts_seen l.table.keys)) (drop l.field-index l.fields)
    ≡ map (text_index (texts_seen l.table.keys)) l.fields
