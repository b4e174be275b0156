use Rattle.std.proofs.Common.{◌≡◌, drop}
use Rattle.icn_link.specs.FirstMentions.{with_texts}
use Rattle.icn_link.specs.Views.{texts_seen}
use Rattle.icn_link.proofs.gathered.enter_names.Given as goal

abbrev pub invariant-loop-name : goal.invariant-loop-name
invariant-loop-name l = with_texts (texts_seen l.texts.keys) (texts_seen (drop l.name-index l.names))
    ≡ with_texts (texts_seen l.initial.texts.keys) (texts_seen l.names)
