use Rattle.std.proofs.Common.{◌≡◌, drop}
use Rattle.icn_link.specs.FirstMentions.{with_texts}
use Rattle.icn_link.specs.Views.{texts_seen}
use Rattle.icn_link.proofs.gathered.enter_all.Given as goal

abbrev pub invariant-loop-text : goal.invariant-loop-text
invariant-loop-text l = with_texts (texts_seen l.names.keys) ((drop l.text-index l.texts))
    ≡ with_texts (texts_seen l.initial.names.keys) (l.texts)
