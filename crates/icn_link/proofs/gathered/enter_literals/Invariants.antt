use Rattle.std.proofs.Common.{◌≡◌, drop}
use Rattle.icn_link.specs.FirstMentions.{with_texts}
use Rattle.icn_link.specs.Mentions.{text_in, mentioned_by}
use Rattle.icn_link.specs.Views.{procs_seen, texts_seen}
use Rattle.icn_link.proofs.gathered.enter_literals.Given as goal

abbrev pub invariant-loop-proc : goal.invariant-loop-proc
invariant-loop-proc l = with_texts (texts_seen l.texts.keys) (mentioned_by text_in (procs_seen (drop l.proc-index l.procs)))
    ≡ with_texts (texts_seen l.initial.texts.keys) (mentioned_by text_in (procs_seen l.procs))
