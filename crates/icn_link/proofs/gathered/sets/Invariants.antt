use Rattle.std.proofs.Common.{◌≡◌, [], drop}
use Rattle.icn_link.specs.FirstMentions.{with_texts}
use Rattle.icn_link.specs.Mentions.{set_in, mentioned_by}
use Rattle.icn_link.specs.Views.{procs_seen, texts_seen}
use Rattle.icn_link.proofs.gathered.sets.Given as goal

abbrev pub invariant-loop-proc : goal.invariant-loop-proc
invariant-loop-proc l = with_texts (texts_seen l.found.keys) (mentioned_by set_in (procs_seen (drop l.proc-index l.procs)))
    ≡ with_texts [] (mentioned_by set_in (procs_seen l.procs))
