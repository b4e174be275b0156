use Rattle.std.proofs.Common.{◌≡◌, [], drop}
use Rattle.icn_link.specs.FirstMentions.{with_integers}
use Rattle.icn_link.specs.Mentions.{integer_in, mentioned_by}
use Rattle.icn_link.specs.Views.{procs_seen}
use Rattle.icn_link.proofs.gathered.integers.Given as goal

abbrev pub invariant-loop-proc : goal.invariant-loop-proc
invariant-loop-proc l = with_integers l.found.keys (mentioned_by integer_in (procs_seen (drop l.proc-index l.procs)))
    ≡ with_integers [] (mentioned_by integer_in (procs_seen l.procs))
