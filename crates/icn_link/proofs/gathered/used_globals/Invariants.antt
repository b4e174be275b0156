use Rattle.std.proofs.Common.{◌≡◌, drop}
use Rattle.std.specs.List.{flat_map}
use Rattle.icn_link.specs.FirstMentions.{with_texts}
use Rattle.icn_link.specs.Mentions.{functions_used, used_globals}
use Rattle.icn_link.specs.Views.{procs_seen, decls_seen, texts_seen}
use Rattle.icn_link.proofs.gathered.used_globals.Given as goal

abbrev pub invariant-loop-proc : goal.invariant-loop-proc
invariant-loop-proc l = with_texts (texts_seen l.names.keys) (flat_map functions_used (procs_seen (drop l.proc-index l.procs)))
    ≡ used_globals (decls_seen l.decls) (procs_seen l.procs)
