use Rattle.std.proofs.Common.{◌≡◌, drop}
use Rattle.icn_link.specs.FirstMentions.{with_texts}
use Rattle.icn_link.specs.Mentions.{field_in, mentioned_by, fields}
use Rattle.icn_link.specs.Views.{procs_seen, decls_seen, texts_seen}
use Rattle.icn_link.proofs.gathered.fields.Given as goal

abbrev pub invariant-loop-proc : goal.invariant-loop-proc
invariant-loop-proc l = with_texts (texts_seen l.names.keys) (mentioned_by field_in (procs_seen (drop l.proc-index l.procs)))
    ≡ fields (decls_seen l.decls) (procs_seen l.procs)
