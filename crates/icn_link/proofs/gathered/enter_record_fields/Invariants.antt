use Rattle.std.proofs.Common.{◌≡◌, drop}
use Rattle.std.specs.List.{flat_map}
use Rattle.icn_link.specs.FirstMentions.{with_texts}
use Rattle.icn_link.specs.Mentions.{fields_in}
use Rattle.icn_link.specs.Views.{decls_seen, texts_seen}
use Rattle.icn_link.proofs.gathered.enter_record_fields.Given as goal

abbrev pub invariant-loop-decl : goal.invariant-loop-decl
invariant-loop-decl l = with_texts (texts_seen l.names.keys) (flat_map fields_in (decls_seen (drop l.decl-index l.decls)))
    ≡ with_texts (texts_seen l.initial.names.keys) (flat_map fields_in (decls_seen l.decls))
