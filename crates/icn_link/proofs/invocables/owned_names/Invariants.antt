use Rattle.std.proofs.Common.{◌≡◌, [], drop}
use Rattle.icn_unit.specs.PlainUnits.{owned_names}
use Rattle.icn_link.specs.FirstMentions.{with_texts}
use Rattle.icn_link.specs.Views.{decls_seen, texts_seen}
use Rattle.icn_link.proofs.invocables.owned_names.Given as goal

abbrev pub invariant-loop-decl : goal.invariant-loop-decl
invariant-loop-decl l = with_texts (texts_seen l.names.keys) (owned_names (decls_seen (drop l.decl-index l.decls)))
    ≡ with_texts [] (owned_names (decls_seen l.decls))
