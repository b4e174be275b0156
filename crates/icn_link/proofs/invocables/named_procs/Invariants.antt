use Rattle.std.proofs.Common.{◌≡◌, ◌++◌, drop}
use Rattle.std.specs.List.{flat_map}
use Rattle.icn_link.specs.Joined.{number_list}
use Rattle.icn_link.specs.Mentions.{invocable_in}
use Rattle.icn_link.specs.Views.{decls_seen, entry_in}
use Rattle.icn_link.proofs.invocables.named_procs.Given as goal

abbrev pub invariant-loop-decl : goal.invariant-loop-decl
invariant-loop-decl l =
    l.numbers.items ++ flat_map (λ text. number_list (entry_in l.procs text)) (flat_map invocable_in (decls_seen (drop l.decl-index l.decls)))
    ≡ flat_map (λ text. number_list (entry_in l.procs text)) (flat_map invocable_in (decls_seen l.decls))
