use Rattle.std.proofs.Common.{IfOk, ap, subst, ◌≡◌, ◌∙◌}
use Rattle.std.specs.List.{flat_map}
use Rattle.icn_unit.specs.PlainUnits.{proc_names}
use Rattle.icn_link.specs.Joined.{index_of}
use Rattle.icn_link.specs.Mentions.{invocable_in}
use Rattle.icn_link.specs.Views.{decls_seen, entry_in, procs_seen, texts_seen}
use Rattle.icn_link.proofs.CalledNames.{same_numbers}
use Rattle.icn_link.proofs.linking.numbers_named.Goals as goal

pub returns : goal.returns
returns c =
    subst (λ entries. IfOk c.named_procs.result (λ numbers. numbers.items ≡ entries))
    (same_numbers (entry_in c.in_ok-numbers.numbers) (index_of (proc_names (procs_seen c.args.procs.now)))
    (λ name. c.in_ok-numbers.ensures name ∙ ap (λ names. index_of names name) (ap texts_seen c.deref.ensures.value ∙ c.in_ok-names_of_procs.ensures))
    (flat_map invocable_in (decls_seen c.args.decls.now)))
    c.named_procs.ensures
