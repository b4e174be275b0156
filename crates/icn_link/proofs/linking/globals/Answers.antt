use Rattle.std.proofs.Common.{IfOk, ap, subst, ◌≡◌, ◌∙◌}
use Rattle.icn_unit.specs.PlainUnits.{proc_names}
use Rattle.icn_link.specs.Joined.{index_of}
use Rattle.icn_link.specs.Mentions.{record_names}
use Rattle.icn_link.specs.Views.{decls_seen, gathered_seen, entry_in, procs_seen, texts_seen}
use Rattle.icn_link.proofs.NameMaps.{entries_same}
use Rattle.icn_link.proofs.linking.globals.Goals as goal

pub returns : goal.returns
returns c =
    subst (λ entries. IfOk c.globals_with.result (λ globals. globals.items ≡ entries))
    (entries_same (gathered_seen c.args.tables.now) (entry_in c.in_ok-proc_indices.proc_indices) (entry_in c.in_ok-record_indices.record_indices)
    (proc_names (procs_seen c.args.procs.now)) (record_names (decls_seen c.args.decls.now)) (gathered_seen c.args.tables.now).globals
    (λ name. c.in_ok-proc_indices.ensures name ∙ ap (λ names. index_of names name) (ap texts_seen c.deref.ensures.value ∙ c.in_ok-names_of_procs.ensures))
    (λ name. c.in_ok-record_indices.ensures name
    ∙ ap (λ names. index_of names name) (ap texts_seen c.deref-2.ensures.value ∙ c.in_ok-names_of_records.ensures)))
    c.globals_with.ensures
