use Rattle.std.proofs.Common.{◌∙◌, ap}
use Rattle.icn_unit.specs.PlainUnits.{proc_names}
use Rattle.icn_link.specs.FirstMentions.{with_texts}
use Rattle.icn_link.specs.Mentions.{mentioned_by, record_names, text_in}
use Rattle.icn_link.specs.Views.{decls_seen, procs_seen, texts_seen}
use Rattle.icn_link.proofs.GatheringLoops.{five_rows}
use Rattle.icn_link.proofs.gathered.strings.Goals as goal

pub returns : goal.returns
returns c =
    five_rows (texts_seen c.new-texts.result.keys) (texts_seen c.enter_names.new.texts.keys) (texts_seen c.enter_record_names.new.texts.keys)
    (texts_seen c.enter_names-2.new.texts.keys) (texts_seen c.enter_proc_names.new.texts.keys) (texts_seen c.enter_literals.new.texts.keys)
    (texts_seen c.args.fields.now.keys) (record_names (decls_seen c.args.decls.now)) (texts_seen c.args.globals.now.keys)
    (proc_names (procs_seen c.args.procs.now)) (mentioned_by text_in (procs_seen c.args.procs.now))
    (ap texts_seen c.new-texts.ensures.empty)
    (c.in_ok-enter_names.ensures ∙ ap (λ names. with_texts (texts_seen c.new-texts.result.keys) (texts_seen names)) c.as_slice.ensures.keys)
    c.in_ok-enter_record_names.ensures
    (c.in_ok-enter_names-2.ensures ∙ ap (λ names. with_texts (texts_seen c.enter_record_names.new.texts.keys) (texts_seen names)) c.as_slice-2.ensures.keys)
    c.in_ok-enter_proc_names.ensures
    c.in_ok-enter_literals.ensures
