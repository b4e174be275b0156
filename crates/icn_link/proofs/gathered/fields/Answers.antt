use Rattle.std.proofs.Common.{◌∙◌, ap, Bor}
use Rattle.icn_unit.specs.declared.unit.ProcCode.{ProcCode}
use Rattle.icn_unit.specs.UnitViews.{proc_seen}
use Rattle.std.specs.List.{flat_map}
use Rattle.icn_unit.specs.declared.unit.UnitInstr.{UnitInstr}
use Rattle.icn_link.specs.FirstMentions.{with_texts}
use Rattle.icn_link.specs.Mentions.{field_in, fields_in, mentioned_by, mentioned_in, mention_of}
use Rattle.icn_link.specs.Views.{decls_seen, procs_seen, texts_seen}
use Rattle.icn_link.proofs.GatheringLoops.{texts_step, two_rows}
use Rattle.icn_link.proofs.gathered.fields.Goals as goal

pub loop-proc-preserved : goal.loop-proc-preserved
loop-proc-preserved c =
    texts_step (λ (item : Bor ProcCode). proc_seen item.now) (mentioned_in field_in) c.args.procs.now c.loop-proc.proc-index c.proc-item.result
    (texts_seen c.loop-proc.names.keys) _
    c.loop-proc-test.true c.proc-item.is (c.in_ok-enter_fields_used.ensures
    ∙ ap (λ items. with_texts (texts_seen c.loop-proc.names.keys) (flat_map (λ (instr : UnitInstr). field_in (mention_of instr)) items)) c.deref.ensures.value)
    ∙ c.loop-proc.invariant

pub loop-proc-init : goal.loop-proc-init
loop-proc-init c =
    two_rows (texts_seen c.new-names.result.keys) (texts_seen c.enter_record_fields.new.names.keys)
    (flat_map fields_in (decls_seen c.args.decls.now)) (mentioned_by field_in (procs_seen c.args.procs.now))
    (ap texts_seen c.new-names.ensures.empty) c.in_ok-enter_record_fields.ensures
