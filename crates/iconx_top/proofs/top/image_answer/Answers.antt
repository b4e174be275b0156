use Rattle.std.proofs.Common.{◌∙◌, [], ap, map, refl}
use Rattle.std.specs.Prelude.{string_bytes}
use Rattle.icn_value.specs.Limited.{limits_of}
use Rattle.icn_value.specs.Store.{outside_of}
use Rattle.icn_code.specs.CodeTables.{tables_of}
use Rattle.icn_machine.specs.Starting.{launch_with}
use Rattle.iconx_top.proofs.AskedAnswers.{answer_put, load_answered, run_answered}
use Rattle.iconx_top.proofs.CallOutcomes.{asked_load, load_no_read, load_no_write, refused, run_asked}
use Rattle.iconx_top.specs.Outcomes.{by_run, left_alone}
use Rattle.iconx_top.proofs.Migrations.{held_before, load_unwritten, refused_unwritten}
use Rattle.icn_answer.specs.declared.answer.Answer.TheVariants.{FileFault, NoMemory}
use Rattle.icn_answer.proofs.FaultCounts.{err_counts, err_wants}
use Rattle.icn_answer.proofs.TornAnswers.{only_read}
use Rattle.icn_run_answer.proofs.CountCauses.{absence_of, after_files, refused_ends, run_ends}
use Rattle.icn_run_answer.proofs.OutsideLeft.{leaves_both, read_kept}
use Rattle.icn_run_answer.proofs.Reports.{reports_of}
use Rattle.icn_answer.proofs.ToldContent.{if_some_elim, if_some_intro}
use Rattle.iconx_top.proofs.ReportLines.{load_unrun, refused_no_command}
use Rattle.iconx_top.specs.Words.{image_named}
use Rattle.iconx_top.proofs.Absences.{refused_absences}
use Rattle.iconx_top.proofs.AskedRuns.{ran_before, runs_refused}
use Rattle.iconx_top.proofs.top.image_answer.Goals as goal

pub returns-in-Err-clause-outcome : goal.returns-in-Err-clause-outcome
returns-in-Err-clause-outcome g c words asks =
    if_some_intro (g.F.Files.state c.args.files.now).held _ (λ held e. if_some_intro (g.I.Source.left c.args.input.now) _ (λ left d.
    refused c.args.run.image.now c.in-Err.answer c.refuse.result _ _ _ _ _ _ _
    (asked_load c.args.run.image.now c.in-Err.answer (ap image_named asks)
    (if_some_elim _ (g.F.Files.state c.args.files.now).held held e c.in-Err.ensures.loaded))
    (load_no_write c.in-Err.answer c.in-Err.ensures.others) (load_no_read c.in-Err.answer c.in-Err.ensures.others)
    c.in-Err.ensures.reads.files e d c.refuse.ensures.line))

pub returns-in-Ok-clause-outcome : goal.returns-in-Ok-clause-outcome
returns-in-Ok-clause-outcome g c words asks =
    if_some_intro (g.F.Files.state c.args.files.now).held _ (λ held e. if_some_intro (g.I.Source.left c.args.input.now) _ (λ left d.
    held_before _ _ (only_read c.in-Ok.ensures.reads) (if_some_elim _ (g.I.Source.left c.args.input.now) left d
    (c.run_answer.ensures.outcome words held asks
    (if_some_elim _ (g.F.Files.state c.args.files.now).held held e c.in-Ok.ensures.loaded) (c.in-Ok.ensures.reads.files ∙ e)))))

pub returns-in-Err-clause-reported : goal.returns-in-Err-clause-reported
returns-in-Err-clause-reported g c = reports_of (load_unrun c.in-Err.answer c.in-Err.ensures.others) c.refuse.ensures.line

pub returns-in-Ok-clause-reported : goal.returns-in-Ok-clause-reported
returns-in-Ok-clause-reported g c = c.run_answer.ensures.reported c.args.run.image.now

pub returns-in-Err-clause-answered : goal.returns-in-Err-clause-answered
returns-in-Err-clause-answered g c words asks =
    if_some_intro (g.F.Files.state c.args.files.now).held _ (λ held e. answer_put c.in-Err.answer c.refuse.result
    (load_answered c.args.run.image.now c.in-Err.answer (ap image_named asks)
    (if_some_elim _ (g.F.Files.state c.args.files.now).held held e c.in-Err.ensures.loaded)) c.refuse.ensures.line)

pub returns-in-Ok-clause-answered : goal.returns-in-Ok-clause-answered
returns-in-Ok-clause-answered g c words asks =
    if_some_intro (g.F.Files.state c.args.files.now).held _ (λ held e. run_answered (limits_of c.args.run.limits) c.args.run.image.now
    (map string_bytes c.args.run.arguments.now) c.in-Ok.verified c.run_answer.result asks
    (if_some_elim _ (g.F.Files.state c.args.files.now).held held e c.in-Ok.ensures.loaded) c.run_answer.ensures.others)

pub returns-in-Ok-clause-leaves : goal.returns-in-Ok-clause-leaves
returns-in-Ok-clause-leaves g c = record {
  causes = after_files c.run_answer.result (read_kept (only_read c.in-Ok.ensures.reads))
      (run_ends c.run_answer.result c.run_answer.ensures.others c.run_answer.ensures.causes);
  input = c.run_answer.ensures.input;
  refused = λ none. absurd (none c.run_answer.ensures.others);
  unread = λ none. absurd (none c.run_answer.ensures.others);
  uncalled = λ none. absurd (none c.run_answer.ensures.others);
}

pub returns-in-Err-clause-leaves : goal.returns-in-Err-clause-leaves
returns-in-Err-clause-leaves g c =
    leaves_both refl refl refl (refused_ends c.in-Err.answer c.refuse.result (load_no_write c.in-Err.answer c.in-Err.ensures.others)
    (load_no_read c.in-Err.answer c.in-Err.ensures.others) (err_counts c.in-Err.answer FileFault c.in-Err.ensures.reads.file_fault)
    (err_wants c.in-Err.answer NoMemory c.in-Err.ensures.reads.file_want)
    c.in-Err.ensures.reads.absence (absence_of c.in-Err.answer c.refuse.result c.refuse.ensures.line) c.refuse.ensures.line)

pub returns-in-Ok-clause-files : goal.returns-in-Ok-clause-files
returns-in-Ok-clause-files g c none = absurd (none c.run_answer.ensures.others)

pub returns-in-Err-clause-files : goal.returns-in-Err-clause-files
returns-in-Err-clause-files g c none = c.in-Err.ensures.reads.files

pub returns-in-Ok-clause-written : goal.returns-in-Ok-clause-written
returns-in-Ok-clause-written g c words asks =
    if_some_intro (g.F.Files.state c.args.files.now).held _ (λ held e.
    let launch = launch_with c.args.run.arguments.now c.args.run.limits (outside_of [] held) in
    by_run [] (tables_of c.in-Ok.verified.code) launch c.run_answer.ensures.others
    (run_asked [] launch c.args.run.image.now c.in-Ok.verified asks refl
    (if_some_elim _ (g.F.Files.state c.args.files.now).held held e c.in-Ok.ensures.loaded)))

pub returns-in-Err-clause-written : goal.returns-in-Err-clause-written
returns-in-Err-clause-written g c words asks =
    if_some_intro (g.F.Files.state c.args.files.now).held _ (λ held e.
    left_alone (refused_unwritten c.in-Err.answer c.refuse.result (load_unwritten c.in-Err.answer c.in-Err.ensures.others) c.refuse.ensures.line)
    c.in-Err.ensures.reads.files)

pub returns-in-Ok-clause-settled : goal.returns-in-Ok-clause-settled
returns-in-Ok-clause-settled g c = c.run_answer.ensures.settled

pub returns-in-Err-clause-settled : goal.returns-in-Err-clause-settled
returns-in-Err-clause-settled g c o e n = (o, c.refuse.ensures.settled n)

pub returns-in-Ok-clause-absences : goal.returns-in-Ok-clause-absences
returns-in-Ok-clause-absences g c none = absurd (none c.run_answer.ensures.others)

pub returns-in-Err-clause-absences : goal.returns-in-Err-clause-absences
returns-in-Err-clause-absences g c none = refused_absences c.in-Err.answer c.refuse.result c.refuse.ensures.line c.in-Err.ensures.absences

pub returns-in-Ok-clause-ran : goal.returns-in-Ok-clause-ran
returns-in-Ok-clause-ran g c words asks =
    if_some_intro (g.F.Files.state c.args.files.now).held _ (λ held e.
    ran_before words held _ _ _ _ _ _ _ c.run_answer.result (c.run_answer.ensures.ran words held asks
    (if_some_elim _ (g.F.Files.state c.args.files.now).held held e c.in-Ok.ensures.loaded)))

pub returns-in-Err-clause-ran : goal.returns-in-Err-clause-ran
returns-in-Err-clause-ran g c words asks =
    if_some_intro (g.F.Files.state c.args.files.now).held _ (λ held e.
    runs_refused words held _ _ c.in-Err.answer c.refuse.result (load_unrun c.in-Err.answer c.in-Err.ensures.others) c.refuse.ensures.line)

pub returns-in-Err-clause-command : goal.returns-in-Err-clause-command
returns-in-Err-clause-command g c is =
    refused_no_command c.in-Err.answer c.refuse.result c.in-Err.ensures.others c.refuse.ensures.line is
