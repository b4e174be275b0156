use Rattle.std.proofs.Common.{inl, ◌∙◌, ap, refl}
use Rattle.icn_answer.specs.declared.answer.Answer.TheVariants.{FileFault, NoMemory}
use Rattle.icn_answer.proofs.FaultCounts.{err_counts, err_wants}
use Rattle.icn_answer.proofs.ToldContent.{if_some_elim, if_some_intro}
use Rattle.icn_answer.proofs.TornAnswers.{only_read}
use Rattle.icn_run_answer.proofs.CountCauses.{absence_of, after_files, refused_ends}
use Rattle.icn_run_answer.proofs.OutsideLeft.{read_kept}
use Rattle.icn_run_answer.proofs.Reports.{reports_of}
use Rattle.iconx_top.specs.Outcomes.{left_alone}
use Rattle.iconx_top.specs.Words.{image_named}
use Rattle.iconx_top.proofs.AskedAnswers.{answer_put, load_answered}
use Rattle.iconx_top.proofs.CallOutcomes.{asked_load, load_no_read, load_no_write, refused}
use Rattle.iconx_top.proofs.Migrations.{asked_migration, held_before, leaves_before, load_unwritten, refused_unwritten}
use Rattle.iconx_top.proofs.ReportLines.{load_unrun, refused_no_command}
use Rattle.iconx_top.proofs.Absences.{refused_absences}
use Rattle.iconx_top.proofs.top.migration_answer.Goals as goal

-- The image was loaded

pub returns-in-Ok-clause-outcome : goal.returns-in-Ok-clause-outcome
returns-in-Ok-clause-outcome g c words left input out asks =
    if_some_intro (g.F.Files.state c.args.files.now).held _ (λ held e.
    let loaded = if_some_elim _ (g.F.Files.state c.args.files.now).held held e c.in-Ok.ensures.loaded in
    held_before _ _ (only_read c.in-Ok.ensures.reads) (c.new_image_answer.ensures.outcome words held left input out
    (record { name = c.args.asked.image.now; bytes = loaded.0; asks = asks; there = loaded.1.0; judged = loaded.1.1 }) refl
    (c.in-Ok.ensures.reads.files ∙ e)))

pub returns-in-Ok-clause-leaves : goal.returns-in-Ok-clause-leaves
returns-in-Ok-clause-leaves g c words asks =
    if_some_intro (g.F.Files.state c.args.files.now).held _ (λ held e.
    leaves_before _ _ (only_read c.in-Ok.ensures.reads) (c.new_image_answer.ensures.leaves words held
    (asked_migration c.args.asked c.in-Ok.verified asks (if_some_elim _ (g.F.Files.state c.args.files.now).held held e c.in-Ok.ensures.loaded))
    (c.in-Ok.ensures.reads.files ∙ e)))

pub returns-in-Ok-clause-reported : goal.returns-in-Ok-clause-reported
returns-in-Ok-clause-reported g c = c.new_image_answer.ensures.reported

pub returns-in-Ok-clause-answered : goal.returns-in-Ok-clause-answered
returns-in-Ok-clause-answered g c words asks =
    if_some_intro (g.F.Files.state c.args.files.now).held _ (λ held e.
    c.new_image_answer.ensures.answered words held
    (asked_migration c.args.asked c.in-Ok.verified asks (if_some_elim _ (g.F.Files.state c.args.files.now).held held e c.in-Ok.ensures.loaded))
    (c.in-Ok.ensures.reads.files ∙ e))

pub returns-in-Ok-clause-unwritten : goal.returns-in-Ok-clause-unwritten
returns-in-Ok-clause-unwritten g c is = c.new_image_answer.ensures.unwritten is ∙ c.in-Ok.ensures.reads.files

pub returns-in-Ok-clause-causes : goal.returns-in-Ok-clause-causes
returns-in-Ok-clause-causes g c left input out =
    after_files c.new_image_answer.result (read_kept (only_read c.in-Ok.ensures.reads)) (c.new_image_answer.ensures.causes left input out)

-- There is none

pub returns-in-Err-clause-outcome : goal.returns-in-Err-clause-outcome
returns-in-Err-clause-outcome g c words left input out asks =
    if_some_intro (g.F.Files.state c.args.files.now).held _ (λ held e.
    refused c.args.asked.image.now c.in-Err.answer c.refuse.result _ _ _ _ _ _ _
    (asked_load c.args.asked.image.now c.in-Err.answer (ap image_named asks)
    (if_some_elim _ (g.F.Files.state c.args.files.now).held held e c.in-Err.ensures.loaded))
    (load_no_write c.in-Err.answer c.in-Err.ensures.others) (load_no_read c.in-Err.answer c.in-Err.ensures.others)
    c.in-Err.ensures.reads.files e refl c.refuse.ensures.line)

pub returns-in-Err-clause-leaves : goal.returns-in-Err-clause-leaves
returns-in-Err-clause-leaves g c words asks =
    if_some_intro (g.F.Files.state c.args.files.now).held _ (λ held e. left_alone
    (refused_unwritten c.in-Err.answer c.refuse.result (load_unwritten c.in-Err.answer c.in-Err.ensures.others) c.refuse.ensures.line)
    c.in-Err.ensures.reads.files)

pub returns-in-Err-clause-reported : goal.returns-in-Err-clause-reported
returns-in-Err-clause-reported g c = reports_of (load_unrun c.in-Err.answer c.in-Err.ensures.others) c.refuse.ensures.line

pub returns-in-Err-clause-answered : goal.returns-in-Err-clause-answered
returns-in-Err-clause-answered g c words asks =
    if_some_intro (g.F.Files.state c.args.files.now).held _ (λ held e. answer_put c.in-Err.answer c.refuse.result
    (load_answered c.args.asked.image.now c.in-Err.answer (ap image_named asks)
    (if_some_elim _ (g.F.Files.state c.args.files.now).held held e c.in-Err.ensures.loaded)) c.refuse.ensures.line)

pub returns-in-Err-clause-unwritten : goal.returns-in-Err-clause-unwritten
returns-in-Err-clause-unwritten g c is = c.in-Err.ensures.reads.files

pub returns-in-Err-clause-causes : goal.returns-in-Err-clause-causes
returns-in-Err-clause-causes g c left input out =
    refused_ends c.in-Err.answer c.refuse.result (load_no_write c.in-Err.answer c.in-Err.ensures.others)
    (load_no_read c.in-Err.answer c.in-Err.ensures.others) (err_counts c.in-Err.answer FileFault c.in-Err.ensures.reads.file_fault)
    (err_wants c.in-Err.answer NoMemory c.in-Err.ensures.reads.file_want)
    c.in-Err.ensures.reads.absence (absence_of c.in-Err.answer c.refuse.result c.refuse.ensures.line) c.refuse.ensures.line

pub returns-in-Ok-clause-settled : goal.returns-in-Ok-clause-settled
returns-in-Ok-clause-settled g c out = c.new_image_answer.ensures.settled out

pub returns-in-Err-clause-settled : goal.returns-in-Err-clause-settled
returns-in-Err-clause-settled g c out o e n = (o, c.refuse.ensures.settled n)

pub returns-in-Ok-clause-absences : goal.returns-in-Ok-clause-absences
returns-in-Ok-clause-absences g c =
    inl (c.new_image_answer.ensures.absences ∙ c.in-Ok.ensures.absences, c.new_image_answer.ensures.present)

pub returns-in-Err-clause-absences : goal.returns-in-Err-clause-absences
returns-in-Err-clause-absences g c = refused_absences c.in-Err.answer c.refuse.result c.refuse.ensures.line c.in-Err.ensures.absences

pub returns-in-Err-clause-command : goal.returns-in-Err-clause-command
returns-in-Err-clause-command g c is =
    refused_no_command c.in-Err.answer c.refuse.result c.in-Err.ensures.others c.refuse.ensures.line is
