use Rattle.std.proofs.Common.{◌∙◌, inr, Ok, refl}
use Rattle.icn_answer.specs.declared.answer.Answer.TheVariants.{FileFault, NoMemory}
use Rattle.icn_answer.proofs.FaultCounts.{err_counts, err_wants}
use Rattle.icn_run_answer.proofs.CountCauses.{refused_ends, absence_of}
use Rattle.icn_run_answer.proofs.OutsideLeft.{leaves_after, leaves_both, read_kept}
use Rattle.icn_run_answer.proofs.Reports.{reports_of}
use Rattle.icn_answer.proofs.ToldContent.{if_some_elim, if_some_intro}
use Rattle.icn_answer.proofs.TornAnswers.{only_read}
use Rattle.icn_text.specs.WordTexts.{texts}
use Rattle.icont_units.specs.Files.{files_named}
use Rattle.icont_units.specs.Units.{Load}
use Rattle.icont_top.specs.Job.{of_files}
use Rattle.icont_top.proofs.AnswersGiven.{command_refuses, given_link, given_or_told, loading_no_image, loading_no_read, loading_no_run, loading_no_write, no_command, refusal_unlinked, told_again, told_refused}
use Rattle.icont_top.proofs.CallOutcomes.{asked_program, refused_done}
use Rattle.icont_top.proofs.ReadBefore.{held_as}
use Rattle.icont_top.proofs.top.link_answer.Goals as goal

pub returns-in-Ok-clause-done : goal.returns-in-Ok-clause-done
returns-in-Ok-clause-done g c words asks =
    if_some_intro (g.F.Files.state c.args.files.now).held _ (λ held e.
    let loaded = if_some_elim _ (g.F.Files.state c.args.files.now).held held e c.in-Ok.ensures.program in
    held_as _ _ (only_read c.in-Ok.ensures.reads) e (c.image_answer.ensures.done words held loaded.0
    (record { plans = of_files (texts c.args.names.now) _ _ (Ok loaded.0) asks loaded.1.0; is = loaded.1.1.1 }) (c.in-Ok.ensures.reads.files ∙ e)))

pub returns-in-Err-clause-done : goal.returns-in-Err-clause-done
returns-in-Err-clause-done g c words asks =
    if_some_intro (g.F.Files.state c.args.files.now).held _ (λ held e.
    refused_done c.in-Err.answer c.refuse.result _ _ _ _ _ _ _ (loading_no_image c.in-Err.answer c.in-Err.ensures.others)
    (loading_no_write c.in-Err.answer c.in-Err.ensures.others) (loading_no_read c.in-Err.answer c.in-Err.ensures.others)
    (asked_program (Load held (files_named (texts c.args.names.now))) _ c.in-Err.answer (λ result load. of_files (texts c.args.names.now) _ _ result asks load)
    (if_some_elim _ (g.F.Files.state c.args.files.now).held held e c.in-Err.ensures.program)) c.in-Err.ensures.reads.files c.refuse.ensures.line)

pub returns-in-Ok-clause-links : goal.returns-in-Ok-clause-links
returns-in-Ok-clause-links g c =
    if_some_intro (g.F.Files.state c.args.files.now).held _ (λ held e.
    let loaded = if_some_elim _ (g.F.Files.state c.args.files.now).held held e c.in-Ok.ensures.program in
    λ members load. inr (told_again _ _ _ held (files_named (texts c.args.names.now)) loaded.0 members loaded.1.0 loaded.1.1.0
    c.image_answer.ensures.leaves.causes.absence.later load))

pub returns-in-Err-clause-links : goal.returns-in-Err-clause-links
returns-in-Err-clause-links g c =
    if_some_intro (g.F.Files.state c.args.files.now).held _ (λ held e. λ members load.
    given_or_told c.in-Err.answer c.refuse.result c.refuse.ensures.line
    (told_refused _ _ held (files_named (texts c.args.names.now)) c.in-Err.answer members
    (if_some_elim _ (g.F.Files.state c.args.files.now).held held e c.in-Err.ensures.program) load))

pub returns-in-Err-clause-reported : goal.returns-in-Err-clause-reported
returns-in-Err-clause-reported g c = reports_of (loading_no_run c.in-Err.answer c.in-Err.ensures.others) c.refuse.ensures.line

pub returns-in-Ok-clause-command : goal.returns-in-Ok-clause-command
returns-in-Ok-clause-command g c is = command_refuses c.image_answer.result c.image_answer.ensures.no_refusal is

pub returns-in-Err-clause-command : goal.returns-in-Err-clause-command
returns-in-Err-clause-command g c is = no_command c.in-Err.answer c.refuse.result c.in-Err.ensures.others c.refuse.ensures.line is

pub returns-in-Ok-clause-leaves : goal.returns-in-Ok-clause-leaves
returns-in-Ok-clause-leaves g c =
    leaves_after c.image_answer.result (read_kept (only_read c.in-Ok.ensures.reads)) c.image_answer.ensures.leaves

pub returns-in-Err-clause-leaves : goal.returns-in-Err-clause-leaves
returns-in-Err-clause-leaves g c =
    leaves_both refl refl refl (refused_ends c.in-Err.answer c.refuse.result (loading_no_write c.in-Err.answer c.in-Err.ensures.others)
    (loading_no_read c.in-Err.answer c.in-Err.ensures.others) (err_counts c.in-Err.answer FileFault c.in-Err.ensures.reads.file_fault)
    (err_wants c.in-Err.answer NoMemory c.in-Err.ensures.reads.file_want)
    c.in-Err.ensures.reads.absence (absence_of c.in-Err.answer c.refuse.result c.refuse.ensures.line) c.refuse.ensures.line)

pub returns-in-Err-clause-untouched : goal.returns-in-Err-clause-untouched
returns-in-Err-clause-untouched g c is = c.in-Err.ensures.reads.files

pub returns-in-Ok-clause-settled : goal.returns-in-Ok-clause-settled
returns-in-Ok-clause-settled g c = c.image_answer.ensures.settled

pub returns-in-Err-clause-settled : goal.returns-in-Err-clause-settled
returns-in-Err-clause-settled g c o e n = (o, c.refuse.ensures.settled n)

-- a linked file that is not there

pub returns-in-Ok-clause-missed : goal.returns-in-Ok-clause-missed
returns-in-Ok-clause-missed g c = refusal_unlinked c.image_answer.result c.image_answer.ensures.no_refusal

pub returns-in-Err-clause-missed : goal.returns-in-Err-clause-missed
returns-in-Err-clause-missed g c = given_link c.in-Err.answer c.refuse.result c.refuse.ensures.line c.in-Err.ensures.missed
