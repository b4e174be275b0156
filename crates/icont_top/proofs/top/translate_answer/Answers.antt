use Rattle.std.proofs.Common.{◌∙◌, ap}
use Rattle.icn_answer.specs.declared.answer.Answer.TheVariants.{FileFault, NoMemory}
use Rattle.icn_answer.proofs.FaultCounts.{err_counts, err_wants}
use Rattle.icn_run_answer.proofs.CountCauses.{after_files, refused_ends, absence_of}
use Rattle.icn_run_answer.proofs.OutsideLeft.{read_kept}
use Rattle.icn_run_answer.proofs.Reports.{reports_of}
use Rattle.icn_answer.proofs.ToldContent.{if_some_elim, if_some_intro}
use Rattle.icn_answer.proofs.TornAnswers.{only_read}
use Rattle.icn_text.specs.WordTexts.{texts}
use Rattle.icont_top.specs.Writing.{texts_seen}
use Rattle.icont_top.proofs.AnswersGiven.{command_refuses, given_link, loading_no_image, loading_no_read, loading_no_run, loading_no_write, no_command, of_loading, refusal_unlinked}
use Rattle.icont_top.proofs.CallOutcomes.{refused_done, units_asked}
use Rattle.icont_top.proofs.LoadedProgram.{loading_unlinked}
use Rattle.icont_top.proofs.ReadBefore.{held_as}
use Rattle.icont_top.proofs.top.translate_answer.Goals as goal

pub returns-in-Ok-clause-done : goal.returns-in-Ok-clause-done
returns-in-Ok-clause-done g c words left input out asks =
    if_some_intro (g.F.Files.state c.args.files.now).held _ (λ held e.
    let made = if_some_elim _ (g.F.Files.state c.args.files.now).held held e c.in-Ok.ensures.translated in
    held_as _ _ (only_read c.in-Ok.ensures.reads) e (c.texts_answer.ensures.done words held made.0 left input out
    (record { names = texts c.args.names.now; asks = asks; come = made.1.0 }) (ap texts_seen c.deref.ensures.value ∙ made.1.1.0) made.1.1.1
    (c.in-Ok.ensures.reads.files ∙ e)))

pub returns-in-Err-clause-done : goal.returns-in-Err-clause-done
returns-in-Err-clause-done g c words left input out asks =
    if_some_intro (g.F.Files.state c.args.files.now).held _ (λ held e.
    refused_done c.in-Err.answer c.refuse.result _ _ left input out _ _ (loading_no_image c.in-Err.answer (of_loading c.in-Err.answer c.in-Err.ensures.others))
    (loading_no_write c.in-Err.answer (of_loading c.in-Err.answer c.in-Err.ensures.others))
    (loading_no_read c.in-Err.answer (of_loading c.in-Err.answer c.in-Err.ensures.others))
    (units_asked (texts c.args.names.now) c.in-Err.answer asks (if_some_elim _ (g.F.Files.state c.args.files.now).held held e c.in-Err.ensures.translated))
    c.in-Err.ensures.reads.files c.refuse.ensures.line)

pub returns-in-Err-clause-reported : goal.returns-in-Err-clause-reported
returns-in-Err-clause-reported g c = reports_of (loading_no_run c.in-Err.answer (of_loading c.in-Err.answer c.in-Err.ensures.others)) c.refuse.ensures.line

pub returns-in-Ok-clause-command : goal.returns-in-Ok-clause-command
returns-in-Ok-clause-command g c is = command_refuses c.texts_answer.result c.texts_answer.ensures.no_refusal is

pub returns-in-Err-clause-command : goal.returns-in-Err-clause-command
returns-in-Err-clause-command g c is = no_command c.in-Err.answer c.refuse.result (of_loading c.in-Err.answer c.in-Err.ensures.others) c.refuse.ensures.line is

pub returns-in-Ok-clause-causes : goal.returns-in-Ok-clause-causes
returns-in-Ok-clause-causes g c left input out =
    after_files c.texts_answer.result (read_kept (only_read c.in-Ok.ensures.reads)) (c.texts_answer.ensures.causes left input out)

pub returns-in-Err-clause-causes : goal.returns-in-Err-clause-causes
returns-in-Err-clause-causes g c left input out =
    refused_ends c.in-Err.answer c.refuse.result (loading_no_write c.in-Err.answer (of_loading c.in-Err.answer c.in-Err.ensures.others))
    (loading_no_read c.in-Err.answer (of_loading c.in-Err.answer c.in-Err.ensures.others))
    (err_counts c.in-Err.answer FileFault c.in-Err.ensures.reads.file_fault) (err_wants c.in-Err.answer NoMemory c.in-Err.ensures.reads.file_want)
    c.in-Err.ensures.reads.absence
    (absence_of c.in-Err.answer c.refuse.result c.refuse.ensures.line) c.refuse.ensures.line

pub returns-in-Err-clause-untouched : goal.returns-in-Err-clause-untouched
returns-in-Err-clause-untouched g c is = c.in-Err.ensures.reads.files

pub returns-in-Ok-clause-settled : goal.returns-in-Ok-clause-settled
returns-in-Ok-clause-settled g c out = c.texts_answer.ensures.settled out

pub returns-in-Err-clause-settled : goal.returns-in-Err-clause-settled
returns-in-Err-clause-settled g c out o e n = (o, c.refuse.ensures.settled n)

-- a linked file that is not there

pub returns-in-Ok-clause-missed : goal.returns-in-Ok-clause-missed
returns-in-Ok-clause-missed g c = refusal_unlinked c.texts_answer.result c.texts_answer.ensures.no_refusal

pub returns-in-Err-clause-missed : goal.returns-in-Err-clause-missed
returns-in-Err-clause-missed g c =
    given_link c.in-Err.answer c.refuse.result c.refuse.ensures.line (loading_unlinked c.in-Err.answer c.in-Err.ensures.others)
