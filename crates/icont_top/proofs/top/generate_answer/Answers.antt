use Rattle.std.proofs.Common.{refl, ap, Ok, Err}
use Rattle.icn_answer.proofs.FaultCounts.{no_cause, unmoved, unwanted}
use Rattle.icn_run_answer.proofs.CountCauses.{refused_ends, absence_of}
use Rattle.icn_run_answer.proofs.OutsideLeft.{leaves_both}
use Rattle.icn_run_answer.proofs.Reports.{reports_of}
use Rattle.icn_answer.proofs.ToldContent.{if_some_intro}
use Rattle.icont_units.specs.Generated.{GeneratedComes}
use Rattle.icont_top.specs.Job.{of_number}
use Rattle.icont_top.proofs.AnswersGiven.{command_refuses, loading_no_image, loading_no_read, loading_no_run, loading_no_write, no_command}
use Rattle.icont_top.proofs.CallOutcomes.{asked_program, refused_done}
use Rattle.icont_top.proofs.top.generate_answer.Goals as goal

pub returns-in-Ok-clause-done : goal.returns-in-Ok-clause-done
returns-in-Ok-clause-done g c words asks =
    if_some_intro (g.F.Files.state c.args.files.now).held _ (λ held e.
    let made = c.in-Ok.ensures.program in
    c.image_answer.ensures.done words held made.0 (record { plans = of_number c.args.number c.args.turns (Ok made.0) asks made.1.0; is = made.1.1.1 }) e)

pub returns-in-Err-clause-done : goal.returns-in-Err-clause-done
returns-in-Err-clause-done g c words asks =
    if_some_intro (g.F.Files.state c.args.files.now).held _ (λ held e.
    refused_done c.in-Err.answer c.refuse.result _ _ _ _ _ _ _ (loading_no_image c.in-Err.answer c.in-Err.ensures.others)
    (loading_no_write c.in-Err.answer c.in-Err.ensures.others) (loading_no_read c.in-Err.answer c.in-Err.ensures.others)
    (asked_program (GeneratedComes c.args.number) _ c.in-Err.answer (λ result comes. of_number c.args.number c.args.turns result asks comes)
    c.in-Err.ensures.program) refl c.refuse.ensures.line)

pub returns-in-Err-clause-reported : goal.returns-in-Err-clause-reported
returns-in-Err-clause-reported g c = reports_of (loading_no_run c.in-Err.answer c.in-Err.ensures.others) c.refuse.ensures.line

pub returns-in-Ok-clause-command : goal.returns-in-Ok-clause-command
returns-in-Ok-clause-command g c is = command_refuses c.image_answer.result c.image_answer.ensures.no_refusal is

pub returns-in-Err-clause-command : goal.returns-in-Err-clause-command
returns-in-Err-clause-command g c is = no_command c.in-Err.answer c.refuse.result c.in-Err.ensures.others c.refuse.ensures.line is

pub returns-in-Err-clause-leaves : goal.returns-in-Err-clause-leaves
returns-in-Err-clause-leaves g c =
    leaves_both refl refl refl (refused_ends c.in-Err.answer c.refuse.result (loading_no_write c.in-Err.answer c.in-Err.ensures.others)
    (loading_no_read c.in-Err.answer c.in-Err.ensures.others) (unmoved (λ e. c.in-Err.ensures.no_file (ap (λ a. Err a) e))) unwanted
    (no_cause c.in-Err.ensures.no_absence)
    (absence_of c.in-Err.answer c.refuse.result c.refuse.ensures.line) c.refuse.ensures.line)

pub returns-in-Ok-clause-leaves : goal.returns-in-Ok-clause-leaves
returns-in-Ok-clause-leaves g c = c.image_answer.ensures.leaves

pub returns-in-Ok-clause-settled : goal.returns-in-Ok-clause-settled
returns-in-Ok-clause-settled g c = c.image_answer.ensures.settled

pub returns-in-Err-clause-settled : goal.returns-in-Err-clause-settled
returns-in-Err-clause-settled g c o e n = (o, c.refuse.ensures.settled n)
