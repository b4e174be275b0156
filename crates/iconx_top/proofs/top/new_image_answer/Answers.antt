use Rattle.std.proofs.Common.{◌∙◌, arith, refl}
use Rattle.icn_code.specs.CodeTables.{tables_of}
use Rattle.icn_answer.specs.declared.answer.Answer.TheVariants.{Wrote}
use Rattle.icn_answer.proofs.FaultCounts.{no_cause, unmoved, unwanted}
use Rattle.icn_answer.proofs.NoFaults.{wrote_no_fault}
use Rattle.icn_answer.proofs.TornAnswers.{is_torn, torn_no_absence}
use Rattle.icn_run_answer.proofs.CountCauses.{absence_of, refused_ends, torn_ends, written_ends}
use Rattle.icn_run_answer.proofs.Reports.{own_reports, reports_of}
use Rattle.iconx_top.specs.Answered.{fault, writes}
use Rattle.iconx_top.specs.Outcomes.{all_written}
use Rattle.iconx_top.proofs.AskedAnswers.{answer_put}
use Rattle.iconx_top.proofs.CallOutcomes.{load_no_read, load_no_write, refused}
use Rattle.iconx_top.proofs.Migrations.{answered_too_long, asked_too_long, image_done, image_torn, of_image_loading, of_image_no_absence, of_image_no_file, part_leaves, sets_image, sets_part}
use Rattle.iconx_top.proofs.ReportLines.{load_unrun}
use Rattle.iconx_top.proofs.top.new_image_answer.Goals as goal

-- The new image was written

pub returns-in-Ok-write-clause-outcome : goal.returns-in-Ok-write-clause-outcome
returns-in-Ok-write-clause-outcome g c words held left input out asked named e =
    image_done c.args.asked.new_name.now (tables_of c.args.code.now.code) _ _ input out _ asked c.in-Ok.ensures.image.1 e
    (sets_image held _ _ c.args.asked.new_name.now c.deref.result.now _ e (c.deref.ensures.value ∙ c.in-Ok.ensures.image.0) c.in-Ok-write.ensures.ok)

pub returns-in-Ok-write-clause-leaves : goal.returns-in-Ok-write-clause-leaves
returns-in-Ok-write-clause-leaves g c words held asked e = all_written refl (record {
  new = c.args.asked.new_name.now;
  tables = tables_of c.args.code.now.code;
  asked = asked;
  within = c.in-Ok.ensures.image.1;
  written = sets_image held _ _ c.args.asked.new_name.now c.deref.result.now _ e (c.deref.ensures.value ∙ c.in-Ok.ensures.image.0) c.in-Ok-write.ensures.ok;
})

pub returns-in-Ok-write-clause-answered : goal.returns-in-Ok-write-clause-answered
returns-in-Ok-write-clause-answered g c words held asked e =
    writes c.args.asked.new_name.now (tables_of c.args.code.now.code) asked c.in-Ok.ensures.image.1

pub returns-in-Ok-write-clause-causes : goal.returns-in-Ok-write-clause-causes
returns-in-Ok-write-clause-causes g c left input out =
    written_ends Wrote wrote_no_fault (λ absent. absent) (record {
      faults = c.in-Ok-write.ensures.cause.stayed (λ e. cc);
      wants = c.in-Ok-write.ensures.want.stayed (λ e. cc);
      absences = omega (arith, c.in-Ok-write.ensures.absences);
    })

-- It was not written whole

pub returns-in-Ok-clause-outcome : goal.returns-in-Ok-clause-outcome
returns-in-Ok-clause-outcome g c words held left input out asked named e =
    image_torn c.args.asked.new_name.now (tables_of c.args.code.now.code) c.in-Err-write.fault c.torn_answer.result _ _ input out _ _ asked
    c.in-Ok.ensures.image.1
    (sets_part _ _ c.args.asked.new_name.now c.deref.result.now _ (c.deref.ensures.value ∙ c.in-Ok.ensures.image.0) c.in-Err-write.ensures.err)
    c.torn_answer.ensures.failed c.torn_answer.ensures.wanted c.torn_answer.ensures.others c.in-Err-write.ensures.cause c.in-Err-write.ensures.want
    c.torn_answer.ensures.puts

pub returns-in-Ok-clause-leaves : goal.returns-in-Ok-clause-leaves
returns-in-Ok-clause-leaves g c words held asked e =
    part_leaves c.args.asked.new_name.now (tables_of c.args.code.now.code) c.in-Err-write.fault c.torn_answer.result _ _ asked c.in-Ok.ensures.image.1
    (sets_part _ _ c.args.asked.new_name.now c.deref.result.now _ (c.deref.ensures.value ∙ c.in-Ok.ensures.image.0) c.in-Err-write.ensures.err)
    c.torn_answer.ensures.failed c.torn_answer.ensures.wanted c.torn_answer.ensures.others c.in-Err-write.ensures.cause c.in-Err-write.ensures.want

pub returns-in-Ok-clause-reported : goal.returns-in-Ok-clause-reported
returns-in-Ok-clause-reported g c =
    own_reports c.torn_answer.result (is_torn c.torn_answer.result c.torn_answer.ensures.others) c.torn_answer.ensures.puts

pub returns-in-Ok-clause-answered : goal.returns-in-Ok-clause-answered
returns-in-Ok-clause-answered g c words held asked e =
    fault c.torn_answer.result (is_torn c.torn_answer.result c.torn_answer.ensures.others)

pub returns-in-Ok-clause-causes : goal.returns-in-Ok-clause-causes
returns-in-Ok-clause-causes g c left input out =
    torn_ends c.in-Err-write.fault c.torn_answer.result c.torn_answer.ensures.failed c.torn_answer.ensures.wanted c.torn_answer.ensures.others
    c.in-Err-write.ensures.cause c.in-Err-write.ensures.want c.in-Err-write.ensures.absences c.torn_answer.ensures.puts

-- It would be too long, or memory was wanting

pub returns-clause-outcome : goal.returns-clause-outcome
returns-clause-outcome g c words held left input out asked named e =
    refused c.args.asked.image.now c.in-Err.answer c.refuse.result _ _ _ _ _ _ _
    (asked_too_long c.args.asked.new_name.now c.args.asked.image.now (tables_of c.args.code.now.code) c.in-Err.answer asked named c.in-Err.ensures.others
    c.in-Err.ensures.image)
    (load_no_write c.in-Err.answer (of_image_loading c.in-Err.answer c.in-Err.ensures.others))
    (load_no_read c.in-Err.answer (of_image_loading c.in-Err.answer c.in-Err.ensures.others)) refl e refl c.refuse.ensures.line

pub returns-clause-reported : goal.returns-clause-reported
returns-clause-reported g c =
    reports_of (load_unrun c.in-Err.answer (of_image_loading c.in-Err.answer c.in-Err.ensures.others)) c.refuse.ensures.line

pub returns-clause-answered : goal.returns-clause-answered
returns-clause-answered g c words held asked e =
    answer_put c.in-Err.answer c.refuse.result
    (answered_too_long c.args.asked.new_name.now (tables_of c.args.code.now.code) c.in-Err.answer asked c.in-Err.ensures.others c.in-Err.ensures.image)
    c.refuse.ensures.line

pub returns-clause-causes : goal.returns-clause-causes
returns-clause-causes g c left input out =
    refused_ends c.in-Err.answer c.refuse.result
    (load_no_write c.in-Err.answer (of_image_loading c.in-Err.answer c.in-Err.ensures.others))
    (load_no_read c.in-Err.answer (of_image_loading c.in-Err.answer c.in-Err.ensures.others))
    (unmoved (of_image_no_file c.in-Err.answer c.in-Err.ensures.others)) unwanted
    (no_cause (of_image_no_absence c.in-Err.answer c.in-Err.ensures.others))
    (absence_of c.in-Err.answer c.refuse.result c.refuse.ensures.line) c.refuse.ensures.line

-- What is pending

pub returns-in-Ok-write-clause-settled : goal.returns-in-Ok-write-clause-settled
returns-in-Ok-write-clause-settled g c out o e n = (o, e)

pub returns-in-Ok-clause-settled : goal.returns-in-Ok-clause-settled
returns-in-Ok-clause-settled g c out o e n = absurd (n (is_torn c.torn_answer.result c.torn_answer.ensures.others))

pub returns-clause-settled : goal.returns-clause-settled
returns-clause-settled g c out o e n = (o, c.refuse.ensures.settled n)

-- that the image is there

pub returns-in-Ok-clause-present : goal.returns-in-Ok-clause-present
returns-in-Ok-clause-present g c absent = torn_no_absence c.torn_answer.result c.torn_answer.ensures.others absent

pub returns-clause-present : goal.returns-clause-present
returns-clause-present g c absent =
    of_image_no_absence c.in-Err.answer c.in-Err.ensures.others (absence_of c.in-Err.answer c.refuse.result c.refuse.ensures.line absent)
