use Rattle.std.proofs.Common.{arith}
use Rattle.icn_answer.specs.declared.answer.Answer.TheVariants.{Wrote}
use Rattle.icn_run_answer.proofs.CountCauses.{torn_ends, written_ends}
use Rattle.icn_answer.proofs.NoFaults.{wrote_no_fault}
use Rattle.icn_answer.proofs.TornAnswers.{is_torn}
use Rattle.icn_run_answer.proofs.Reports.{own_reports}
use Rattle.icont_top.specs.Writing.{texts_seen}
use Rattle.icont_top.proofs.CallOutcomes.{units_done, units_torn}
use Rattle.icont_top.proofs.top.texts_answer.Goals as goal

pub returns-in-Ok-clause-done : goal.returns-in-Ok-clause-done
returns-in-Ok-clause-done g c words held members left input out is e read h =
    units_done _ _ members (texts_seen c.args.texts.now) left input out _ is e read h c.in-Ok.ensures.all

pub returns-in-Err-clause-done : goal.returns-in-Err-clause-done
returns-in-Err-clause-done g c words held members left input out is e read h =
    units_torn _ _ members (texts_seen c.args.texts.now) c.in-Err.fault c.torn_answer.result left input out _ _ is e c.in-Err.ensures.part
    c.torn_answer.ensures.failed c.torn_answer.ensures.wanted c.torn_answer.ensures.others c.in-Err.ensures.cause c.in-Err.ensures.want
    c.torn_answer.ensures.puts

pub returns-in-Err-clause-reported : goal.returns-in-Err-clause-reported
returns-in-Err-clause-reported g c =
    own_reports c.torn_answer.result (is_torn c.torn_answer.result c.torn_answer.ensures.others) c.torn_answer.ensures.puts

pub returns-in-Ok-clause-causes : goal.returns-in-Ok-clause-causes
returns-in-Ok-clause-causes g c left input out =
    written_ends Wrote wrote_no_fault (λ absent. absent) (record {
      faults = c.in-Ok.ensures.cause.stayed (λ e. cc);
      wants = c.in-Ok.ensures.want.stayed (λ e. cc);
      absences = omega (arith, c.in-Ok.ensures.absences);
    })

pub returns-in-Err-clause-causes : goal.returns-in-Err-clause-causes
returns-in-Err-clause-causes g c left input out =
    torn_ends c.in-Err.fault c.torn_answer.result c.torn_answer.ensures.failed c.torn_answer.ensures.wanted c.torn_answer.ensures.others
    c.in-Err.ensures.cause c.in-Err.ensures.want c.in-Err.ensures.absences c.torn_answer.ensures.puts

pub returns-in-Ok-clause-settled : goal.returns-in-Ok-clause-settled
returns-in-Ok-clause-settled g c out o e n = (o, e)

pub returns-in-Err-clause-settled : goal.returns-in-Err-clause-settled
returns-in-Err-clause-settled g c out o e n = absurd (n (is_torn c.torn_answer.result c.torn_answer.ensures.others))
