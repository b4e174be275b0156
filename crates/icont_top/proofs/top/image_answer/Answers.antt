use Rattle.std.proofs.Common.{◌∙◌, ap, arith, refl}
use Rattle.std.specs.Option.{option_map}
use Rattle.icn_answer.specs.declared.answer.Answer.TheVariants.{Wrote}
use Rattle.icn_run_answer.proofs.CountCauses.{after_files, run_ends, torn_ends, written_ends}
use Rattle.icn_run_answer.proofs.OutsideLeft.{leaves_both}
use Rattle.icn_answer.proofs.NoFaults.{wrote_no_fault}
use Rattle.icn_answer.proofs.TornAnswers.{is_torn}
use Rattle.icn_run_answer.proofs.Reports.{own_reports}
use Rattle.icont_words.specs.Asking.{run_seen}
use Rattle.icont_top.proofs.AnswersGiven.{said_name}
use Rattle.icont_top.proofs.CallOutcomes.{image_torn, ran_done, writes_image, writes_part, wrote_done}
use Rattle.icont_top.proofs.top.image_answer.Goals as goal

pub returns-in-Some-clause-done : goal.returns-in-Some-clause-done
returns-in-Some-clause-done g c words held members ready e =
    ran_done _ _ _ _ _ _ members c.args.plan c.args.program.now (run_seen c.in-Some.asked) c.ran_answer.result _ c.one_spelling.ensures.read_back
    c.outsides_grow.ensures.on_stacks ready e
    (writes_image _ _ c.args.plan members (said_name c.args.plan.image c.args.program.now.base _ members c.unwrap_or.ensures ready.is.base)
    (c.deref.ensures.value ∙ ready.is.made.bytes) c.in-Ok.ensures.ok)
    (record {
      faults = c.in-Ok.ensures.cause.stayed (λ e. cc);
      wants = c.in-Ok.ensures.want.stayed (λ e. cc);
      absences = omega (arith, c.in-Ok.ensures.absences);
    })
    (ap (option_map run_seen) c.in-Some.is) c.ran_answer.ensures.others c.ran_answer.ensures.ran c.ran_answer.ensures.over

pub returns-in-None-clause-done : goal.returns-in-None-clause-done
returns-in-None-clause-done g c words held members ready e =
    wrote_done _ _ members c.args.plan c.args.program.now _ _ _ _ c.one_spelling.ensures.read_back ready e
    (writes_image _ _ c.args.plan members (said_name c.args.plan.image c.args.program.now.base _ members c.unwrap_or.ensures ready.is.base)
    (c.deref.ensures.value ∙ ready.is.made.bytes) c.in-Ok.ensures.ok) c.in-None.is

pub returns-in-Err-clause-done : goal.returns-in-Err-clause-done
returns-in-Err-clause-done g c words held members ready e =
    image_torn _ _ members c.args.plan c.args.program.now c.in-Err.fault c.torn_answer.result _ _ _ _ _ ready
    (writes_part _ _ c.args.plan members (said_name c.args.plan.image c.args.program.now.base _ members c.unwrap_or.ensures ready.is.base)
    (c.deref.ensures.value ∙ ready.is.made.bytes) c.in-Err.ensures.err) c.torn_answer.ensures.failed c.torn_answer.ensures.wanted
    c.torn_answer.ensures.others c.in-Err.ensures.cause c.in-Err.ensures.want c.torn_answer.ensures.puts

pub returns-in-Err-clause-reported : goal.returns-in-Err-clause-reported
returns-in-Err-clause-reported g c =
    own_reports c.torn_answer.result (is_torn c.torn_answer.result c.torn_answer.ensures.others) c.torn_answer.ensures.puts

pub returns-in-Some-clause-leaves : goal.returns-in-Some-clause-leaves
returns-in-Some-clause-leaves g c = record {
  causes = after_files c.ran_answer.result
      (record {
        faults = c.in-Ok.ensures.cause.stayed (λ e. cc);
        wants = c.in-Ok.ensures.want.stayed (λ e. cc);
        absences = omega (arith, c.in-Ok.ensures.absences);
      })
      (run_ends c.ran_answer.result c.ran_answer.ensures.others c.ran_answer.ensures.causes);
  input = c.ran_answer.ensures.taken;
  refused = λ none. absurd (none c.ran_answer.ensures.others);
  unread = λ none. absurd (none c.ran_answer.ensures.others);
  uncalled = λ none. absurd (none c.ran_answer.ensures.others);
}

pub returns-in-None-clause-leaves : goal.returns-in-None-clause-leaves
returns-in-None-clause-leaves g c =
    leaves_both refl refl refl (written_ends Wrote wrote_no_fault (λ absent. absent) (record {
      faults = c.in-Ok.ensures.cause.stayed (λ e. cc);
      wants = c.in-Ok.ensures.want.stayed (λ e. cc);
      absences = omega (arith, c.in-Ok.ensures.absences);
    }))

pub returns-in-Err-clause-leaves : goal.returns-in-Err-clause-leaves
returns-in-Err-clause-leaves g c =
    leaves_both refl refl refl (torn_ends c.in-Err.fault c.torn_answer.result c.torn_answer.ensures.failed c.torn_answer.ensures.wanted
    c.torn_answer.ensures.others c.in-Err.ensures.cause c.in-Err.ensures.want c.in-Err.ensures.absences c.torn_answer.ensures.puts)

pub returns-in-Some-clause-settled : goal.returns-in-Some-clause-settled
returns-in-Some-clause-settled g c = c.ran_answer.ensures.settled

pub returns-in-None-clause-settled : goal.returns-in-None-clause-settled
returns-in-None-clause-settled g c o e n = (o, e)

pub returns-in-Err-clause-settled : goal.returns-in-Err-clause-settled
returns-in-Err-clause-settled g c o e n = absurd (n (is_torn c.torn_answer.result c.torn_answer.ensures.others))
