use Rattle.icn_link.specs.JoinableUnits.{is_joinable}
use Rattle.icont_top.proofs.RefusedJobs.{no_fault_asked}
use Rattle.icont_top.proofs.OneJob.{one_job}
use Rattle.icont_top.proofs.SomeJob.{Laws}
use Rattle.icont_top.proofs.SoundSources.{ByteLaws, some_job}
use Rattle.icont_top.proofs.job_laws.one_job.Goals as goal

pub returns-clause-some : goal.returns-clause-some
returns-clause-some c =
    let laws : Laws is_joinable = record {
      rules = c.one_spelling.ensures.rules;
      spelled = c.one_spelling.ensures.spelled;
      kept = c.joined_keeps_rules.ensures.joinable;
      translations = c.translations_join.ensures;
      verified = c.joined_code_is_verified.ensures;
      least = c.kept_is_least.ensures.of_code;
      pruned_rules = c.pruned_code_fits.ensures;
      pruned_verified = c.pruned_code_is_verified.ensures;
      no_fault = c.one_fault.ensures.no_fault;
      judged = c.one_fault.ensures.judged;
      means = c.programs_mean.ensures;
      ends = c.runs_end.ensures.verified;
    } in
    let bytes : ByteLaws = record {
      lines = c.lines_of_bytes.ensures;
      texts = c.texts_of_bytes.ensures;
      translations = c.translations_are_joinable.ensures;
      units = c.units_are_joinable.ensures;
      rules = c.one_spelling.ensures.rules;
    } in
    some_job laws bytes c.one_reading.ensures.some

pub returns-clause-one : goal.returns-clause-one
returns-clause-one c = one_job c.one_reading.ensures.one c.one_observation.ensures c.one_fault.ensures.one_fault c.one_fault.ensures.no_fault

pub returns-clause-faultless : goal.returns-clause-faultless
returns-clause-faultless c = no_fault_asked
