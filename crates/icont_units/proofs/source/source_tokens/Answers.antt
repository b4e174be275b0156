use Rattle.std.proofs.Common.{ap, Err}
use Rattle.icn_prep.specs.declared.fault.PrepFault.TheVariants as Prep
use Rattle.icn_answer.specs.declared.answer.Answer.TheVariants.{FileFault}
use Rattle.icont_units.proofs.EqualResults.{err_injective}
use Rattle.icont_units.proofs.NamedSources.{absence_from, file_fault_from, prep_read}
use Rattle.icont_units.proofs.source.source_tokens.Goals as goal

pub returns-in-Err-clause-reads : goal.returns-in-Err-clause-reads
returns-in-Err-clause-reads g c = record {
  files = c.in-Err.ensures.same;
  file_fault = record {
    later = c.in-Err.ensures.file_fault.later;
    rose = λ e. c.in-Err.ensures.file_fault.rose
        (ap (λ f. Err f)
        (file_fault_from c.args.name.now c.in-Err.fault c.fault_answer.result c.fault_answer.ensures.given (err_injective c.fault_answer.result FileFault e)));
    stayed = λ n. c.in-Err.ensures.file_fault.stayed
        (λ e. n (ap (λ a. Err a) (c.fault_answer.ensures.file_fault (err_injective c.in-Err.fault Prep.FileFault e))));
  };
  file_want = record {
    later = c.in-Err.ensures.file_want.later;
    once = c.in-Err.ensures.file_want.once;
    stayed = λ n. c.in-Err.ensures.file_want.stayed
        (λ e. n (ap (λ a. Err a) (c.fault_answer.ensures.wanted (err_injective c.in-Err.fault Prep.NoMemory e))));
  };
  absence = record {
    later = c.in-Err.ensures.absence.later;
    rose = λ a. c.in-Err.ensures.absence.rose (absence_from c.args.name.now c.in-Err.fault c.fault_answer.result c.fault_answer.ensures.given a);
  };
}

pub returns-in-Err-clause-others : goal.returns-in-Err-clause-others
returns-in-Err-clause-others g c =
    prep_read c.args.name.now c.in-Err.fault c.fault_answer.result c.in-Err.ensures.rule c.fault_answer.ensures.given
