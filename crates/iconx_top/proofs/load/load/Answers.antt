use Rattle.iconx_top.proofs.JudgedImages.{loaded, no_absence, no_file_fault, of_loading}
use Rattle.std.proofs.Common.{inl, refl}
use Rattle.icn_answer.proofs.FaultCounts.{counts_if}
use Rattle.iconx_top.proofs.Absences.{judged_absences, missing_absences}
use Rattle.iconx_top.proofs.load.load.Goals as goal

pub returns-in-Ok-clause-loaded : goal.returns-in-Ok-clause-loaded
returns-in-Ok-clause-loaded g c = loaded
    (g.F.Files.state c.args.files.now).held c.args.name.now c.new-bytes.result.items c.deref.result.now c.read.new.into.items
    c.judge.result c.new-bytes.ensures.items c.deref.ensures.value c.in-Ok.ensures.ok c.judge.ensures.judged

pub returns-in-Ok-clause-others : goal.returns-in-Ok-clause-others
returns-in-Ok-clause-others g c = of_loading c.judge.result c.judge.ensures.others

pub returns-in-Ok-clause-reads : goal.returns-in-Ok-clause-reads
returns-in-Ok-clause-reads g c = record {
  files = c.read.ensures.same;
  file_fault = record {
    later = c.read.ensures.cause.later;
    rose = λ is. absurd (no_file_fault c.judge.result c.judge.ensures.others is);
    stayed = λ n. c.in-Ok.ensures.cause.stayed (λ is. cc);
  };
  file_want = counts_if c.read.ensures.want.later (inl (c.in-Ok.ensures.want.stayed (λ is. cc)));
  absence = record { later = c.read.ensures.absence.later; rose = λ is. absurd (no_absence c.judge.result c.judge.ensures.others is) };
}

-- how often a file was not there

pub returns-in-Ok-clause-absences : goal.returns-in-Ok-clause-absences
returns-in-Ok-clause-absences g c = judged_absences c.judge.result c.judge.ensures.others (c.in-Ok.ensures.absence.stayed (λ is. cc))

pub returns-in-Err-NotThere-clause-absences : goal.returns-in-Err-NotThere-clause-absences
returns-in-Err-NotThere-clause-absences g c =
    let absence = rw c.in-Err-NotThere.field-0-is at c.in-Err-NotThere.ensures.absence in
    missing_absences c.missing_image.result c.args.name.now c.missing_image.ensures (absence.rose refl)

pub returns-in-Err-Failed-clause-absences : goal.returns-in-Err-Failed-clause-absences
returns-in-Err-Failed-clause-absences g c =
    let absence = rw c.in-Err-Failed.field-0-is at c.in-Err-Failed.ensures.absence in
    inl (absence.stayed (λ is. cc), λ absent. absent)
