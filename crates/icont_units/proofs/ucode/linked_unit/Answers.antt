use Rattle.std.proofs.Common.{refl}
use Rattle.icn_answer.proofs.FaultCounts.{unmoved, unwanted}
use Rattle.icont_units.proofs.JudgedTexts.{linked, lost, no_cause, not_linked, not_text}
use Rattle.icn_answer.proofs.ToldContent.{if_some_elim, if_some_intro}
use Rattle.icont_units.proofs.ucode.linked_unit.Goals as goal

pub returns-in_default-clause-links : goal.returns-in_default-clause-links
returns-in_default-clause-links g c = if_some_intro (g.F.Files.state c.args.files.now).held _
    (λ held e. not_text held c.args.base.now c.in_default.ensures.cases.0)

pub returns-in_default-clause-reads : goal.returns-in_default-clause-reads
returns-in_default-clause-reads g c = record {
  files = refl;
  file_fault = unmoved (λ e. cc);
  file_want = unwanted;
  absence = no_cause (g.F.Files.state c.args.files.now).counts.absences c.args.base.now c.in_default.ensures.cases.0;
}

pub returns-in-Ok-unit_read-clause-links : goal.returns-in-Ok-unit_read-clause-links
returns-in-Ok-unit_read-clause-links g c =
    if_some_intro (g.F.Files.state c.args.files.now).held _
    (λ held e. linked held c.args.base.now c.in-Ok.base.now c.in-Ok-both_texts.texts c.in-Ok-unit_read.unit
    c.in-Ok.ensures.cases.0 c.in-Ok.ensures.cases.1
    (if_some_elim _ (g.F.Files.state c.args.files.now).held held e c.in-Ok-both_texts.ensures.texts) c.in-Ok-unit_read.ensures.judged)

pub returns-in-Ok-both_texts-clause-links : goal.returns-in-Ok-both_texts-clause-links
returns-in-Ok-both_texts-clause-links g c =
    if_some_intro
    (g.F.Files.state c.args.files.now).held _ (λ held e. not_linked held c.args.base.now c.in-Ok.base.now c.in-Ok-both_texts.texts c.in-Err-unit_read.answer
    c.in-Ok.ensures.cases.0 c.in-Ok.ensures.cases.1
    (if_some_elim _ (g.F.Files.state c.args.files.now).held held e c.in-Ok-both_texts.ensures.texts) c.in-Err-unit_read.ensures.judged)

pub returns-in-Err-Missing-clause-links : goal.returns-in-Err-Missing-clause-links
returns-in-Err-Missing-clause-links g c =
    if_some_intro (g.F.Files.state c.args.files.now).held _
    (λ held e. lost held c.args.base.now c.in-Ok.base.now c.in-Err-Missing.field-0 c.in-Err-Missing.field-0-0
    c.in-Ok.ensures.cases.0 c.in-Err-Missing.field-0-is (if_some_elim _ (g.F.Files.state c.args.files.now).held held e c.in-Err-Missing.ensures.texts))
