use Rattle.icont_units.proofs.JudgedTexts.{named, not_named}
use Rattle.icn_answer.proofs.ToldContent.{if_some_elim, if_some_intro}
use Rattle.icont_units.proofs.ucode.named_unit.Goals as goal

pub returns-in-Ok-clause-comes : goal.returns-in-Ok-clause-comes
returns-in-Ok-clause-comes g c =
    if_some_intro (g.F.Files.state c.args.files.now).held _ (λ held e. named held c.args.base.now c.in-Ok.texts c.unit_read.result
    (if_some_elim _ (g.F.Files.state c.args.files.now).held held e c.in-Ok.ensures.texts) c.unit_read.ensures.judged)

pub returns-in-Err-clause-comes : goal.returns-in-Err-clause-comes
returns-in-Err-clause-comes g c =
    if_some_intro (g.F.Files.state c.args.files.now).held _ (λ held e. not_named held c.args.base.now c.in-Err.answer
    (if_some_elim _ (g.F.Files.state c.args.files.now).held held e c.in-Err.ensures.texts))
