use Rattle.std.proofs.Common.{◌∙◌}
use Rattle.icont_units.specs.Sources.{scan_of}
use Rattle.icont_units.proofs.CheckedSources.{is_source, no_source}
use Rattle.icont_units.proofs.StageAnswers.{tokens_others}
use Rattle.icn_answer.proofs.ToldContent.{if_some_elim, if_some_intro}
use Rattle.icont_units.proofs.source.checked_source.Goals as goal

pub returns-in-Ok-source_tokens-clause-comes : goal.returns-in-Ok-source_tokens-clause-comes
returns-in-Ok-source_tokens-clause-comes g c =
    if_some_intro (g.F.Files.state c.args.files.now).held
    _ (λ held e. is_source held c.args.base.now c.deref.result.now (scan_of c.in-Ok-source_tokens.source) c.checked_tokens.result
    (c.deref.ensures ∙ c.in-Ok.ensures)
    (if_some_elim _ (g.F.Files.state c.args.files.now).held held e c.in-Ok-source_tokens.ensures.read) c.checked_tokens.ensures.file)

pub returns-clause-comes : goal.returns-clause-comes
returns-clause-comes g c =
    if_some_intro (g.F.Files.state c.args.files.now).held _ (λ held e. no_source held c.args.base.now c.deref.result.now c.in-Err.answer
    (c.deref.ensures ∙ c.in-Ok.ensures) (if_some_elim _ (g.F.Files.state c.args.files.now).held held e c.in-Err.ensures.read))

pub returns-in-Ok-source_tokens-clause-others : goal.returns-in-Ok-source_tokens-clause-others
returns-in-Ok-source_tokens-clause-others g c = tokens_others c.checked_tokens.result c.checked_tokens.ensures.others
