use Rattle.std.proofs.Common.{Err}
use Rattle.icont_units.specs.Translating.{TokensGive}
use Rattle.icont_units.proofs.StageAnswers.{refused_rules}
use Rattle.icont_units.proofs.source.checked_tokens.Goals as goal

pub returns-in-Err-Broken-clause-others : goal.returns-in-Err-Broken-clause-others
returns-in-Err-Broken-clause-others c =
    let are : TokensGive c.deref.result.now (Err (c.in-Err-Broken.rule, c.in-Err-Broken.place)) = rw c.in-Err-Broken.field-0-is at c.in-Err-Broken.ensures in
    refused_rules c.deref-in-Err-Broken.result.now c.deref.result.now c.in-Err-Broken.rule c.in-Err-Broken.place c.refused_at.result are c.refused_at.ensures
