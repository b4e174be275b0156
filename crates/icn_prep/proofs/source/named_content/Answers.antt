use Rattle.std.proofs.Common.{◌∙◌, take, ap, ◌++◌}
use Rattle.icn_prep.proofs.StoreLookups.{if_some_weaker, answers, named_there}
use Rattle.icn_prep.proofs.source.named_content.Goals as goal

pub returns-in-Ok-clause-exact : goal.returns-in-Ok-clause-exact
returns-in-Ok-clause-exact g c =
    if_some_weaker (g.F.Files.state c.args.files.now).held
    (λ held read.
    let inner = named_there held c.args.name.now read.0 read.1 in
    answers held c.args.name.now c.read.new.into.items c.not_longer.result _ inner.0 read.0 read.1 (read.2 ∙ ap (λ had. had ++ take 16777217 read.0)
    c.new-content.ensures.items) inner.1 (record { ok = c.not_longer.ensures.ok; err = c.not_longer.ensures.err })) c.in-Ok.ensures.ok
