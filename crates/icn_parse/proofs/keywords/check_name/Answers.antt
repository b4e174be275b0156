use Rattle.std.proofs.Common.{sym, ◌∙◌}
use Rattle.icn_parse.proofs.UnknownKeywords.{name_unknown}
use Rattle.icn_parse.proofs.keywords.check_name.Goals as goal

pub returns-in-None : goal.returns-in-None
returns-in-None c = name_unknown c.args.name.now (λ any same. c.in-None.ensures.none any (same ∙ sym c.as_slice.ensures))
