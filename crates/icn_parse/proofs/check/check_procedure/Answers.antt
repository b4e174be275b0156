use Rattle.std.proofs.Common.{rules}
use Rattle.icn_parse.proofs.UnknownKeywords.{unknown_kept}
use Rattle.icn_parse.proofs.check.check_procedure.Goals as goal

pub returns-in_err-check : goal.returns-in_err-check
returns-in_err-check c = search (rules, unknown_kept)
