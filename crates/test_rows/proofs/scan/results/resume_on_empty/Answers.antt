use Rattle.icn_vars.proofs.KeptOutcomes.{residual_stays}
use Rattle.test_rows.proofs.scan.results.resume_on_empty.Goals as goal

pub resume_residual-requires-clause-rest : goal.resume_residual-requires-clause-rest
resume_residual-requires-clause-rest c = residual_stays c.assign_keyword.ensures.kept.items c.args.rest c.requires.rest
