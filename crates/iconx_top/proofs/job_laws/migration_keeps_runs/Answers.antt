use Rattle.iconx_top.proofs.NewImages.{new_judged, runs_alike}
use Rattle.iconx_top.proofs.job_laws.migration_keeps_runs.Goals as goal

pub returns-clause-judged : goal.returns-clause-judged
returns-clause-judged c = new_judged c.one_spelling.ensures.kept c.one_spelling.ensures.read_back

pub returns-clause-alike : goal.returns-clause-alike
returns-clause-alike c = runs_alike c.one_spelling.ensures.kept c.one_spelling.ensures.read_back
