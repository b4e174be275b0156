use Rattle.icn_code.specs.CodeTables.{tables_of}
use Rattle.icn_control.proofs.LiteralSteps.{cset_runs}
use Rattle.icn_control.proofs.literals.push_cset.Goals as goal

pub returns-clause-step : goal.returns-clause-step
returns-clause-step g c =
    cset_runs c.args.frames.now.flat c.push.new.self.flat
    (tables_of c.args.code.now) c.args.index c.cset_at-set.result c.cset_at-set.ensures c.in_ok-push.ensures.ok
