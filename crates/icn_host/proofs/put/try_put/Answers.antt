use Rattle.icn_host.proofs.ToldPuts.{puts_by}
use Rattle.icn_host.proofs.put.try_put.Goals as goal

pub returns-clause-puts : goal.returns-clause-puts
returns-clause-puts g c = puts_by _ _ _ c.put_line.result c.put_line.ensures.ok c.put_line.ensures.err
