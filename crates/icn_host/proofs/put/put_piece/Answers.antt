use Rattle.icn_host.proofs.ToldPuts.{all_of, stops_by}
use Rattle.icn_host.proofs.put.put_piece.Goals as goal

pub returns-clause-ok : goal.returns-clause-ok
returns-clause-ok g c = all_of _ _ _ c.put.result c.put.ensures.ok c.put.ensures.cause c.put.ensures.want

pub returns-clause-err : goal.returns-clause-err
returns-clause-err g c = stops_by _ _ _ c.put.result c.put.ensures.err c.put.ensures.cause c.put.ensures.want
