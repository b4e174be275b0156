use Rattle.icn_host.proofs.ToldPuts.{all_flushed, stops_flushed}
use Rattle.icn_host.proofs.put.put_line.Goals as goal

pub returns-clause-ok : goal.returns-clause-ok
returns-clause-ok g c =
    all_flushed _ _ c.flush.result c.in_ok-put_piece.ensures.ok c.flush.ensures.same c.flush.ensures.cause c.flush.ensures.want

pub returns-clause-err : goal.returns-clause-err
returns-clause-err g c =
    stops_flushed _ _ c.flush.result c.in_ok-put_piece.ensures.ok c.flush.ensures.same c.flush.ensures.cause c.flush.ensures.want
