use Rattle.icn_host.specs.Writers.{kept_held}
use Rattle.icn_host.proofs.KeptSteps.{ok_behind, err_behind}
use Rattle.icn_host.proofs.kept.Kept.write_behind.Goals as goal

pub returns-clause-ok : goal.returns-clause-ok
returns-clause-ok g c =
    ok_behind (kept_held g.W.Write.contents c.args.self.now) (g.W.Write.contents c.flush.new.self.writer) (g.W.Write.contents c.write_whole.new.writer)
    c.args.piece.now c.flush.new.self.bytes.items c.flush.new.self.at c.write_whole.result c.flush.ensures.same c.in_ok-flush.ensures.settled
    c.write_whole.ensures.ok

pub returns-clause-err : goal.returns-clause-err
returns-clause-err g c =
    err_behind (kept_held g.W.Write.contents c.args.self.now) (g.W.Write.contents c.flush.new.self.writer) (g.W.Write.contents c.write_whole.new.writer)
    c.args.piece.now c.flush.new.self.bytes.items c.flush.new.self.at c.write_whole.result c.flush.ensures.same c.in_ok-flush.ensures.settled
    c.write_whole.ensures.err
