use Rattle.std.proofs.Common.{inr}
use Rattle.icn_iofn.proofs.PutSteps.{breaks_behind, other_settled, puts_behind, settling_breaks, still_one_settled}
use Rattle.icn_iofn.proofs.putting.put_behind.Goals as goal

pub returns-in_err-flush-clause-err : goal.returns-in_err-flush-clause-err
returns-in_err-flush-clause-err g c =
    settling_breaks c.args.text.now (g.S.Sink.state c.args.sink.now) (g.T.Sink.state c.args.other.now) (g.T.Sink.state c.flush.new.self)
    c.in_err-flush.field-0.0 c.from_residual.result c.from_residual.ensures.1 c.flush.ensures.same c.in_err-flush.ensures.cause
    c.in_err-flush.ensures.want

pub returns-clause-ok : goal.returns-clause-ok
returns-clause-ok g c =
    puts_behind c.args.text.now _ _ (g.T.Sink.state c.args.other.now) (g.T.Sink.state c.flush.new.self) c.put.result c.put.ensures.ok c.put.ensures.cause
    c.put.ensures.want (other_settled c.in_ok-flush.field-0 c.flush.ensures.same c.in_ok-flush.ensures.cause c.in_ok-flush.ensures.want)

pub returns-clause-err : goal.returns-clause-err
returns-clause-err g c =
    breaks_behind c.args.text.now _ _ (g.T.Sink.state c.args.other.now) (g.T.Sink.state c.flush.new.self) c.put.result c.put.ensures.err c.put.ensures.cause
    c.put.ensures.want (other_settled c.in_ok-flush.field-0 c.flush.ensures.same c.in_ok-flush.ensures.cause c.in_ok-flush.ensures.want)

pub returns-in_err-flush-clause-one_settled : goal.returns-in_err-flush-clause-one_settled
returns-in_err-flush-clause-one_settled g c = λ one.
    still_one_settled (g.S.Sink.pending c.args.sink.now) (g.T.Sink.pending c.args.other.now) (g.T.Sink.pending c.flush.new.self) c.flush.ensures.kept one

pub returns-clause-one_settled : goal.returns-clause-one_settled
returns-clause-one_settled g c = λ one. inr c.in_ok-flush.ensures.settled
