use Rattle.icn_host.proofs.SinkSteps.{on_err_always}
use Rattle.icn_host.proofs.ReaderSteps.{taken_part, take_on, take_all_left}
use Rattle.std.proofs.Common.{refl}
use Rattle.icn_host.proofs.input.Ahead.take.Goals as goal

pub returns-in_err-fill-clause-err : goal.returns-in_err-fill-clause-err
returns-in_err-fill-clause-err g c = on_err_always c.from_residual.result (taken_part _ _ c.loop-room.invariant c.fill.ensures.same refl)

pub returns-in_err-count-clause-err : goal.returns-in_err-count-clause-err
returns-in_err-count-clause-err g c =
    on_err_always c.from_residual-in_err-count.result (taken_part _ _ c.loop-room.invariant c.fill.ensures.same c.in_err-count.ensures.err)

pub returns-then-count-eq0-clause-ok : goal.returns-then-count-eq0-clause-ok
returns-then-count-eq0-clause-ok g c =
    take_all_left c.fill.new.self.bytes c.fill.new.self.at c.fill.new.self.end c.in_ok-count.count _ c.take_first.new.into.items
    c.loop-room.invariant c.fill.ensures.same c.fill.new.self.from_start c.fill.new.self.within c.loop-room-test.true c.in_ok-fill.ensures.end
    c.if-count-eq0.true
    c.in_ok-count.ensures.ok.2 c.in_ok-count.ensures.ok.1

pub loop-room-preserved : goal.loop-room-preserved
loop-room-preserved g c =
    take_on c.fill.new.self.bytes c.fill.new.self.at c.fill.new.self.end c.in_ok-count.count _ c.take_first.new.into.items
    c.loop-room.invariant c.fill.ensures.same c.fill.new.self.from_start c.fill.new.self.within c.in_ok-count.ensures.ok.1 c.in_ok-count.ensures.ok.2
