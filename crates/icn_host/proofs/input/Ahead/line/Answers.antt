use Rattle.std.proofs.Common.{refl}
use Rattle.std.specs.List.{slice_range}
use Rattle.icn_host.proofs.SinkSteps.{on_err_always}
use Rattle.icn_host.proofs.LineSteps.{line_start, line_part, line_on, line_plain, line_whole}
use Rattle.icn_host.proofs.input.Ahead.line.Goals as goal

pub loop-rest-init : goal.loop-rest-init
loop-rest-init g c = line_start _ _ _

pub returns-in_err-fill-clause-err : goal.returns-in_err-fill-clause-err
returns-in_err-fill-clause-err g c = on_err_always c.from_residual.result (line_part _ _ _ c.loop-rest.invariant c.fill.ensures.same refl)

pub returns-then-count-room-clause-err : goal.returns-then-count-room-clause-err
returns-then-count-room-clause-err g c = line_part _ _ _ c.loop-rest.invariant c.fill.ensures.same refl

pub returns-in_err-extend_from_slice-clause-err : goal.returns-in_err-extend_from_slice-clause-err
returns-in_err-extend_from_slice-clause-err g c =
    on_err_always c.from_residual-in_err-extend_from_slice.result
    (line_part _ _ _ c.loop-rest.invariant c.fill.ensures.same c.in_err-extend_from_slice.ensures.items)

pub returns-then-count-rest-clause-ok : goal.returns-then-count-rest-clause-ok
returns-then-count-rest-clause-ok g c =
    line_whole c.fill.new.self.bytes c.fill.new.self.at c.fill.new.self.end c.line_len-count.result _ c.extend_from_slice.new.self.items
    c.loop-rest.invariant c.fill.ensures.same c.fill.new.self.from_start c.fill.new.self.within c.line_len-count.ensures c.if-count-rest.true
    c.in_ok-extend_from_slice.ensures.items

pub loop-rest-preserved : goal.loop-rest-preserved
loop-rest-preserved g c =
    line_on c.fill.new.self.bytes c.fill.new.self.at c.fill.new.self.end c.line_len-count.result _ c.extend_from_slice.new.self.items
    c.loop-rest.invariant c.fill.ensures.same c.fill.new.self.from_start c.fill.new.self.within c.line_len-count.ensures c.if-count-rest.false
    c.if-count-room.false c.in_ok-extend_from_slice.ensures.items

pub returns-then-count-rest-clause-plain : goal.returns-then-count-rest-clause-plain
returns-then-count-rest-clause-plain g c =
    line_plain (slice_range c.fill.new.self.bytes c.fill.new.self.at c.fill.new.self.end) c.line_len-count.result c.extend_from_slice.new.self.items
    c.loop-rest.invariant c.line_len-count.ensures
    c.in_ok-extend_from_slice.ensures.items
