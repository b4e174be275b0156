use Rattle.std.proofs.Common.{refl}
use Rattle.icn_host.proofs.SinkSteps.{on_err_always}
use Rattle.icn_host.proofs.ReaderSteps.{read_on, read_part_of}
use Rattle.icn_host.proofs.disk.read_first.Goals as goal

pub returns-in_err-n-clause-err : goal.returns-in_err-n-clause-err
returns-in_err-n-clause-err g c =
    on_err_always c.from_residual.result (read_part_of c.args.most c.loop-room.into.items c.loop-room.invariant c.from-room.ensures refl)

pub returns-in_err-extend_from_slice-clause-err : goal.returns-in_err-extend_from_slice-clause-err
returns-in_err-extend_from_slice-clause-err g c =
    on_err_always c.from_residual-in_err-extend_from_slice.result
    (read_part_of c.args.most c.extend_from_slice.new.self.items c.loop-room.invariant c.from-room.ensures
    c.in_err-extend_from_slice.ensures.items)

pub loop-room-preserved : goal.loop-room-preserved
loop-room-preserved g c =
    read_on _ c.read_some.new.buffer c.in_ok-n.n c.min-count.result c.loop-room.invariant c.loop-room-test.true c.in_ok-n.ensures.taken
    c.in_ok-n.ensures.within c.min-count.ensures c.in_ok-extend_from_slice.ensures.items
