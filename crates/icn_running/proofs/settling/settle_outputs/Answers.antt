use Rattle.std.proofs.Common.{None}
use Rattle.icn_host.specs.FileMaps.{store_counts, store_state}
use Rattle.icn_host.specs.Sources.{source_counts}
use Rattle.icn_vars.specs.declared.outcome.Halt.TheVariants.{ReadFault, WriteFault, FileFault, NoMemory}
use Rattle.icn_running.proofs.SettledEnds.{settles_at}
use Rattle.icn_running.proofs.settling.settle_outputs.Goals as goal

pub returns-in-Ok-clause-settles : goal.returns-in-Ok-clause-settles
returns-in-Ok-clause-settles g c = c.in-Ok.ensures.settles

pub returns-in-Err-WriteFault-clause-settles : goal.returns-in-Err-WriteFault-clause-settles
returns-in-Err-WriteFault-clause-settles g c =
    settles_at _ WriteFault (g.O.Sink.state c.args.out.now) (g.O.Sink.state c.settle.new.out) (g.E.Sink.state c.args.err.now)
    (g.E.Sink.state c.settle.new.err)
    c.in-Err-WriteFault.field-0-is c.in-Err-WriteFault.ensures.settles

pub returns-in-Err-NoMemory-clause-settles : goal.returns-in-Err-NoMemory-clause-settles
returns-in-Err-NoMemory-clause-settles g c =
    settles_at _ NoMemory (g.O.Sink.state c.args.out.now) (g.O.Sink.state c.settle.new.out) (g.E.Sink.state c.args.err.now)
    (g.E.Sink.state c.settle.new.err)
    c.in-Err-NoMemory.field-0-is c.in-Err-NoMemory.ensures.settles

pub unreachable-requires : goal.unreachable-requires
unreachable-requires g c =
    settles_at _ ReadFault (g.O.Sink.state c.args.out.now) (g.O.Sink.state c.settle.new.out) (g.E.Sink.state c.args.err.now)
    (g.E.Sink.state c.settle.new.err)
    c.in-Err-ReadFault.field-0-is c.in-Err-ReadFault.ensures.settles (store_state None (store_counts 0 0 0)) None (source_counts 0 0 0)

pub unreachable-requires-in-Err-Error : goal.unreachable-requires-in-Err-Error
unreachable-requires-in-Err-Error g c =
    settles_at _ _ (g.O.Sink.state c.args.out.now) (g.O.Sink.state c.settle.new.out) (g.E.Sink.state c.args.err.now)
    (g.E.Sink.state c.settle.new.err)
    c.in-Err-Error.field-0-is c.in-Err-Error.ensures.settles (store_state None (store_counts 0 0 0)) None (source_counts 0 0 0)

pub unreachable-requires-in-Err-Ends : goal.unreachable-requires-in-Err-Ends
unreachable-requires-in-Err-Ends g c =
    settles_at _ _ (g.O.Sink.state c.args.out.now) (g.O.Sink.state c.settle.new.out) (g.E.Sink.state c.args.err.now)
    (g.E.Sink.state c.settle.new.err)
    c.in-Err-Ends.field-0-is c.in-Err-Ends.ensures.settles (store_state None (store_counts 0 0 0)) None (source_counts 0 0 0)

pub unreachable-requires-in-Err-FileFault : goal.unreachable-requires-in-Err-FileFault
unreachable-requires-in-Err-FileFault g c =
    settles_at _ FileFault (g.O.Sink.state c.args.out.now) (g.O.Sink.state c.settle.new.out) (g.E.Sink.state c.args.err.now)
    (g.E.Sink.state c.settle.new.err)
    c.in-Err-FileFault.field-0-is c.in-Err-FileFault.ensures.settles (store_state None (store_counts 0 0 0)) None (source_counts 0 0 0)
