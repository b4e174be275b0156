use Rattle.std.specs.Prelude.{nat_le}
use Rattle.std.proofs.lemmas.Bool.{leb-true}
use Rattle.icn_unit.specs.PlainUnits.{PlainProc}
use Rattle.icn_link.specs.Joined.{locals_in, statics_in}
use Rattle.icn_link.specs.LinkFaults.{size_of}
use Rattle.icn_link.specs.Views.{gathered_seen}
use Rattle.icn_link.proofs.KeptProcs.{at_item}
use Rattle.icn_link.proofs.linking.entries.Goals as goal

pub put_entry-requires-clause-size : goal.put_entry-requires-clause-size
put_entry-requires-clause-size c =
    leb-true
    _ _ (at_item (λ (proc : PlainProc). nat_le (size_of proc) 16777216) c.args.procs.now c.loop-proc.proc-index
    c.proc-item.result c.loop-proc-test.true c.proc-item.is c.requires.sizes)

pub put_entry-requires-clause-locals : goal.put_entry-requires-clause-locals
put_entry-requires-clause-locals c =
    leb-true
    _ _ (at_item (λ (proc : PlainProc). nat_le (locals_in (gathered_seen c.args.tables.now).globals proc.names) 65535) c.args.procs.now c.loop-proc.proc-index
    c.proc-item.result c.loop-proc-test.true c.proc-item.is c.requires.locals)

pub put_entry-requires-clause-statics : goal.put_entry-requires-clause-statics
put_entry-requires-clause-statics c =
    leb-true
    _ _ (at_item (λ (proc : PlainProc). nat_le (statics_in (gathered_seen c.args.tables.now).globals proc.names) 65535) c.args.procs.now c.loop-proc.proc-index
    c.proc-item.result c.loop-proc-test.true c.proc-item.is c.requires.statics)
