use Rattle.std.proofs.Common.{arith}
use Rattle.icn_code.specs.CodeTables.{tables_of}
use Rattle.icn_running.proofs.NamedOrNot.{kind_there, kind_missing}
use Rattle.icn_running.proofs.names.kind_name.Goals as goal

pub returns-then-place-len : goal.returns-then-place-len
returns-then-place-len c =
    kind_there (tables_of c.args.code.now).strings c.args.code.now.records.items c.args.kind c.index.result.now c.text.result.now (omega arith)
    c.index.ensures c.text.ensures

pub returns-else-place-len : goal.returns-else-place-len
returns-else-place-len c = kind_missing (tables_of c.args.code.now).strings c.args.code.now.records.items c.args.kind (omega arith)
