use Rattle.std.proofs.Common.{arith}
use Rattle.std.proofs.lemmas.List.{length-map}
use Rattle.icn_code.specs.Codes.{proc_of}
use Rattle.icn_code.specs.CodeTables.{tables_of}
use Rattle.icn_prune.proofs.TableRules.{few_entries}
use Rattle.icn_prune.proofs.keeping.mark_each.Goals as goal

pub overflow_cast-number : goal.overflow_cast-number
overflow_cast-number c =
    let few = (few_entries (tables_of c.args.code.now) c.args.code.now.rules).procs in
    let many = length-map c.args.code.now.procs.items proc_of in
    omega (arith, few, many, c.len-number-end.ensures, c.args.code.now.procs.ok.0, c.loop-number-test.true, c.loop-number.auto.number-end)
