use Rattle.icn_value.specs.Store.{bare_outside}
use Rattle.icn_vars.specs.Outcomes.{answer_of}
use Rattle.test_rows.proofs.NamesKept.{function_comes}
use Rattle.test_rows.proofs.structures.calls.row_answer.Goals as goal

pub sort-requires-clause-named : goal.sort-requires-clause-named
sort-requires-clause-named c = c.requires.named.world.heap

pub returns-in-Copy-clause-named : goal.returns-in-Copy-clause-named
returns-in-Copy-clause-named c =
    function_comes c.args.func c.args.w.now c.copy.new.w c.args.l.now.vals.items c.args.args.now (answer_of c.copy.result)
    c.requires.named c.requires.args_named c.requires.args (rw c.in-Copy.is (c.copy.ensures.row bare_outside))

pub returns-in-Delete-clause-named : goal.returns-in-Delete-clause-named
returns-in-Delete-clause-named c =
    function_comes c.args.func c.args.w.now c.delete.new.w c.args.l.now.vals.items c.args.args.now (answer_of c.delete.result)
    c.requires.named c.requires.args_named c.requires.args (rw c.in-Delete.is (c.delete.ensures.row bare_outside))

pub returns-in-Get-clause-named : goal.returns-in-Get-clause-named
returns-in-Get-clause-named c =
    function_comes c.args.func c.args.w.now c.get.new.w c.args.l.now.vals.items c.args.args.now (answer_of c.get.result)
    c.requires.named c.requires.args_named c.requires.args (rw c.in-Get.is (c.get.ensures.row bare_outside))

pub returns-in-Insert-clause-named : goal.returns-in-Insert-clause-named
returns-in-Insert-clause-named c =
    function_comes c.args.func c.args.w.now c.insert.new.w c.args.l.now.vals.items c.args.args.now (answer_of c.insert.result)
    c.requires.named c.requires.args_named c.requires.args (rw c.in-Insert.is (c.insert.ensures.row bare_outside))

pub returns-in-List-clause-named : goal.returns-in-List-clause-named
returns-in-List-clause-named c =
    function_comes c.args.func c.args.w.now c.list.new.w c.args.l.now.vals.items c.args.args.now (answer_of c.list.result)
    c.requires.named c.requires.args_named c.requires.args (rw c.in-List.is (c.list.ensures.row bare_outside))

pub returns-in-Member-clause-named : goal.returns-in-Member-clause-named
returns-in-Member-clause-named c =
    function_comes c.args.func c.args.w.now c.args.w.now c.args.l.now.vals.items c.args.args.now (answer_of c.member.result)
    c.requires.named c.requires.args_named c.requires.args (rw c.in-Member.is (c.member.ensures.row bare_outside))

pub returns-in-Pop-clause-named : goal.returns-in-Pop-clause-named
returns-in-Pop-clause-named c =
    function_comes c.args.func c.args.w.now c.get-in-Pop.new.w c.args.l.now.vals.items c.args.args.now (answer_of c.get-in-Pop.result)
    c.requires.named c.requires.args_named c.requires.args (rw c.in-Pop.is (c.get-in-Pop.ensures.row bare_outside))

pub returns-in-Pull-clause-named : goal.returns-in-Pull-clause-named
returns-in-Pull-clause-named c =
    function_comes c.args.func c.args.w.now c.pull.new.w c.args.l.now.vals.items c.args.args.now (answer_of c.pull.result)
    c.requires.named c.requires.args_named c.requires.args (rw c.in-Pull.is (c.pull.ensures.row bare_outside))

pub returns-in-Push-clause-named : goal.returns-in-Push-clause-named
returns-in-Push-clause-named c =
    function_comes c.args.func c.args.w.now c.push.new.w c.args.l.now.vals.items c.args.args.now (answer_of c.push.result)
    c.requires.named c.requires.args_named c.requires.args (rw c.in-Push.is (c.push.ensures.row bare_outside))

pub returns-in-Put-clause-named : goal.returns-in-Put-clause-named
returns-in-Put-clause-named c =
    function_comes c.args.func c.args.w.now c.put.new.w c.args.l.now.vals.items c.args.args.now (answer_of c.put.result)
    c.requires.named c.requires.args_named c.requires.args (rw c.in-Put.is (c.put.ensures.row bare_outside))

pub returns-in-Set-clause-named : goal.returns-in-Set-clause-named
returns-in-Set-clause-named c =
    function_comes c.args.func c.args.w.now c.set.new.w c.args.l.now.vals.items c.args.args.now (answer_of c.set.result)
    c.requires.named c.requires.args_named c.requires.args (rw c.in-Set.is (c.set.ensures.row bare_outside))

pub returns-in-Sort-clause-named : goal.returns-in-Sort-clause-named
returns-in-Sort-clause-named c =
    function_comes c.args.func c.args.w.now c.sort.new.w c.args.l.now.vals.items c.args.args.now (answer_of c.sort.result)
    c.requires.named c.requires.args_named c.requires.args (rw c.in-Sort.is (c.sort.ensures.row bare_outside))

pub returns-in-Table-clause-named : goal.returns-in-Table-clause-named
returns-in-Table-clause-named c =
    function_comes c.args.func c.args.w.now c.table.new.w c.args.l.now.vals.items c.args.args.now (answer_of c.table.result)
    c.requires.named c.requires.args_named c.requires.args (rw c.in-Table.is (c.table.ensures.row bare_outside))
