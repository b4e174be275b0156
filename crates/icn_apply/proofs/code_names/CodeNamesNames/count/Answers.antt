use Rattle.std.proofs.Common.{◌≤◌, arith}
use Rattle.icn_apply.proofs.RuleCounts.{few_procs, few_records}
use Rattle.icn_apply.proofs.code_names.CodeNamesNames.count.Goals as goal

pub overflow_add-result-2 : goal.overflow_add-result-2
overflow_add-result-2 c =
    let code = c.args.self.now.code.now in
    let procs : c.len.result ≤ 16777216 = let few = few_procs code in let ok = code.procs.ok in let len = c.len.ensures in omega arith in
    let records : c.len-2.result ≤ 65535 = let few = few_records code in let ok = code.records.ok in let len = c.len-2.ensures in omega arith in
    omega (arith, procs, records)

pub overflow_cast-result : goal.overflow_cast-result
overflow_cast-result c =
    let code = c.args.self.now.code.now in
    let procs : c.len.result ≤ 16777216 = let few = few_procs code in let ok = code.procs.ok in let len = c.len.ensures in omega arith in
    let records : c.len-2.result ≤ 65535 = let few = few_records code in let ok = code.records.ok in let len = c.len-2.ensures in omega arith in
    omega (arith, procs, records)
