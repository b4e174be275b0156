use Rattle.std.proofs.Common.{arith}
use Rattle.icn_code.specs.CodeTables.{tables_of}
use Rattle.iconx_top.proofs.JudgedImages.{code_judged, fault_judged, too_many}
use Rattle.iconx_top.proofs.load.judge.Goals as goal

pub returns-then-bytes-gt-LONGEST-clause-judged : goal.returns-then-bytes-gt-LONGEST-clause-judged
returns-then-bytes-gt-LONGEST-clause-judged c all t = too_many c.args.bytes.now all (omega arith) t

pub returns-in-Ok-clause-judged : goal.returns-in-Ok-clause-judged
returns-in-Ok-clause-judged c all t =
    code_judged c.args.bytes.now all (tables_of c.in-Ok.code) c.verify_code.result (omega arith) t c.in-Ok.ensures.exact c.verify_code.ensures.checked

pub returns-in-Err-clause-judged : goal.returns-in-Err-clause-judged
returns-in-Err-clause-judged c all t = rw c.fault_answer.ensures (fault_judged c.args.bytes.now all c.in-Err.fault (omega arith) t c.in-Err.ensures.exact)
