use Rattle.std.proofs.Common.{◌≡◌, ◌+◌, ◌≤◌, ◌++◌, drop}
use Rattle.std.specs.List.{sum_by}
use Rattle.icn_code.specs.Codes.{procs_of}
use Rattle.icn_verify.specs.FirstStatics.{first_statics_from}
use Rattle.icn_verify.proofs.StaticsLoop.{statics_in}
use Rattle.icn_verify.proofs.statics.first_statics.Given as goal

abbrev pub invariant-loop-proc : goal.invariant-loop-proc
invariant-loop-proc l = record {
  made : l.firsts.items ++ first_statics_from l.before (procs_of (drop l.proc-index l.procs)) ≡ first_statics_from 0 (procs_of l.procs);
  few : l.before + sum_by statics_in (procs_of (drop l.proc-index l.procs)) ≤ 4294967295;
}
