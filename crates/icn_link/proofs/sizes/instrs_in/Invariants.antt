use Rattle.std.proofs.Common.{◌≡◌, ◌+◌, ◌^◌, ◌<◌, drop}
use Rattle.std.specs.List.{sum_by}
use Rattle.icn_link.specs.LinkFaults.{count_told, size_of}
use Rattle.icn_link.specs.Views.{procs_seen}
use Rattle.icn_link.proofs.sizes.instrs_in.Given as goal

abbrev pub invariant-loop-proc : goal.invariant-loop-proc
invariant-loop-proc l = record {
  sum : count_told (l.count + sum_by size_of (procs_seen (drop l.proc-index l.procs))) ≡ count_told (sum_by size_of (procs_seen l.procs));
  fits : l.count < 2 ^ 64;
}
