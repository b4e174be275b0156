use Rattle.std.proofs.Common.{◌≡◌, ◌+◌, ◌^◌, ◌<◌, drop}
use Rattle.icn_code.specs.Codes.{procs_of}
use Rattle.icn_link.specs.ImageSizes.{bodies_size}
use Rattle.icn_link.specs.LinkFaults.{count_told}
use Rattle.icn_link.proofs.image_size.bodies_size.Given as goal

abbrev pub invariant-loop-proc : goal.invariant-loop-proc
invariant-loop-proc l = record {
  sum : count_told (l.size + bodies_size (procs_of (drop l.proc-index l.procs))) ≡ count_told (bodies_size (procs_of l.procs));
  fits : l.size < 2 ^ 64;
}
