use Rattle.std.proofs.Common.{◌≡◌, ◌+◌, ◌^◌, ◌<◌, drop}
use Rattle.icn_link.specs.ImageSizes.{body_size}
use Rattle.icn_link.specs.LinkFaults.{count_told}
use Rattle.icn_link.proofs.image_size.body_size.Given as goal

abbrev pub invariant-loop-instr : goal.invariant-loop-instr
invariant-loop-instr l = record {
  sum : count_told (l.size + body_size (drop l.instr-index l.instrs)) ≡ count_told (body_size l.instrs);
  fits : l.size < 2 ^ 64;
}
