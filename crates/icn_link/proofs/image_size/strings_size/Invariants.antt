use Rattle.std.proofs.Common.{◌≡◌, ◌+◌, ◌^◌, ◌<◌, drop}
use Rattle.icn_link.specs.ImageSizes.{strings_size}
use Rattle.icn_link.specs.LinkFaults.{count_told}
use Rattle.icn_link.proofs.image_size.strings_size.Given as goal

abbrev pub invariant-loop-string : goal.invariant-loop-string
invariant-loop-string l = record {
  sum : count_told (l.size + strings_size (drop l.string-index l.strings)) ≡ count_told (strings_size l.strings);
  fits : l.size < 2 ^ 64;
}
