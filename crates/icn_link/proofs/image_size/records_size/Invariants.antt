use Rattle.std.proofs.Common.{◌≡◌, ◌+◌, ◌^◌, ◌<◌, drop}
use Rattle.icn_code.specs.Codes.{records_of}
use Rattle.icn_link.specs.ImageSizes.{records_size}
use Rattle.icn_link.specs.LinkFaults.{count_told}
use Rattle.icn_link.proofs.image_size.records_size.Given as goal

abbrev pub invariant-loop-record : goal.invariant-loop-record
invariant-loop-record l = record {
  sum : count_told (l.size + records_size (records_of (drop l.record-index l.records))) ≡ count_told (records_size (records_of l.records));
  fits : l.size < 2 ^ 64;
}
