-- The refusal of a region, as one of a heap.
use Rattle.icn_strings.specs.declared.full.RegionFull.{RegionFull}
use Rattle.icn_strings.specs.declared.full.RegionFull.TheVariants.{Strings as StringsRegion, NoMemory as NoRoom}
use Rattle.icn_value.specs.declared.full.Full.{Full}
use Rattle.icn_value.specs.declared.full.Full.TheVariants.{Strings, NoMemory}

-- why a heap refuses a charge that its region refuses
abbrev pub strings_full : RegionFull → Full
strings_full (StringsRegion sum limit) = Strings sum limit
strings_full NoRoom = NoMemory
