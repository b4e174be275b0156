use Rattle.std.proofs.Common.{◌≡◌, ◌++◌, take}
use Rattle.std.specs.List.{flat_map}
use Rattle.icn_defs.specs.Images.{escape_of}
use Rattle.icn_convert.proofs.quotes.push_escaped_all.Given as goal

abbrev pub invariant-loop-byte : goal.invariant-loop-byte
invariant-loop-byte l = l.out.items ≡ l.initial.out.items ++ flat_map (escape_of l.quote) (take l.byte-index l.text)
