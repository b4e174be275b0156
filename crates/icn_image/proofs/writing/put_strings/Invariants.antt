use Rattle.std.proofs.Common.{◌≡◌, ◌++◌, length, take}
use Rattle.std.specs.Int.{w32, to_le_bytes}
use Rattle.std.specs.List.{flat_map}
use Rattle.icn_image.specs.Spelling.{string}
use Rattle.icn_image.proofs.writing.put_strings.Given as goal

abbrev pub invariant-loop-string : goal.invariant-loop-string
invariant-loop-string l = l.out.items ≡ l.fn.out.items ++ (to_le_bytes w32 (length l.strings) ++ flat_map (string w32) (take l.string-index l.strings))
