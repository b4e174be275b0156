use Rattle.std.proofs.Common.{◌≡◌, ◌++◌, length, take}
use Rattle.std.specs.Int.{w32, to_le_bytes}
use Rattle.std.specs.List.{flat_map}
use Rattle.icn_image.specs.Spelling.{integer}
use Rattle.icn_image.proofs.writing.put_integers.Given as goal

abbrev pub invariant-loop-integer : goal.invariant-loop-integer
invariant-loop-integer l = l.out.items ≡ l.fn.out.items ++ (to_le_bytes w32 (length l.integers) ++ flat_map integer (take l.integer-index l.integers))
