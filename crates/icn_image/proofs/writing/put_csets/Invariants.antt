use Rattle.std.proofs.Common.{◌≡◌, ◌++◌, length, take}
use Rattle.std.specs.Int.{w32, to_le_bytes}
use Rattle.std.specs.List.{flat_map}
use Rattle.icn_image.specs.Spelling.{cset}
use Rattle.icn_image.proofs.writing.put_csets.Given as goal

abbrev pub invariant-loop-cset : goal.invariant-loop-cset
invariant-loop-cset l = l.out.items ≡ l.fn.out.items ++ (to_le_bytes w32 (length l.csets) ++ flat_map cset (take l.cset-index l.csets))
