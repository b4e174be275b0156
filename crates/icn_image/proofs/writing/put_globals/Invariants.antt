use Rattle.std.proofs.Common.{◌≡◌, ◌++◌, length, take}
use Rattle.std.specs.Int.{w32, to_le_bytes}
use Rattle.std.specs.List.{flat_map}
use Rattle.icn_image.specs.Spelling.{global}
use Rattle.icn_image.proofs.writing.put_globals.Given as goal

abbrev pub invariant-loop-global : goal.invariant-loop-global
invariant-loop-global l = l.out.items ≡ l.fn.out.items ++ (to_le_bytes w32 (length l.globals) ++ flat_map (global w32) (take l.global-index l.globals))
