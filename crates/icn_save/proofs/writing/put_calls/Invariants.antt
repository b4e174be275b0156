use Rattle.std.proofs.Common.{◌≡◌, ◌++◌, length, take}
use Rattle.std.specs.Int.{w32, to_le_bytes}
use Rattle.std.specs.List.{flat_map}
use Rattle.icn_save.specs.Saves.{calls_of}
use Rattle.icn_save.specs.Spelling.{call}
use Rattle.icn_save.proofs.writing.put_calls.Given as goal

abbrev pub invariant-loop-saved : goal.invariant-loop-saved
invariant-loop-saved l =
    l.out.items ≡ l.fn.out.items ++ (to_le_bytes w32 (length l.calls) ++ flat_map call (calls_of (take l.saved-index l.calls)))
