use Rattle.std.proofs.Common.{◌≡◌, ◌++◌, length, map, take}
use Rattle.std.specs.Prelude.{string_bytes}
use Rattle.std.specs.Int.{w32, to_le_bytes}
use Rattle.std.specs.List.{flat_map}
use Rattle.icn_save.specs.Spelling.{string}
use Rattle.icn_save.proofs.writing.put_words.Given as goal

abbrev pub invariant-loop-word : goal.invariant-loop-word
invariant-loop-word l =
    l.out.items ≡ l.fn.out.items ++ (to_le_bytes w32 (length l.words) ++ flat_map (string w32) (map string_bytes (take l.word-index l.words)))
