use Rattle.std.proofs.Common.{◌≡◌, map, take, true}
use Rattle.std.specs.Prelude.{string_bytes}
use Rattle.std.specs.List.{list_all}
use Rattle.std.specs.Str.{is_utf8}
use Rattle.icn_save.specs.Slices.{texts_in}
use Rattle.icn_save.proofs.reading.texts.Given as goal

abbrev pub invariant-loop-word : goal.invariant-loop-word
invariant-loop-word l = (map string_bytes l.texts.items ≡ texts_in (take l.word-index l.words))
    × (list_all is_utf8 (texts_in (take l.word-index l.words)) ≡ true)
