use Rattle.std.proofs.Common.{◌≡◌, take, true}
use Rattle.std.specs.List.{list_all}
use Rattle.icn_save.specs.Reading.{has_text_name}
use Rattle.icn_save.specs.Saves.{calls_of}
use Rattle.icn_save.specs.Slices.{calls_in}
use Rattle.icn_save.proofs.reading.calls.Given as goal

abbrev pub invariant-loop-slice : goal.invariant-loop-slice
invariant-loop-slice l = (calls_of l.calls.items ≡ calls_in (take l.slice-index l.slices))
    × (list_all has_text_name (calls_in (take l.slice-index l.slices)) ≡ true)
