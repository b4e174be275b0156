use Rattle.std.proofs.Common.{◌≡◌, ◌++◌, drop}
use Rattle.icn_link.specs.Units.{units_seen}
use Rattle.icont_units.specs.FetchedFiles.{files_seen}
use Rattle.icont_top.specs.Writing.{bases, texts_seen, units_written}
use Rattle.icont_top.proofs.writing.ucode_texts.Given as goal

abbrev pub invariant-loop-place : goal.invariant-loop-place
invariant-loop-place l = texts_seen l.texts.items ++ units_written (drop l.place (bases (files_seen l.sources))) (units_seen (drop l.place l.units))
    ≡ units_written (bases (files_seen l.sources)) (units_seen l.units)
