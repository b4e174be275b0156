use Rattle.std.proofs.Common.{◌≡◌, ◌++◌, drop}
use Rattle.icont_units.specs.Files.{sources_in}
use Rattle.icont_units.specs.FetchedFiles.{files_seen}
use Rattle.icont_units.proofs.files.sources_in.Given as goal

abbrev pub invariant-loop-file : goal.invariant-loop-file
invariant-loop-file l = files_seen l.found.items ++ sources_in (files_seen (drop l.file-index l.files)) ≡ sources_in (files_seen l.files)
