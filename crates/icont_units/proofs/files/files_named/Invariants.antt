use Rattle.std.proofs.Common.{◌≡◌, [], ◌++◌, drop, map}
use Rattle.icn_text.specs.WordTexts.{texts}
use Rattle.icont_units.specs.Files.{file_named}
use Rattle.icont_units.specs.FetchedFiles.{files_seen, new_files}
use Rattle.icont_units.proofs.files.files_named.Given as goal

abbrev pub invariant-loop-name : goal.invariant-loop-name
invariant-loop-name l = files_seen l.files.items ++ new_files (texts l.known.keys) (map file_named (texts (drop l.name-index l.names)))
    ≡ new_files [] (map file_named (texts l.names))
