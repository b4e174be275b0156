use Rattle.std.proofs.Common.{drop}
use Rattle.icn_text.specs.WordTexts.{texts}
use Rattle.std.proofs.lemmas.List.{drop_all}
use Rattle.icont_units.specs.FetchedFiles.{files_seen}
use Rattle.icont_units.proofs.NamedFiles.{all_named}
use Rattle.icont_units.proofs.files.files_named.Goals as goal

pub returns : goal.returns
returns c =
    all_named (files_seen c.loop-name.files.items) (texts c.loop-name.known.keys)
    (drop c.loop-name.name-index c.args.names.now) c.args.names.now c.loop-name.invariant
    (drop_all c.loop-name.name-index c.args.names.now c.loop-name-test.false)
