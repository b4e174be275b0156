use Rattle.std.proofs.Common.{◌++◌, ap, ◌∙◌}
use Rattle.icn_text.specs.WordTexts.{texts}
use Rattle.icont_units.specs.Files.{file_named}
use Rattle.icont_units.specs.FetchedFiles.{files_seen, new_files}
use Rattle.icont_units.proofs.NamedFiles.{known_file, new_file, was_known, was_new}
use Rattle.icont_units.proofs.files.enter.Goals as goal

pub returns-in_ok-push : goal.returns-in_ok-push
returns-in_ok-push c rest =
    ap (λ items. files_seen items ++ new_files (texts c.insert.new.self.keys) rest) c.in_ok-push.ensures.items
    ∙ new_file c.args.known.now.keys c.insert.new.self.keys c.file_named-file.result c.args.files.now.items rest
    (was_new c.in_ok-insert.field-0 _ c.in_ok-insert.ensures.added c.if-branch.true) c.in_ok-insert.ensures.keys
    (file_named c.args.name.now) c.file_named-file.ensures

pub returns-else-branch : goal.returns-else-branch
returns-else-branch c rest =
    known_file c.args.known.now.keys c.insert.new.self.keys c.file_named-file.result c.args.files.now.items rest
    (was_known c.in_ok-insert.field-0 _ c.in_ok-insert.ensures.added c.if-branch.false) c.in_ok-insert.ensures.keys
    (file_named c.args.name.now) c.file_named-file.ensures
