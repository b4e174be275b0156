use Rattle.icont_top.proofs.WrittenTexts.{based_at}
use Rattle.icont_top.proofs.writing.base_at.Goals as goal

pub returns-in-Some : goal.returns-in-Some
returns-in-Some c = based_at c.args.files.now c.args.place c.in-Some.file.now c.in-Some.ensures.lookup.3.0 c.in-Some.ensures.lookup.1
