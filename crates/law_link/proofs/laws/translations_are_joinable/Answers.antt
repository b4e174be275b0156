use Rattle.law_link.proofs.JoinableFiles.{file_joinable}
use Rattle.law_link.proofs.laws.translations_are_joinable.Goals as goal

pub returns : goal.returns
returns c name file faultless written = file_joinable name file faultless (c.codes_have_room.ensures file faultless.spelled) written
