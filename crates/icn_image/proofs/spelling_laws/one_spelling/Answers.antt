use Rattle.icn_image.proofs.WholeImage.{image_again, kept_all, one_code, spelled_all, whole_held, written_again}
use Rattle.icn_image.proofs.spelling_laws.one_spelling.Goals as goal

pub returns-clause-kept : goal.returns-clause-kept
returns-clause-kept c = kept_all

pub returns-clause-spelled : goal.returns-clause-spelled
returns-clause-spelled c = spelled_all

pub returns-clause-read_again : goal.returns-clause-read_again
returns-clause-read_again c = image_again

pub returns-clause-read_back : goal.returns-clause-read_back
returns-clause-read_back c = written_again

pub returns-clause-once : goal.returns-clause-once
returns-clause-once c = one_code

pub returns-clause-whole : goal.returns-clause-whole
returns-clause-whole c = whole_held
