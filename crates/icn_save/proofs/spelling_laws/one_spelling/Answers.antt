use Rattle.icn_save.proofs.OneSpelling.{kept_all, one_save, save_again, spelled_all}
use Rattle.icn_save.proofs.spelling_laws.one_spelling.Goals as goal

pub returns-clause-kept : goal.returns-clause-kept
returns-clause-kept c = kept_all

pub returns-clause-spelled : goal.returns-clause-spelled
returns-clause-spelled c = spelled_all

pub returns-clause-read_back : goal.returns-clause-read_back
returns-clause-read_back c = save_again

pub returns-clause-once : goal.returns-clause-once
returns-clause-once c = one_save
