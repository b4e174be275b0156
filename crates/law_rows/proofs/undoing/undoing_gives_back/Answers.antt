use Rattle.law_rows.proofs.Undone.{gives_back, key_back, part_back}
use Rattle.law_rows.proofs.undoing.undoing_gives_back.Goals as goal

pub returns-clause-whole : goal.returns-clause-whole
returns-clause-whole c = gives_back

pub returns-clause-key : goal.returns-clause-key
returns-clause-key c = key_back

pub returns-clause-part : goal.returns-clause-part
returns-clause-part c = part_back
