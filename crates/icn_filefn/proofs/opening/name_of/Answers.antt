-- Bytes are a name where they are UTF-8.
use Rattle.icn_filefn.proofs.NamedTexts.{is_no_text, is_text}
use Rattle.icn_filefn.proofs.opening.name_of.Goals as goal

pub returns-in_default-clause-text : goal.returns-in_default-clause-text
returns-in_default-clause-text c = is_no_text c.args.bytes.now c.in_default.ensures.cases.0

pub returns-clause-text : goal.returns-clause-text
returns-clause-text c = is_text c.args.bytes.now c.in-Ok.ensures.cases.1
