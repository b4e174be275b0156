use Rattle.law_source.proofs.ParsedTexts.{texts_are_bytes}
use Rattle.law_source.proofs.laws.texts_of_bytes.Goals as goal

pub returns : goal.returns
returns c = texts_are_bytes
