use Rattle.law_source.proofs.GivenLines.{lines_are_bytes}
use Rattle.law_source.proofs.laws.lines_of_bytes.Goals as goal

pub returns : goal.returns
returns c = lines_are_bytes
