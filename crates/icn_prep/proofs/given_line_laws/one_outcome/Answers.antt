use Rattle.std.proofs.Common.{refl, sym}
use Rattle.icn_prep.specs.SourceLines.{source_lines}
use Rattle.icn_prep.proofs.given_line_laws.one_outcome.Goals as goal

pub returns : goal.returns
returns c = λ files name. (source_lines files name, refl, λ other is. sym is)
