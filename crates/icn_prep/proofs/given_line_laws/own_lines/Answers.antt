use Rattle.icn_prep.proofs.PlainFiles.{own_source}
use Rattle.icn_prep.proofs.given_line_laws.own_lines.Goals as goal

pub returns : goal.returns
returns c = own_source
