use Rattle.icn_text.proofs.WrittenIntegers.{written, so_written}
use Rattle.icn_text.proofs.text_laws.found_integer.Goals as goal

pub returns-clause-found : goal.returns-clause-found
returns-clause-found c = written

pub returns-clause-written : goal.returns-clause-written
returns-clause-written c = so_written
