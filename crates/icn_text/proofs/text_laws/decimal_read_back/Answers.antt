use Rattle.icn_text.proofs.WrittenIntegers.{decimal_writes, decimal_found}
use Rattle.icn_text.proofs.text_laws.decimal_read_back.Goals as goal

pub returns-clause-writes : goal.returns-clause-writes
returns-clause-writes c = decimal_writes

pub returns-clause-found : goal.returns-clause-found
returns-clause-found c = decimal_found
