use Rattle.icn_units.proofs.WrittenFiles.{spelled_bytes, spelled_fits}
use Rattle.icn_units.proofs.code_laws.names_and_literals_fit.Goals as goal

pub returns-clause-short : goal.returns-clause-short
returns-clause-short c file spelled = spelled_fits file spelled

pub returns-clause-bytes : goal.returns-clause-bytes
returns-clause-bytes c file spelled bytes = spelled_bytes file spelled bytes
