use Rattle.icn_prep.proofs.Faults.{fault_of_text}
use Rattle.icn_prep.proofs.given_line_laws.text_faults.Goals as goal

pub returns : goal.returns
returns c = fault_of_text
