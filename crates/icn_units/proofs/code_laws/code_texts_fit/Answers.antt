use Rattle.icn_units.proofs.CodeTexts.{code_names_fit, code_operands_fit}
use Rattle.icn_units.proofs.code_laws.code_texts_fit.Goals as goal

pub returns-clause-names : goal.returns-clause-names
returns-clause-names c passes met procedure faultless written = code_names_fit passes met procedure faultless written

pub returns-clause-operands : goal.returns-clause-operands
returns-clause-operands c passes met procedure faultless written = code_operands_fit passes met procedure faultless written
