use Rattle.icn_text.proofs.FuncNames.{one_name as one_function}
use Rattle.icn_text.proofs.KeywordNames.{one_name as one_keyword}
use Rattle.icn_text.proofs.text_laws.names_differ.Goals as goal

pub returns-clause-functions : goal.returns-clause-functions
returns-clause-functions c = one_function

pub returns-clause-keywords : goal.returns-clause-keywords
returns-clause-keywords c = one_keyword
