use Rattle.icn_text.specs.Funcs.{func_number}
use Rattle.icn_text.specs.Keywords.{keyword_number}
use Rattle.icn_text.specs.Ops.{op_number}
use Rattle.icn_text.specs.declared.func.TheConstants.Func.{ALL as funcs}
use Rattle.icn_text.specs.declared.keyword.TheConstants.Keyword.{ALL as keywords}
use Rattle.icn_text.specs.declared.op.TheConstants.Op.{ALL as ops}
use Rattle.icn_defs.proofs.FoundFacts.{found_number}
use Rattle.icn_defs.proofs.OpNumbers.{op_back}
use Rattle.icn_defs.proofs.FuncNumbers.{func_back}
use Rattle.icn_defs.proofs.KeywordNumbers.{keyword_back}
use Rattle.icn_defs.proofs.definition_laws.numbers_lead_back.Goals as goal

pub returns-clause-ops : goal.returns-clause-ops
returns-clause-ops c = op_back

pub returns-clause-funcs : goal.returns-clause-funcs
returns-clause-funcs c = func_back

pub returns-clause-keywords : goal.returns-clause-keywords
returns-clause-keywords c = keyword_back

pub returns-clause-op_numbers : goal.returns-clause-op_numbers
returns-clause-op_numbers c = found_number op_number ops

pub returns-clause-func_numbers : goal.returns-clause-func_numbers
returns-clause-func_numbers c = found_number func_number funcs

pub returns-clause-keyword_numbers : goal.returns-clause-keyword_numbers
returns-clause-keyword_numbers c = found_number keyword_number keywords
