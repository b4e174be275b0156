use Rattle.icn_unit.proofs.Decimals.{keyword_exact}
use Rattle.icn_unit.proofs.operand.keyword.Goals as goal

pub returns : goal.returns
returns c = keyword_exact c.keyword_named.result c.args.text.now c.keyword_named.ensures.named c.keyword_named.ensures.none
