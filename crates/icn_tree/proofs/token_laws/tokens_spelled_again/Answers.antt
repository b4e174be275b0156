use Rattle.icn_tree.proofs.Respelling.{spelled_again, always_spelled}
use Rattle.icn_tree.proofs.token_laws.tokens_spelled_again.Goals as goal

pub returns-clause-again : goal.returns-clause-again
returns-clause-again c = spelled_again

pub returns-clause-always : goal.returns-clause-always
returns-clause-always c = always_spelled
