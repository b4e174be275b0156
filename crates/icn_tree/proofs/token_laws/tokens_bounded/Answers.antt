use Rattle.icn_tree.proofs.KeptByScans.{tokens_sound, all_sized, all_formed, tokens_counted}
use Rattle.icn_tree.proofs.token_laws.tokens_bounded.Goals as goal

pub returns-clause-count : goal.returns-clause-count
returns-clause-count c = tokens_counted

pub returns-clause-sized : goal.returns-clause-sized
returns-clause-sized c = λ lines tokens e. all_sized tokens (tokens_sound lines tokens e)

pub returns-clause-formed : goal.returns-clause-formed
returns-clause-formed c = λ lines tokens e. all_formed tokens (tokens_sound lines tokens e)
