use Rattle.law_source.proofs.ScannedTokens.{tokens_are_bytes}
use Rattle.law_source.proofs.laws.tokens_of_bytes.Goals as goal

pub returns : goal.returns
returns c = tokens_are_bytes
