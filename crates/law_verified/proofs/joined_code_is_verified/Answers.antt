use Rattle.law_verified.proofs.VerifiedFiles.{joined_verified}
use Rattle.law_verified.proofs.joined_code_is_verified.Goals as goal

pub returns : goal.returns
returns c = joined_verified
