-- What a program text keeps that a check takes: its tokens, and that none of the rules before the context rules refuses it.
use Rattle.std.specs.Prelude.{◌≤◌, All, List, length}
use Rattle.icn_profile.specs.Numbers.{most_bytes_of_source}
use Rattle.icn_tree.specs.declared.token.Token.{Token}
use Rattle.icn_tree.specs.TokenBounds.{IsFormed, IsSized}
use Rattle.icn_tree.specs.Trees.{Declaration}
use Rattle.icn_parse.specs.Outcomes.{IsTree, IsOutcome}

-- tokens as the scanner gives them: no more than a named file may give bytes, each within its bounds and of a form that the
-- scanner gives
pub record AreScanned (tokens : List Token) : Type 0 where
  pub few : length tokens ≤ most_bytes_of_source
  pub sized : All (λ token. IsSized token.kind) tokens
  pub formed : All (λ token. IsFormed token.kind) tokens

-- these declarations are the tree of such tokens, none of them is higher than 2000, and they have no unknown keyword and no
-- form that is not in this profile
pub record IsSpelled (file : List Declaration) : Type 0 where
  pub tokens : List Token
  pub scanned : AreScanned tokens
  pub tree : IsOutcome tokens (IsTree file)
