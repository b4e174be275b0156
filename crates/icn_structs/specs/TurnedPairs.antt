-- Pairs of different keys, with the order of their numbers.
use Rattle.std.specs.Prelude.{ℕ, Bool, List}
use Rattle.icn_structs.specs.PairLists.{KeysDiffer}
use Rattle.icn_structs.specs.Turns.{HasTurns}

-- no key stands twice, and each pair has its number in the order
pub record ArePaired {K V : Type 0} (eq : K → K → Bool) (pairs : List (K × V))
    (numbers : List ℕ) : Type 0 where
  pub turns : HasTurns (K × V) pairs numbers
  pub differ : KeysDiffer eq pairs
