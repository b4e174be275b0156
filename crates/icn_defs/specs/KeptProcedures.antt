-- Which procedures of a program are kept: the least set that has some of them, and with each one all that it mentions.
use Rattle.std.specs.Prelude.{◌≡◌, ℕ, zero, suc, Bool, true, false, List, [], ◌∷◌, ◌++◌, length, replicate, slice_get, slice_set, Some}
use Rattle.std.specs.List.{All}

-- Procedures go by their numbers. For each it is told which ones it mentions.
abbrev pub MentionLists : Type 0
MentionLists = List (List ℕ)

-- these are kept too
abbrev pub with_kept : List ℕ → List Bool → List Bool
with_kept [] keep = keep
with_kept (number ∷ others) keep = with_kept others (slice_set keep number true)

-- what those that are kept mention, from the first on
abbrev pub mentioned_by_kept : MentionLists → List Bool → List ℕ
mentioned_by_kept [] keep = []
mentioned_by_kept (numbers ∷ others) [] = []
mentioned_by_kept (numbers ∷ others) (true ∷ keep) = numbers ++ mentioned_by_kept others keep
mentioned_by_kept (numbers ∷ others) (false ∷ keep) = mentioned_by_kept others keep

-- so often the mentioned ones are added
abbrev pub after_rounds : ℕ → MentionLists → List Bool → List Bool
after_rounds zero mentioned keep = keep
after_rounds (suc n) mentioned keep =
    after_rounds n mentioned (with_kept (mentioned_by_kept mentioned keep) keep)

-- Those that are kept, where these are for their own sake. Each round but the last adds one at least, so that as many as there
-- are procedures are enough.
abbrev pub kept_from : MentionLists → List ℕ → List Bool
kept_from mentioned own =
    after_rounds (length mentioned) mentioned (with_kept own (replicate (length mentioned) false))

-- this one is kept
abbrev pub IsIn : List Bool → ℕ → Type 0
IsIn keep number = slice_get keep number ≡ Some true

-- whatever a kept one mentions is kept
pub record IsClosed (mentioned : MentionLists) (keep : List Bool) : Type 0 where
  pub closed : (number : ℕ) (numbers : List ℕ) → IsIn keep number → slice_get mentioned number ≡ Some numbers
      → All (IsIn keep) numbers

-- The least set: it has these and is closed, and each such set has all of it.
pub record IsLeast (mentioned : MentionLists) (own : List ℕ) (keep : List Bool) : Type 0 where
  pub as_many : length keep ≡ length mentioned
  pub own_kept : All (IsIn keep) own
  pub closed : IsClosed mentioned keep
  pub least : (other : List Bool) → length other ≡ length mentioned → All (IsIn other) own
      → IsClosed mentioned other → (number : ℕ) → IsIn keep number → IsIn other number

-- the numbers of those that are not kept, where the first of these has this number
abbrev pub dropped_from : ℕ → List Bool → List ℕ
dropped_from number [] = []
dropped_from number (true ∷ keep) = dropped_from (suc number) keep
dropped_from number (false ∷ keep) = number ∷ dropped_from (suc number) keep

-- the numbers of those that are not kept
abbrev pub dropped_numbers : List Bool → List ℕ
dropped_numbers keep = dropped_from 0 keep
