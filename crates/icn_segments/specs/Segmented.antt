-- What the places of segments hold, the segments one after the other.
use Rattle.std.specs.Prelude.{◌≡◌, ℕ, zero, suc, ◌/◌, ◌%◌, ◌<◌, List, [], ◌∷◌, length, get_or, slice_set, Option, Some, None, IsSome}

module _ {X : Type 0} where
  -- what the place at an index holds
  abbrev pub place_at : List (List (Option X)) → ℕ → Option X
  place_at segments index = get_or (get_or segments (index / 256) []) (index % 256) None

  -- segments with another value at an index
  abbrev pub with_place : List (List (Option X)) → ℕ → X → List (List (Option X))
  with_place segments index v =
      slice_set segments (index / 256) (slice_set (get_or segments (index / 256) []) (index % 256) (Some v))

  -- a value, if there is one, in front of others
  abbrev pub in_front : Option X → List X → List X
  in_front (Some v) values = v ∷ values
  in_front None values = values

  -- the values of so many places, the last one first
  abbrev pub values_to : List (List (Option X)) → ℕ → List X
  values_to segments zero = []
  values_to segments (suc n) = in_front (place_at segments n) (values_to segments n)

  -- each segment has 256 places
  abbrev pub AreWhole : List (List (Option X)) → Type 0
  AreWhole segments = (k : ℕ) → k < length segments → length (get_or segments k []) ≡ 256

  -- so many places hold values
  abbrev pub AreFilled : List (List (Option X)) → ℕ → Type 0
  AreFilled segments len = (index : ℕ) → index < len → IsSome (place_at segments index)
