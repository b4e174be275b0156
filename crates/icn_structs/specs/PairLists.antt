-- Lists of pairs in the order in which their keys came, read by an equality of keys.
use Rattle.std.specs.Prelude.{Bool, List, [], ◌∷◌, Option, if◌then◌else◌}
use Rattle.std.specs.List.{IsDistinct}
use Rattle.std.specs.Map.{keys_of, lookup, remove_entry}

module _ {K V : Type 0} (eq : K → K → Bool) where
  -- the value at this key
  abbrev pub value_of : List (K × V) → K → Option V
  value_of pairs key = lookup (eq key) pairs

  -- the pairs with this value at this key: a key that is there is kept, in its place, and a new one goes last
  abbrev pub with_value_of : List (K × V) → K → V → List (K × V)
  with_value_of [] key value = (key, value) ∷ []
  with_value_of (pair ∷ pairs) key value =
      if eq key pair.0 then (pair.0, value) ∷ pairs else pair ∷ with_value_of pairs key value

  -- the pairs without the one of this key
  abbrev pub without : List (K × V) → K → List (K × V)
  without pairs key = remove_entry (eq key) pairs

  -- no key stands twice
  abbrev pub KeysDiffer : List (K × V) → Type 0
  KeysDiffer pairs = IsDistinct eq (keys_of pairs)
