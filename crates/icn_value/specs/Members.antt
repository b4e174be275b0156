-- Csets as lists of their members.
use Rattle.std.specs.Prelude.{◌==◌, ℕ, Bool, List, filter}
use Rattle.std.specs.List.{list_any, range_with_len}
use Rattle.icn_value.specs.Csets.{has}
use Rattle.icn_value.specs.declared.cset.Cset.{Cset}

-- whether a byte stands in a text, or is a member of a cset
abbrev pub contains : List ℕ → ℕ → Bool
contains bytes byte = list_any (λ other. other == byte) bytes

-- the cset of the bytes that pass, ascending
abbrev pub members : (ℕ → Bool) → List ℕ
members test = filter test (range_with_len 0 256)

-- the members of a set of truth values
unfoldable pub members_of : Cset → List ℕ
members_of cset = members (has cset)
