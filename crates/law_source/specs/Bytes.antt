-- Lists of bytes.
use Rattle.std.specs.Prelude.{ℕ, Bool, List}
use Rattle.std.specs.List.{list_all}
use Rattle.icn_tree.specs.TokenBounds.{is_byte}

-- each number is one of a byte
abbrev pub are_bytes : List ℕ → Bool
are_bytes bytes = list_all is_byte bytes
