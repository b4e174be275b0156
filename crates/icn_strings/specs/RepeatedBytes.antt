-- Bytes that are put again and again.
use Rattle.std.specs.Prelude.{ℕ, ◌-◌, List, drop, length, replicate, take}
use Rattle.std.specs.List.{concat}

-- some bytes so many times
abbrev pub copies : ℕ → List ℕ → List ℕ
copies count bytes = concat (replicate count bytes)

-- so many bytes of some that are put again and again, from the left end on
abbrev pub filled_left : ℕ → List ℕ → List ℕ
filled_left count bytes = take count (copies count bytes)

-- so many bytes of some that are put again and again, up to the right end
abbrev pub filled_right : ℕ → List ℕ → List ℕ
filled_right count bytes = drop (length (copies count bytes) - count) (copies count bytes)
