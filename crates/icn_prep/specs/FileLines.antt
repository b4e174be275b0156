-- The lines of a file.
use Rattle.std.specs.Prelude.{ℕ, Bool, false, List, [], ◌∷◌, if◌then◌else◌, ◌==◌, ◌&&◌}

-- the bytes begin with this one
abbrev pub begins_with : ℕ → List ℕ → Bool
begins_with byte [] = false
begins_with byte (b ∷ rest) = b == byte

-- the lines with a byte before the first of them, or that byte alone
abbrev pub put_before : ℕ → List (List ℕ) → List (List ℕ)
put_before b [] = (b ∷ []) ∷ []
put_before b (line ∷ lines) = (b ∷ line) ∷ lines

-- A newline ends a line, and a carriage return directly before it belongs to that end. What stands behind the last newline is
-- a line too, unless it is nothing.
abbrev pub lines_of : List ℕ → List (List ℕ)
lines_of [] = []
lines_of (b ∷ rest) =
    if b == 10 then [] ∷ lines_of rest
    else (if (b == 13) && begins_with 10 rest then lines_of rest else put_before b (lines_of rest))

-- the bytes without one carriage return at their end
abbrev pub without_return : List ℕ → List ℕ
without_return [] = []
without_return (b ∷ []) = if b == 13 then [] else b ∷ []
without_return (b ∷ c ∷ rest) = b ∷ without_return (c ∷ rest)
