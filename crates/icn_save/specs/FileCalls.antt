-- Calls of a store of files with what they were answered.
use Rattle.std.specs.Prelude.{ℕ, List}

-- A call that was answered: the file of this name was read, and these bytes were appended; there was none of this
-- name; or the file of this name was written, with these bytes.
pub data FileCall : Type 0 where
  FoundFile : List ℕ → List ℕ → FileCall
  NoSuchFile : List ℕ → FileCall
  WroteFile : List ℕ → List ℕ → FileCall
