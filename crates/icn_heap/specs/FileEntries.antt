-- What an opened file of a heap stands for.
use Rattle.std.specs.Prelude.{ℕ, Bool, List}
use Rattle.icn_value.specs.declared.mode.FileMode.{FileMode}
use Rattle.icn_value.specs.Store.{OpenedFile}

-- an opened file, by its parts
abbrev pub opened_file : List ℕ → FileMode → List ℕ → ℕ → Bool → OpenedFile
opened_file name mode content place closed =
    record { name = name; mode = mode; content = content; place = place; closed = closed }
