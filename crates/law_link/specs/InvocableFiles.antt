-- What files say may be called by its name.
use Rattle.std.specs.Prelude.{ℕ, Bool, List, codes}
use Rattle.icn_tree.specs.Trees.{Declaration}
use Rattle.icn_meaning.specs.Program.{has_name, invocable_texts, joined_declarations, numbers_of, procedure_names, procedures_of}

-- the procedures that the files say may be called by their names, by their numbers
abbrev pub named_procs : List (List Declaration) → List ℕ
named_procs files = let declarations = joined_declarations files in
    numbers_of (procedure_names (procedures_of declarations)) (invocable_texts declarations)

-- they say so of all
abbrev pub names_all : List (List Declaration) → Bool
names_all files = has_name (codes "all") (invocable_texts (joined_declarations files))
