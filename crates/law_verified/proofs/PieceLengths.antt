-- How long the pieces are that the translation puts round an expression.
use Rattle.std.proofs.Common.{◌≡◌, ℕ, ◌+◌, List, [], ◌∷◌, ◌++◌, length, false, true, arith, length-append}
use Rattle.icn_code.specs.declared.instr.Instr.TheVariants as I
use Rattle.icn_tree.specs.Trees.{Tree}
use Rattle.law_simulation.specs.Translation.{SymbolTable, size}
use Rattle.law_verified.specs.Noted.{NotedShape, Note, o, more, in_mark, start, create_notes, code}
use Rattle.law_verified.proofs.ErasedNotes.{code_length}

-- the body of a `create`
pub created_len : (p n : ℕ) (s : NotedShape) (xs : List Note) → length xs ≡ n → length (create_notes p n s xs) ≡ n + 5
created_len p n s xs e =
    let a = length-append xs (o (more (in_mark (start true))) I.Coret ∷ o (more (in_mark (start true))) I.Efail ∷ o (start true) I.Cofail ∷ []) in omega arith

-- a bounded expression of a body
pub bounded_len : (N : SymbolTable) (p : ℕ) (x : Tree)
    → length (o (start false) (I.Mark (p + size [] x + 2)) ∷ code N [] [] (p + 1) (in_mark (start false)) x ++ o (more (in_mark (start false))) I.Unmark ∷ [])
    ≡ size [] x + 2
bounded_len N p x =
    let a = length-append (code N [] [] (p + 1) (in_mark (start false)) x) (o (more (in_mark (start false))) I.Unmark ∷ []) in
    let b = code_length N x [] [] (p + 1) (in_mark (start false)) in omega arith
