-- The numbers of rows: of expressions, and of names that are declared; and of what clauses take.
use Rattle.std.proofs.Common.{◌≡◌, ℕ, zero, suc, ◌+◌, ◌<◌, ◌≤◌, List, [], ◌∷◌, length, drop, get_or, map, sym, ap, subst, ◌∙◌, arith}
use Rattle.std.specs.Prelude.{OnOk, Result, Ok, Err}
use Rattle.std.proofs.lemmas.List.{at_drop_more}
use Rattle.icn_tree.specs.declared.tree.Expr.{Expr}
use Rattle.icn_tree.specs.declared.tree.Decl.{Decl}
use Rattle.icn_tree.specs.declared.tree.LocalDecl.{LocalDecl as LocalsItem}
use Rattle.icn_tree.specs.Trees.{Clauses, Default, Guarded, NoClauses, MoreClauses}
use Rattle.icn_tree.specs.TreeOf.{all_of, declaration_of, locals_of, tree_of}
use Rattle.icn_translate.specs.NumbersTaken.{HasRoom, HaveRoom, all_numbers, clause_numbers, local_numbers, numbers}
use Rattle.icn_translate.specs.Room.{default_numbers, guarded_numbers}

-- what follows where a call succeeded
pub on_ok : {A E : Type 0} (result : Result A E) (P Q : Type 0) → OnOk result P → (P → Q) → OnOk result Q
on_ok (Ok value) P Q held f = f held
on_ok (Err error) P Q held f = tt

-- a row has no more elements than numbers
pub no_more : (exprs : List Expr) → length exprs ≤ all_numbers (all_of exprs)
no_more [] = omega arith
no_more (expr ∷ exprs) =
    let rest : length exprs ≤ all_numbers (all_of exprs) = no_more exprs in
    let more : suc (length exprs) ≤ 2 + numbers (tree_of expr) + all_numbers (all_of exprs) = omega (arith, rest) in
    more

-- what is left of a row is its next element and the rest
pub row_left : (exprs : List Expr) (i : ℕ) (expr : Expr) → i < length exprs → expr ≡ get_or exprs i expr
    → all_numbers (all_of (drop i exprs)) ≡ 2 + numbers (tree_of expr) + all_numbers (all_of (drop (i + 1) exprs))
row_left exprs i expr within is = at_drop_more (λ rest. all_numbers (all_of rest)) exprs i expr within
    ∙ sym (ap (λ (e : Expr). all_numbers (all_of (e ∷ drop (i + 1) exprs))) is)

-- each clause is guarded or a default
pub both_kinds : (clauses : Clauses) → guarded_numbers clauses + default_numbers clauses ≡ clause_numbers clauses
both_kinds NoClauses = omega arith
both_kinds (MoreClauses (Default place e) clauses) =
    let rest : guarded_numbers clauses + default_numbers clauses ≡ clause_numbers clauses = both_kinds clauses in
    omega (arith, rest)
both_kinds (MoreClauses (Guarded place s b) clauses) =
    let rest : guarded_numbers clauses + default_numbers clauses ≡ clause_numbers clauses = both_kinds clauses in
    omega (arith, rest)

pub locals_left : (locals : List LocalsItem) (i : ℕ) (item : LocalsItem) → i < length locals → item ≡ get_or locals i item
    → local_numbers (map locals_of (drop i locals)) ≡ length item.names.items + local_numbers (map locals_of (drop (i + 1) locals))
locals_left locals i item within is = at_drop_more (λ rest. local_numbers (map locals_of rest)) locals i item within
    ∙ sym (ap (λ (l : LocalsItem). local_numbers (map locals_of (l ∷ drop (i + 1) locals))) is)

-- each of these declarations has room
room_of : (decls : List Decl) (i : ℕ) (decl : Decl) → i < length decls → HaveRoom (map declaration_of decls)
    → HasRoom (declaration_of (get_or decls i decl))
room_of [] i decl within room = absurd (omega (arith, within))
room_of (first ∷ others) zero decl within room = room.0
room_of (first ∷ others) (suc i) decl within room =
    let below : i < length others = omega (arith, within) in
    room_of others i decl below room.1

pub room_at : (decls : List Decl) (i : ℕ) (decl : Decl) → i < length decls → decl ≡ get_or decls i decl → HaveRoom (map declaration_of decls)
    → HasRoom (declaration_of decl)
room_at decls i decl within is room = subst (λ (d : Decl). HasRoom (declaration_of d)) (sym is) (room_of decls i decl within room)
