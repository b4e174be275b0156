-- Names in rows, and how a draft begins.
use Rattle.std.proofs.Common.{◌≡◌, ℕ, ◌+◌, List, [], ◌∷◌, ◌++◌, ◌<◌, length, get_or, drop, map, append_assoc, refl, sym, ap, ◌∙◌}
use Rattle.std.specs.List.{flat_map}
use Rattle.std.proofs.lemmas.List.{at_drop_more}
use Rattle.icn_tree.specs.declared.tree.LocalDecl.{LocalDecl as LocalsItem}
use Rattle.icn_tree.specs.declared.tree.Decl.{Decl}
use Rattle.icn_tree.specs.Trees.{Declaration}
use Rattle.icn_tree.specs.TreeOf.{declaration_of, locals_of}
use Rattle.icn_unit.specs.declared.unit.UnitName.{UnitName}
use Rattle.icn_translate.specs.Drafts.{with_name, with_names}
use Rattle.icn_translate.specs.ProcCodes.{local_entries, local_texts, texts_of}

-- names in a row, and others behind them
pub names_then : (names xs ys : List (List ℕ)) → with_names names (xs ++ ys) ≡ with_names (with_names names xs) ys
names_then names [] ys = refl
names_then names (x ∷ xs) ys = names_then (with_name names x) xs ys

-- one more row of locals
pub names_step : (locals : List LocalsItem) (i : ℕ) (item : LocalsItem) (names later : List (List ℕ)) → i < length locals → item ≡ get_or locals i item
    → later ≡ with_names names (texts_of item.names.items)
    → with_names later (flat_map local_texts (map locals_of (drop (i + 1) locals))) ≡ with_names names (flat_map local_texts (map locals_of (drop i locals)))
names_step locals i item names later within is e =
    let rest = flat_map local_texts (map locals_of (drop (i + 1) locals)) in
    ap (λ all. with_names all rest) e ∙ sym (names_then names (texts_of item.names.items) rest)
    ∙ ap (λ (row : LocalsItem). with_names names (flat_map local_texts (map locals_of (row ∷ drop (i + 1) locals)))) is
    ∙ sym (at_drop_more (λ rest. with_names names (flat_map local_texts (map locals_of rest))) locals i item within)

pub entries_step : (locals : List LocalsItem) (i : ℕ) (item : LocalsItem) (entries later : List UnitName) → i < length locals → item ≡ get_or locals i item
    → later ≡ entries ++ local_entries (locals_of item)
    → later ++ flat_map local_entries (map locals_of (drop (i + 1) locals)) ≡ entries ++ flat_map local_entries (map locals_of (drop i locals))
entries_step locals i item entries later within is e =
    let rest = flat_map local_entries (map locals_of (drop (i + 1) locals)) in
    ap (λ all. all ++ rest) e ∙ append_assoc entries (local_entries (locals_of item)) rest
    ∙ ap (λ (row : LocalsItem). entries ++ flat_map local_entries (map locals_of (row ∷ drop (i + 1) locals))) is
    ∙ sym (at_drop_more (λ rest. entries ++ flat_map local_entries (map locals_of rest)) locals i item within)

-- names in two rows, entered one after the other
pub all_declared : (start names last ps qs first second : List (List ℕ)) → start ≡ [] → first ≡ ps → second ≡ qs
    → names ≡ with_names start first → last ≡ with_names names second → last ≡ with_names [] (ps ++ qs)
all_declared start names last ps qs first second e f g h k =
    k ∙ ap (with_names names) g ∙ ap (λ all. with_names all qs) (h ∙ ap (with_names start) f ∙ ap (λ all. with_names all ps) e) ∙ sym (names_then [] ps qs)

-- one more declaration, with what it gives
pub part_step : {A : Type 0} (parts : Declaration → List A) (decls : List Decl) (i : ℕ) (decl : Decl) (done later : List A) → i < length decls
    → decl ≡ get_or decls i decl
    → later ≡ done ++ parts (declaration_of decl)
    → later ++ flat_map parts (map declaration_of (drop (i + 1) decls)) ≡ done ++ flat_map parts (map declaration_of (drop i decls))
part_step parts decls i decl done later within is e =
    let rest = flat_map parts (map declaration_of (drop (i + 1) decls)) in
    ap (λ all. all ++ rest) e ∙ append_assoc done (parts (declaration_of decl)) rest
    ∙ ap (λ (next : Decl). done ++ flat_map parts (map declaration_of (next ∷ drop (i + 1) decls))) is
    ∙ sym (at_drop_more (λ rest. done ++ flat_map parts (map declaration_of rest)) decls i decl within)

pub seen_more : {A B : Type 0} (f : A → B) (xs : List A) (x : A) → map f (xs ++ x ∷ []) ≡ map f xs ++ f x ∷ []
seen_more f [] x = refl
seen_more f (y ∷ xs) x = ap (λ ys. f y ∷ ys) (seen_more f xs x)
