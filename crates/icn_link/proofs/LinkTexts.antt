-- Units that are linked, looked up among the names of units.
use Rattle.std.proofs.Common.{◌≡◌, ℕ, suc, ◌⊎◌, inl, inr, Bool, true, false, ◌||◌, if◌then◌else◌, List, [], ◌∷◌, ◌++◌, Bor, Option, None, Some, refl, sym, ap, ◌∙◌}
use Rattle.std.specs.List.{list_any}
use Rattle.std.specs.Option.{option_map, option_or}
use Rattle.std.specs.Str.{bytes_eq}
use Rattle.std.proofs.lemmas.List.Folds.{list_any-append}
use Rattle.std.proofs.lemmas.Slice.Eq.{bytes_eq-Decides}
use Rattle.icn_unit.specs.declared.unit.UnitDecl.{UnitDecl}
use Rattle.icn_unit.specs.declared.unit.UnitDecl.TheVariants as Kept
use Rattle.icn_unit.specs.PlainUnits.{PlainDecl, Global, Procedure, Link, Invocable, Record, UnitRead}
use Rattle.icn_unit.specs.UnitViews.{decl_seen}
use Rattle.icn_link.specs.declared.fault.LinkFault.{LinkFault}
use Rattle.icn_link.specs.declared.fault.LinkFault.TheVariants.{K2, NoMemory}
use Rattle.icn_link.specs.FirstMentions.{with_text, with_texts}
use Rattle.icn_link.specs.LinkFaults.{base_of, missing_unit, missing_by, missing_fault, missing_from, missing_in, unit_names, IsFault}
use Rattle.icn_link.specs.Views.{texts_seen}
use Rattle.icn_link.proofs.ReferenceTables.{held_text}

-- what is missing, by whether the name is there
missing_as : (keys : List (Bor (List ℕ))) (decl : UnitDecl) (text : List ℕ) (slice base : Bor (List ℕ)) (found : Bool) → decl ≡ Kept.Link text
    → slice.now ≡ text → base.now ≡ base_of slice.now → found ≡ list_any (λ key. bytes_eq base.now key.now) keys
    → missing_by (texts_seen keys) (decl_seen decl) ≡ (if found then None else Some base.now)
missing_as keys decl text slice base found is s b f =
    ap (λ d. missing_by (texts_seen keys) (decl_seen d)) is
    ∙ ap (λ name. if list_any (bytes_eq name) (texts_seen keys) then None else Some name) (sym (b ∙ ap base_of s))
    ∙ ap (λ t. if t then None else Some base.now) (sym (held_text base.now keys found f))

pub link_there : (keys : List (Bor (List ℕ))) (decl : UnitDecl) (text : List ℕ) (slice base : Bor (List ℕ)) (found : Bool) → decl ≡ Kept.Link text
    → slice.now ≡ text → base.now ≡ base_of slice.now → found ≡ list_any (λ key. bytes_eq base.now key.now) keys → found ≡ true
    → missing_by (texts_seen keys) (decl_seen decl) ≡ None
link_there keys decl text slice base found is s b f t =
    missing_as keys decl text slice base found is s b f ∙ ap (λ h. if h then None else Some base.now) t

fault_of : (expected : Option LinkFault) (place : ℕ) (name : List ℕ) (fault : LinkFault) → expected ≡ Some (K2 place name)
    → (fault ≡ NoMemory) ⊎ (fault ≡ K2 place name) → IsFault expected fault
fault_of expected place name fault e (inl n) = inl n
fault_of expected place name fault e (inr k) = inr (e ∙ ap Some (sym k))

pub link_missing : (keys : List (Bor (List ℕ))) (decl : UnitDecl) (text : List ℕ) (slice base : Bor (List ℕ)) (found : Bool) (place : ℕ) (fault : LinkFault)
    → decl ≡ Kept.Link text → slice.now ≡ text → base.now ≡ base_of slice.now → found ≡ list_any (λ key. bytes_eq base.now key.now) keys → found ≡ false
    → (fault ≡ NoMemory) ⊎ (fault ≡ K2 place base.now)
    → IsFault (option_map (missing_fault place) (missing_by (texts_seen keys) (decl_seen decl))) fault
link_missing keys decl text slice base found place fault is s b f t h =
    fault_of _ place base.now fault
    (ap (option_map (missing_fault place)) (missing_as keys decl text slice base found is s b f ∙ ap (λ h. if h then None else Some base.now) t)) h

-- A table of the names has the same members as the names

or_false : (x : Bool) → (x || false) ≡ x
or_false true = refl
or_false false = refl

or_held : (x y : Bool) → (y ≡ true → x ≡ true) → x ≡ (x || y)
or_held true y h = refl
or_held false true h = h refl
or_held false false h = refl

or_or : (x y z : Bool) → ((x || y) || z) ≡ (x || (y || z))
or_or true y z = refl
or_or false y z = refl

one_among : (known : List (List ℕ)) (text name : List ℕ)
    → list_any (bytes_eq name) (with_text known text) ≡ (list_any (bytes_eq name) known || bytes_eq name text)
one_among known text name = by (list_any (bytes_eq text) known) refl
  where
    by : (test : Bool) → list_any (bytes_eq text) known ≡ test
        → list_any (bytes_eq name) (if test then known else known ++ text ∷ []) ≡ (list_any (bytes_eq name) known || bytes_eq name text)
    by true e = or_held (list_any (bytes_eq name) known) (bytes_eq name text)
        (λ same. ap (λ t. list_any (bytes_eq t) known) ((bytes_eq-Decides name text).0 same) ∙ e)
    by false e =
        list_any-append (bytes_eq name) known (text ∷ [])
        ∙ ap (λ t. list_any (bytes_eq name) known || t) (or_false (bytes_eq name text))

pub among : (known texts : List (List ℕ)) (name : List ℕ)
    → list_any (bytes_eq name) (with_texts known texts) ≡ (list_any (bytes_eq name) known || list_any (bytes_eq name) texts)
among known [] name = sym (or_false (list_any (bytes_eq name) known))
among known (text ∷ texts) name =
    among (with_text known text) texts name
    ∙ ap (λ t. t || list_any (bytes_eq name) texts) (one_among known text name)
    ∙ or_or (list_any (bytes_eq name) known) (bytes_eq name text) (list_any (bytes_eq name) texts)

module _ (names others : List (List ℕ)) (same : (name : List ℕ) → list_any (bytes_eq name) names ≡ list_any (bytes_eq name) others) where
  by_same : (decl : PlainDecl) → missing_by names decl ≡ missing_by others decl
  by_same (Link text) = ap (λ t. if t then None else Some (base_of text)) (same (base_of text))
  by_same (Invocable text) = refl
  by_same (Global name) = refl
  by_same (Procedure name) = refl
  by_same (Record name fields) = refl

  in_same : (decls : List PlainDecl) → missing_in names decls ≡ missing_in others decls
  in_same [] = refl
  in_same (decl ∷ decls) =
      ap (λ m. option_or m (missing_in names decls)) (by_same decl) ∙ ap (option_or (missing_by others decl)) (in_same decls)

  from_same : (place : ℕ) (units : List UnitRead) → missing_from names place units ≡ missing_from others place units
  from_same place [] = refl
  from_same place (unit ∷ units) =
      ap (λ m. option_or (option_map (missing_fault place) m) (missing_from names (suc place) units)) (in_same unit.decls)
      ∙ ap (option_or (option_map (missing_fault place) (missing_in others unit.decls))) (from_same (suc place) units)

pub missing_same : (names : List (List ℕ)) (units : List UnitRead) → names ≡ with_texts [] (unit_names units)
    → missing_from names 0 units ≡ missing_unit units
missing_same names units is =
    ap (λ n. missing_from n 0 units) is
    ∙ from_same (with_texts [] (unit_names units)) (unit_names units) (λ name. among [] (unit_names units) name) 0 units
