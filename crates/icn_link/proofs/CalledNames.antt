-- What units say may be called, looked up among the names of procedures, records and functions.
use Rattle.std.proofs.Common.{◌≡◌, ℕ, suc, ◌+◌, ◌<◌, ◌⊎◌, inl, inr, Bool, true, false, ◌||◌, if◌then◌else◌, List, [], ◌∷◌, ◌++◌, length, get_or, drop, map, Bor, Option, None, Some, Result, OnOk, refl, sym, ap, subst, ◌∙◌}
use Rattle.std.specs.Prelude.{codes, is_some}
use Rattle.std.specs.List.{flat_map, list_any}
use Rattle.std.specs.Option.{option_map, option_or}
use Rattle.std.specs.Str.{bytes_eq}
use Rattle.std.proofs.lemmas.List.{append-nil, at_drop_more}
use Rattle.std.proofs.lemmas.List.Folds.{list_any-append}
use Rattle.std.proofs.lemmas.Option.{none-some}
use Rattle.icn_text.specs.declared.func.Func.{Func}
use Rattle.icn_unit.specs.declared.unit.UnitDecl.{UnitDecl}
use Rattle.icn_unit.specs.declared.unit.UnitDecl.TheVariants as Kept
use Rattle.icn_unit.specs.PlainUnits.{PlainDecl, PlainProc, proc_names, Global, Procedure, Link, Invocable, Record, UnitRead, owned_names}
use Rattle.icn_unit.specs.UnitViews.{decl_seen}
use Rattle.icn_link.specs.declared.fault.LinkFault.{LinkFault}
use Rattle.icn_link.specs.declared.fault.LinkFault.TheVariants.{K4, NoMemory}
use Rattle.icn_link.specs.FirstMentions.{with_texts}
use Rattle.icn_link.specs.Joined.{index_of, named_procs, number_list}
use Rattle.icn_link.specs.LinkFaults.{may_be_called, unknown_by, unknown_fault, unknown_from, unknown_in, unknown_name, IsFault}
use Rattle.icn_link.specs.Mentions.{function_named, invocable_in}
use Rattle.icn_link.specs.Units.{all_decls, all_procs}
use Rattle.icn_link.specs.Views.{texts_seen}
use Rattle.icn_link.proofs.LinkTexts.{among}
use Rattle.icn_link.proofs.ReferenceTables.{held_text}

-- what is unknown, by whether it may be called
unknown_as : (keys : List (Bor (List ℕ))) (decl : UnitDecl) (text : List ℕ) (slice : Bor (List ℕ)) (known : Bool) → decl ≡ Kept.Invocable text
    → slice.now ≡ text → known ≡ may_be_called (texts_seen keys) slice.now
    → unknown_by (texts_seen keys) (decl_seen decl) ≡ (if known then None else Some slice.now)
unknown_as keys decl text slice known is s k =
    ap (λ d. unknown_by (texts_seen keys) (decl_seen d)) is
    ∙ ap (λ name. if may_be_called (texts_seen keys) name then None else Some name) (sym s)
    ∙ ap (λ t. if t then None else Some slice.now) (sym k)

-- what is among names, or a function

pub held_there : (text : List ℕ) (keys : List (Bor (List ℕ))) (found : Bool) → found ≡ list_any (λ key. bytes_eq text key.now) keys → found ≡ true
    → found ≡ (list_any (bytes_eq text) (texts_seen keys) || is_some (function_named text))
held_there text keys found e t = t ∙ sym (ap (λ b. b || is_some (function_named text)) (sym (held_text text keys found e) ∙ t))

pub function_there : (text : List ℕ) (keys : List (Bor (List ℕ))) (found known : Bool) (func : Option Func)
    → found ≡ list_any (λ key. bytes_eq text key.now) keys → found ≡ false → func ≡ function_named text → known ≡ is_some func
    → known ≡ (list_any (bytes_eq text) (texts_seen keys) || is_some (function_named text))
function_there text keys found known func e t f k =
    k ∙ ap is_some f ∙ ap (λ b. b || is_some (function_named text)) (sym t ∙ held_text text keys found e)

-- The first of several

first_unknown : (told : List ℕ → LinkFault) (a b : Option (List ℕ)) (fault : LinkFault) → IsFault (option_map told a) fault
    → IsFault (option_map told (option_or a b)) fault
first_unknown told None b fault (inl e) = inl e
first_unknown told None b fault (inr e) = absurd (none-some fault e)
first_unknown told (Some name) b fault h = h

-- what the next declaration says is what all say, where those before say nothing
pub decl_fault : (names : List (List ℕ)) (decls : List UnitDecl) (i : ℕ) (decl : UnitDecl) (place : ℕ) (fault : LinkFault) → i < length decls
    → decl ≡ get_or decls i decl → unknown_in names (map decl_seen (drop i decls)) ≡ unknown_in names (map decl_seen decls)
    → IsFault (option_map (unknown_fault place) (unknown_by names (decl_seen decl))) fault
    → IsFault (option_map (unknown_fault place) (unknown_in names (map decl_seen decls))) fault
decl_fault names decls i decl place fault within is all h =
    let rest = unknown_in names (map decl_seen (drop (i + 1) decls)) in
    subst (λ found. IsFault (option_map (unknown_fault place) found) fault)
    (ap (λ (d : UnitDecl). option_or (unknown_by names (decl_seen d)) rest) is
    ∙ sym (at_drop_more (λ (ds : List UnitDecl). unknown_in names (map decl_seen ds)) decls i decl within) ∙ all)
    (first_unknown (unknown_fault place) (unknown_by names (decl_seen decl)) rest fault h)

pub name_there : (keys : List (Bor (List ℕ))) (decl : UnitDecl) (text : List ℕ) (slice : Bor (List ℕ)) (known : Bool) → decl ≡ Kept.Invocable text
    → slice.now ≡ text → known ≡ may_be_called (texts_seen keys) slice.now → known ≡ true
    → unknown_by (texts_seen keys) (decl_seen decl) ≡ None
name_there keys decl text slice known is s k t =
    unknown_as keys decl text slice known is s k ∙ ap (λ h. if h then None else Some slice.now) t

fault_of : (expected : Option LinkFault) (place : ℕ) (name : List ℕ) (fault : LinkFault) → expected ≡ Some (K4 place name)
    → (fault ≡ NoMemory) ⊎ (fault ≡ K4 place name) → IsFault expected fault
fault_of expected place name fault e (inl n) = inl n
fault_of expected place name fault e (inr k) = inr (e ∙ ap Some (sym k))

pub name_unknown : (keys : List (Bor (List ℕ))) (decl : UnitDecl) (text : List ℕ) (slice : Bor (List ℕ)) (known : Bool) (place : ℕ) (fault : LinkFault)
    → decl ≡ Kept.Invocable text → slice.now ≡ text → known ≡ may_be_called (texts_seen keys) slice.now → known ≡ false
    → (fault ≡ NoMemory) ⊎ (fault ≡ K4 place slice.now)
    → IsFault (option_map (unknown_fault place) (unknown_by (texts_seen keys) (decl_seen decl))) fault
name_unknown keys decl text slice known place fault is s k t h =
    fault_of _ place slice.now fault
    (ap (option_map (unknown_fault place)) (unknown_as keys decl text slice known is s k ∙ ap (λ h. if h then None else Some slice.now) t)) h

-- Tables with the same members

module _ (names others : List (List ℕ)) (same : (name : List ℕ) → list_any (bytes_eq name) names ≡ list_any (bytes_eq name) others) where
  called_same : (text : List ℕ) → may_be_called names text ≡ may_be_called others text
  called_same text = ap (λ t. bytes_eq text (codes "all") || (t || is_some (function_named text))) (same text)

  by_same : (decl : PlainDecl) → unknown_by names decl ≡ unknown_by others decl
  by_same (Invocable text) = ap (λ t. if t then None else Some text) (called_same text)
  by_same (Link text) = refl
  by_same (Global name) = refl
  by_same (Procedure name) = refl
  by_same (Record name fields) = refl

  in_same : (decls : List PlainDecl) → unknown_in names decls ≡ unknown_in others decls
  in_same [] = refl
  in_same (decl ∷ decls) =
      ap (λ m. option_or m (unknown_in names decls)) (by_same decl) ∙ ap (option_or (unknown_by others decl)) (in_same decls)

  from_same : (place : ℕ) (units : List UnitRead) → unknown_from names place units ≡ unknown_from others place units
  from_same place [] = refl
  from_same place (unit ∷ units) =
      ap (λ m. option_or (option_map (unknown_fault place) m) (unknown_from names (suc place) units)) (in_same unit.decls)
      ∙ ap (option_or (option_map (unknown_fault place) (unknown_in others unit.decls))) (from_same (suc place) units)

pub unknown_same : (names : List (List ℕ)) (units : List UnitRead) → names ≡ with_texts [] (owned_names (all_decls units))
    → unknown_from names 0 units ≡ unknown_name units
unknown_same names units is =
    let owned = owned_names (all_decls units) in
    ap (λ n. unknown_from n 0 units) is ∙ from_same (with_texts [] owned) owned (λ name. among [] owned name) 0 units

-- Whether a text is among those that items give

-- the items from one on
module _ {A C : Type 0} (test : List ℕ → Bool) (seen : A → C) (gives : C → List (List ℕ)) (xs : List A) (i : ℕ) (x : A) (now : Bool)
    (within : i < length xs) (is : x ≡ get_or xs i x) (found : now ≡ list_any test (gives (seen x))) where
  from_item : list_any test (flat_map gives (map seen (drop i xs)))
      ≡ (now || list_any test (flat_map gives (map seen (drop (i + 1) xs))))
  from_item =
      let rest = flat_map gives (map seen (drop (i + 1) xs)) in
      at_drop_more (λ all. list_any test (flat_map gives (map seen all))) xs i x within
      ∙ ap (λ y. list_any test (gives (seen y) ++ rest)) (sym is)
      ∙ list_any-append test (gives (seen x)) rest ∙ ap (λ t. t || list_any test rest) (sym found)

  pub none_here : now ≡ false
      → list_any test (flat_map gives (map seen (drop (i + 1) xs))) ≡ list_any test (flat_map gives (map seen (drop i xs)))
  none_here t = sym (from_item ∙ ap (λ t. t || list_any test (flat_map gives (map seen (drop (i + 1) xs)))) t)

  pub one_here : now ≡ true → true ≡ list_any test (flat_map gives (map seen (drop i xs)))
  one_here t = sym (from_item ∙ ap (λ t. t || list_any test (flat_map gives (map seen (drop (i + 1) xs)))) t)

-- the numbers that a declaration adds
pub numbers_pushed : {T E : Type 0} (result : Result T E) (number_of : List ℕ → List ℕ) (before after : List ℕ) (decl : UnitDecl)
    (text : List ℕ) (slice : Bor (List ℕ)) → decl ≡ Kept.Invocable text → slice.now ≡ text
    → OnOk result (after ≡ before ++ number_of slice.now)
    → OnOk result (after ≡ before ++ flat_map number_of (invocable_in (decl_seen decl)))
numbers_pushed result number_of before after decl text slice is s h =
    subst (λ found. OnOk result (after ≡ before ++ found))
    (sym (append-nil (number_of slice.now)) ∙ ap (λ t. flat_map number_of (t ∷ [])) s
    ∙ ap (λ d. flat_map number_of (invocable_in (decl_seen d))) (sym is)) h

-- numbers that are looked up in two ways
pub same_numbers : (f g : List ℕ → Option ℕ) → ((name : List ℕ) → f name ≡ g name) → (texts : List (List ℕ))
    → flat_map (λ text. number_list (f text)) texts ≡ flat_map (λ text. number_list (g text)) texts
same_numbers f g same [] = refl
same_numbers f g same (text ∷ texts) =
    ap (λ n. number_list n ++ flat_map (λ text. number_list (f text)) texts) (same text)
    ∙ ap (λ rest. number_list (g text) ++ rest) (same_numbers f g same texts)

-- the numbers of all units
pub units_named : (units : List UnitRead) (decls : List PlainDecl) (procs : List PlainProc) → decls ≡ all_decls units → procs ≡ all_procs units
    → flat_map (λ text. number_list (index_of (proc_names procs) text)) (flat_map invocable_in decls) ≡ named_procs units
units_named units decls procs d p =
    ap (λ (decls : List PlainDecl). flat_map (λ text. number_list (index_of (proc_names procs) text)) (flat_map invocable_in decls)) d
    ∙ ap (λ (procs : List PlainProc). flat_map (λ text. number_list (index_of (proc_names procs) text)) (flat_map invocable_in (all_decls units))) p
