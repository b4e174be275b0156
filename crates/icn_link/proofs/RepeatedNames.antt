-- The first name that is repeated, by a map of the names that were met.
use Rattle.std.proofs.Common.{◌≡◌, ℕ, ◌+◌, ◌<◌, Bool, true, false, cond, List, [], ◌∷◌, ◌++◌, length, map, take, drop, get_or, Option, Some, None, refl, sym, ap, subst, ◌∙◌}
use Rattle.std.specs.Prelude.{is_some, if◌then◌else◌}
use Rattle.std.specs.Borrow.{Bor}
use Rattle.std.specs.HashMap.{HashMap, Updates}
use Rattle.std.specs.Option.{option_map, option_or}
use Rattle.std.specs.Str.{bytes_eq}
use Rattle.std.proofs.lemmas.List.{at_drop_more, take_more}
use Rattle.std.proofs.lemmas.List.Folds.{find-append}
use Rattle.icn_link.specs.declared.fault.DeclPlace.{DeclPlace}
use Rattle.icn_link.specs.declared.repeats.Owner.{Owner as KeptOwner}
use Rattle.icn_link.specs.LinkFaults.{Owner, owner_named, repeat_of, repeated_from}
use Rattle.icn_link.specs.Views.{owner_seen, entry_in}
use Rattle.icn_link.proofs.NameMaps.{name_comes, inserted_at}

-- the map has the places of those before, and the rest is still to be looked at
pub record Met {S : Type 0} (places : HashMap (Bor (List ℕ)) DeclPlace S) (before rest all : List Owner) : Type 0 where
  pub held : (name : List ℕ) → entry_in places name ≡ option_map (λ (owner : Owner). owner.place) (owner_named name before)
  pub same : repeated_from before rest ≡ repeated_from [] all

not_met : (found : Option Owner) → option_map (λ (owner : Owner). owner.place) found ≡ None → found ≡ None
not_met None h = refl
not_met (Some owner) h = cc

or_mapped : {A B : Type 0} (f : A → B) (x y : Option A) → option_map f (option_or x y) ≡ option_or (option_map f x) (option_map f y)
or_mapped f None y = refl
or_mapped f (Some x) y = refl

one_place : (test : Bool) (next : Owner) → option_map (λ (owner : Owner). owner.place) (cond test (Some next) None)
    ≡ (if test then Some next.place else None)
one_place true next = refl
one_place false next = refl

-- one more that is new
pub met_more : {S : Type 0} (places new : HashMap (Bor (List ℕ)) DeclPlace S) (key : Bor (List ℕ)) (before others all : List Owner) (next : Owner)
    → key.now ≡ next.name → Met places before (next ∷ others) all → entry_in places next.name ≡ None
    → Updates (λ a b. bytes_eq a.now b.now) places new key (Some next.place)
    → Met new (before ++ next ∷ []) others all
met_more places new key before others all next is m none h = record {
  held = λ name.
      name_comes (entry_in places) (entry_in new) next.name next.place (ap is_some none)
      (λ other. inserted_at key places new (Some next.place) h other ∙ ap (λ n. cond (bytes_eq n other) (Some next.place) (entry_in places other)) is) name
      ∙ ap (λ found. option_or found (if bytes_eq name next.name then Some next.place else None)) (m.held name)
      ∙ ap (option_or (option_map (λ (owner : Owner). owner.place) (owner_named name before))) (sym (one_place (bytes_eq name next.name) next))
      ∙ sym (ap (option_map (λ (owner : Owner). owner.place)) (find-append (λ (other : Owner). bytes_eq name other.name) before (next ∷ []))
      ∙ or_mapped (λ (owner : Owner). owner.place) (owner_named name before) (cond (bytes_eq name next.name) (Some next) None));
  same =
      ap (λ found. option_or (option_map (repeat_of next) found) (repeated_from (before ++ next ∷ []) others))
      (sym (not_met (owner_named next.name before) (sym (m.held next.name) ∙ none)))
      ∙ m.same;
}

-- the same of owners as they are kept, where the next has this name and this place
seen_behind : (owners : List KeptOwner) (owner : KeptOwner) → map owner_seen (owners ++ owner ∷ []) ≡ map owner_seen owners ++ owner_seen owner ∷ []
seen_behind [] owner = refl
seen_behind (other ∷ owners) owner = ap (λ seen. owner_seen other ∷ seen) (seen_behind owners owner)

pub met_step : {S : Type 0} (places new : HashMap (Bor (List ℕ)) DeclPlace S) (owners : List KeptOwner) (i : ℕ) (none : KeptOwner) → i < length owners
    → Met places (map owner_seen (take i owners)) (map owner_seen (drop i owners)) (map owner_seen owners)
    → entry_in places (get_or owners i none).name.now ≡ None
    → Updates (λ a b. bytes_eq a.now b.now) places new (get_or owners i none).name (Some (get_or owners i none).place)
    → Met new (map owner_seen (take (i + 1) owners)) (map owner_seen (drop (i + 1) owners)) (map owner_seen owners)
met_step places new owners i none within m lacks h =
    let owner : KeptOwner = get_or owners i none in
    let all = map owner_seen owners in
    let before = map owner_seen (take i owners) in
    let rest = map owner_seen (drop (i + 1) owners) in
    let behind : map owner_seen (drop i owners) ≡ owner_seen owner ∷ rest = at_drop_more (map owner_seen) owners i none within in
    let one_more : before ++ owner_seen owner ∷ [] ≡ map owner_seen (take (i + 1) owners) =
    sym (ap (map owner_seen) (take_more owners i none within) ∙ seen_behind (take i owners) owner) in
    subst (λ done. Met new done rest all) one_more
    (met_more places new owner.name before rest all (owner_seen owner) refl (subst (λ later. Met places before later all) behind m) lacks h)
