-- The table of names, which is a set of references, seen as a list.
use Rattle.std.proofs.Common.{◌≡◌, ℕ, ◌+◌, Bool, true, false, cond, not, ◌||◌, if◌then◌else◌, List, [], ◌∷◌, ◌++◌, map, refl, ap, ◌∙◌, Bor}
use Rattle.std.specs.List.{list_any, position_or_len}
use Rattle.std.specs.Str.{bytes_eq}
use Rattle.indexmap.specs.IndexSet.{insert_key}
use Rattle.icn_translate.specs.Drafts.{with_name, name_index}

abbrev seen : List (Bor (List ℕ)) → List (List ℕ)
seen keys = map (λ key. key.now) keys

any_seen : (text : List ℕ) (keys : List (Bor (List ℕ))) → list_any (λ key. bytes_eq text key.now) keys ≡ list_any (bytes_eq text) (seen keys)
any_seen text [] = refl
any_seen text (key ∷ keys) = ap (λ found. bytes_eq text key.now || found) (any_seen text keys)

place_seen : (text : List ℕ) (keys : List (Bor (List ℕ))) → position_or_len (λ key. bytes_eq text key.now) keys ≡ position_or_len (bytes_eq text) (seen keys)
place_seen text [] = refl
place_seen text (key ∷ keys) = ap (λ n. cond (not (bytes_eq text key.now)) (1 + n) 0) (place_seen text keys)

seen_behind : (keys : List (Bor (List ℕ))) (key : Bor (List ℕ)) → seen (keys ++ key ∷ []) ≡ seen keys ++ key.now ∷ []
seen_behind [] key = refl
seen_behind (other ∷ keys) key = ap (λ texts. other.now ∷ texts) (seen_behind keys key)

seen_by : (test : Bool) (keys : List (Bor (List ℕ))) (key : Bor (List ℕ)) → seen (if test then keys else keys ++ key ∷ []) ≡ (if test then seen keys
    else seen keys ++ key.now ∷ [])
seen_by true keys key = refl
seen_by false keys key = seen_behind keys key

-- a name that is entered stands once
pub entered : (keys new : List (Bor (List ℕ))) (key : Bor (List ℕ)) → new ≡ insert_key (λ a b. bytes_eq a.now b.now) keys key
    → seen new ≡ with_name (seen keys) key.now
entered keys new key e =
    ap seen e ∙ (seen_by (list_any (λ other. bytes_eq key.now other.now) keys) keys key
    ∙ ap (λ test. if test then seen keys else seen keys ++ key.now ∷ []) (any_seen key.now keys))

-- its place
pub placed : (keys : List (Bor (List ℕ))) (key : Bor (List ℕ)) (n place : ℕ) → n ≡ position_or_len (λ other. bytes_eq key.now other.now) keys → place ≡ n
    → place ≡ name_index (seen keys) key.now
placed keys key n place e f = f ∙ (e ∙ place_seen key.now keys)
