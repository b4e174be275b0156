-- Tables that are kept as sets of references, seen as lists.
use Rattle.std.proofs.Common.{◌≡◌, ℕ, ◌+◌, ◌≤◌, Bool, true, false, cond, not, ◌||◌, nat_lt, if◌then◌else◌, List, [], ◌∷◌, ◌++◌, length, map, Option, None, Some, refl, sym, ap, ◌∙◌, arith, Bor}
use Rattle.std.specs.List.{list_any, position, position_or_len}
use Rattle.std.specs.Str.{bytes_eq}
use Rattle.std.proofs.lemmas.Bool.Decides.{nat_tests}
use Rattle.std.proofs.lemmas.List.Sums.{prefix_len-le-length}
use Rattle.std.proofs.lemmas.Option.{none-some, same_Some}
use Rattle.indexmap.specs.IndexSet.{insert_key}
use Rattle.icn_text.specs.declared.func.Func.{Func}
use Rattle.icn_code.specs.declared.code.Start.TheVariants.{Function, Null}
use Rattle.icn_unit.specs.declared.unit.NameKind.TheVariants.{Undeclared}
use Rattle.icn_unit.specs.declared.unit.UnitName.{UnitName}
use Rattle.icn_link.specs.declared.variable.VariableKind.TheVariants.{Local, Global}
use Rattle.icn_link.specs.FirstMentions.{with_text}
use Rattle.icn_link.specs.Joined.{start_by, variable_by, variable_of}

abbrev seen : List (Bor (List ℕ)) → List (List ℕ)
seen keys = map (λ key. key.now) keys

any_seen : (text : List ℕ) (keys : List (Bor (List ℕ))) → list_any (λ key. bytes_eq text key.now) keys ≡ list_any (bytes_eq text) (seen keys)
any_seen text [] = refl
any_seen text (key ∷ keys) = ap (λ found. bytes_eq text key.now || found) (any_seen text keys)

index_seen : (text : List ℕ) (keys : List (Bor (List ℕ))) → position_or_len (λ key. bytes_eq text key.now) keys ≡ position_or_len (bytes_eq text) (seen keys)
index_seen text [] = refl
index_seen text (key ∷ keys) = ap (λ n. cond (not (bytes_eq text key.now)) (1 + n) 0) (index_seen text keys)

seen_behind : (keys : List (Bor (List ℕ))) (key : Bor (List ℕ)) → seen (keys ++ key ∷ []) ≡ seen keys ++ key.now ∷ []
seen_behind [] key = refl
seen_behind (other ∷ keys) key = ap (λ texts. other.now ∷ texts) (seen_behind keys key)

seen_by : (test : Bool) (keys : List (Bor (List ℕ))) (key : Bor (List ℕ)) → seen (if test then keys else keys ++ key ∷ []) ≡ (if test then seen keys
    else seen keys ++ key.now ∷ [])
seen_by true keys key = refl
seen_by false keys key = seen_behind keys key

-- a text that is inserted stands once
pub entered : (keys new : List (Bor (List ℕ))) (key : Bor (List ℕ)) → new ≡ insert_key (λ a b. bytes_eq a.now b.now) keys key
    → seen new ≡ with_text (seen keys) key.now
entered keys new key e =
    ap seen e ∙ (seen_by (list_any (λ other. bytes_eq key.now other.now) keys) keys key
    ∙ ap (λ test. if test then seen keys else seen keys ++ key.now ∷ []) (any_seen key.now keys))

-- the index that a look-up finds, or the one behind the last
first_by : {X : Type 0} (test : X → Bool) (xs : List X) (n : ℕ) (is : Bool) → nat_lt (position_or_len test xs) (length xs) ≡ is
    → cond is (Some (position_or_len test xs)) None ≡ Some n → position_or_len test xs ≡ n
first_by test xs n true t e = same_Some (position_or_len test xs) n e
first_by test xs n false t e = absurd (none-some n e)

pub found_index : {X : Type 0} (test : X → Bool) (xs : List X) (n : ℕ) → position test xs ≡ Some n → position_or_len test xs ≡ n
found_index test xs n e = first_by test xs n _ refl e

last_by : {X : Type 0} (test : X → Bool) (xs : List X) (is : Bool) → nat_lt (position_or_len test xs) (length xs) ≡ is
    → cond is (Some (position_or_len test xs)) None ≡ None → position_or_len test xs ≡ length xs
last_by test xs true t e = absurd (none-some (position_or_len test xs) (sym e))
last_by test xs false t e =
    let most : position_or_len test xs ≤ length xs = prefix_len-le-length (λ x. not (test x)) xs in grind (arith, nat_tests)

pub no_index : {X : Type 0} (test : X → Bool) (xs : List X) → position test xs ≡ None → position_or_len test xs ≡ length xs
no_index test xs e = last_by test xs _ refl e

pub found_text : (text : List ℕ) (keys : List (Bor (List ℕ))) (n : ℕ) → position (λ key. bytes_eq text key.now) keys ≡ Some n
    → n ≡ position_or_len (bytes_eq text) (seen keys)
found_text text keys n e = sym (found_index (λ key. bytes_eq text key.now) keys n e) ∙ index_seen text keys

pub no_text : (text : List ℕ) (keys : List (Bor (List ℕ))) → position (λ key. bytes_eq text key.now) keys ≡ None
    → length keys ≡ position_or_len (bytes_eq text) (seen keys)
no_text text keys e = sym (no_index (λ key. bytes_eq text key.now) keys e) ∙ index_seen text keys

-- whether a table has a text
pub held_text : (text : List ℕ) (keys : List (Bor (List ℕ))) (found : Bool) → found ≡ list_any (λ key. bytes_eq text key.now) keys
    → found ≡ list_any (bytes_eq text) (seen keys)
held_text text keys found e = e ∙ any_seen text keys

variable_by_test : (globals : List (List ℕ)) (entry : UnitName) (test : Bool) → entry.kind ≡ Undeclared
    → test ≡ list_any (bytes_eq entry.name) globals → (if test then Global else Local) ≡ variable_of globals entry
variable_by_test globals entry test k e =
    ap (λ t. if t then Global else Local) e ∙ ap (λ kind. variable_by globals kind entry.name) (sym k)

pub held_global : (keys : List (Bor (List ℕ))) (entry : UnitName) (name : Bor (List ℕ)) (found : Bool) → entry.kind ≡ Undeclared
    → name.now ≡ entry.name → found ≡ list_any (λ key. bytes_eq name.now key.now) keys → found ≡ true → Global ≡ variable_of (seen keys) entry
held_global keys entry name found k n e t =
    ap (λ b. if b then Global else Local) (sym t)
    ∙ variable_by_test (seen keys) entry found k (held_text name.now keys found e ∙ ap (λ text. list_any (bytes_eq text) (seen keys)) n)

pub held_local : (keys : List (Bor (List ℕ))) (entry : UnitName) (name : Bor (List ℕ)) (found : Bool) → entry.kind ≡ Undeclared
    → name.now ≡ entry.name → found ≡ list_any (λ key. bytes_eq name.now key.now) keys → found ≡ false → Local ≡ variable_of (seen keys) entry
held_local keys entry name found k n e t =
    ap (λ b. if b then Global else Local) (sym t)
    ∙ variable_by_test (seen keys) entry found k (held_text name.now keys found e ∙ ap (λ text. list_any (bytes_eq text) (seen keys)) n)

-- what a global begins with, by whether a table has its name
pub declared_null : (keys : List (Bor (List ℕ))) (name : List ℕ) (found : Bool) (function : Option Func) → found ≡ list_any (λ key. bytes_eq name key.now) keys
    → found ≡ true → Null ≡ start_by None None (list_any (bytes_eq name) (seen keys)) function
declared_null keys name found function e t = ap (λ b. start_by None None b function) (sym t ∙ held_text name keys found e)

pub undeclared_function : (keys : List (Bor (List ℕ))) (name : List ℕ) (found : Bool) (func : Func) (result function : Option Func)
    → found ≡ list_any (λ key. bytes_eq name key.now) keys → found ≡ false → result ≡ function → result ≡ Some func
    → Function func ≡ start_by None None (list_any (bytes_eq name) (seen keys)) function
undeclared_function keys name found func result function e t r is =
    ap (λ f. start_by None None false f) (sym is ∙ r) ∙ ap (λ b. start_by None None b function) (sym t ∙ held_text name keys found e)
