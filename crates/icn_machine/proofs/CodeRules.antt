-- What the rules of a code say of its procedures.
use Rattle.std.proofs.Common.{◌≡◌, ◌<◌, ◌^◌, ℕ, zero, suc, Bool, true, false, ◌&&◌, List, [], ◌∷◌, length, Option, Some, None, refl, sym, subst, arith, ltb-true}
use Rattle.std.specs.Prelude.{slice_get, slice_index_or}
use Rattle.std.specs.List.{list_all}
use Rattle.std.specs.Option.{option_map_or}
use Rattle.std.proofs.lemmas.Option.{same_Some}
use Rattle.icn_code.specs.Codes.{Proc, Tables}
use Rattle.icn_code.specs.Rules.{is_proc, keeps_rules}
use Rattle.icn_run.specs.Step.{instrs_of}

left : (a b : Bool) → (a && b) ≡ true → a ≡ true
left true b e = refl
left false b e = e

right : (a b : Bool) → (a && b) ≡ true → b ≡ true
right true b e = e
right false b e = cc

at_place : {X : Type 0} (p : X → Bool) (xs : List X) (n : ℕ) (x : X) → list_all p xs ≡ true → slice_get xs n ≡ Some x → p x ≡ true
at_place p [] n x h e = cc
at_place p (y ∷ xs) zero x h e = subst (λ z. p z ≡ true) (same_Some _ _ e) (left (p y) (list_all p xs) h)
at_place p (y ∷ xs) (suc n) x h e = at_place p xs n x (right (p y) (list_all p xs) h) e

procs_fit : (tables : Tables) → keeps_rules tables ≡ true → list_all (is_proc tables) tables.procs ≡ true
unfolding keeps_rules
procs_fit tables e = right _ _ e

-- each procedure has fewer instructions than 32 bits count
pub few_instrs : (tables : Tables) (proc : ℕ) → keeps_rules tables ≡ true → length (instrs_of tables proc) < 2 ^ 32
few_instrs tables proc rules = by_proc (slice_get tables.procs proc) refl
  where
    by_proc : (o : Option Proc) → slice_get tables.procs proc ≡ o → length (option_map_or (λ (entry : Proc). entry.instrs) o []) < 2 ^ 32
    by_proc (Some entry) at = ltb-true _ _ (right _ _ (left _ _ (at_place (is_proc tables) tables.procs proc entry (procs_fit tables rules) at)))
    by_proc None at = omega arith

-- a procedure that has instructions is there
pub proc_within : (procs : List Proc) (proc address : ℕ)
    → address < length (option_map_or (λ (entry : Proc). entry.instrs) (slice_get procs proc) []) → proc < length procs
proc_within [] proc address within = absurd (omega (arith, within))
proc_within (entry ∷ procs) zero address within = omega arith
proc_within (entry ∷ procs) (suc proc) address within = let there : proc < length procs = proc_within procs proc address within in omega arith

-- where an entry is there, the default is not read
pub index_there : {X : Type 0} (xs : List X) (n : ℕ) (d : X) → n < length xs → slice_get xs n ≡ Some (slice_index_or xs n d)
index_there [] n d l = absurd (omega (arith, l))
index_there (x ∷ xs) zero d l = refl
index_there (x ∷ xs) (suc n) d l = index_there xs n d (omega (arith, l))

pub index_as : {X : Type 0} (xs ys : List X) (m n : ℕ) (d : X) → ys ≡ xs → m ≡ n → n < length xs → slice_get xs n ≡ Some (slice_index_or ys m d)
index_as xs ys m n d e f l =
    subst (λ (zs : List _). slice_get xs n ≡ Some (slice_index_or zs m d)) (sym e)
    (subst (λ (k : ℕ). slice_get xs n ≡ Some (slice_index_or xs k d)) (sym f) (index_there xs n d l))
