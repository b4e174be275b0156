-- What is kept of a code may be kept: `main` is, and with a procedure all that it mentions.
use Rattle.std.proofs.Common.{◌≡◌, ℕ, zero, suc, ◌+◌, ◌<◌, ◌≤◌, Bool, true, false, List, [], ◌∷◌, ◌++◌, length, map, Option, None, Some, refl, sym, ap, ◌∙◌, subst, arith}
use Rattle.std.specs.Prelude.{codes, find, slice_get}
use Rattle.std.specs.List.{All, flat_map, list_all, position_or_len, range_with_len}
use Rattle.std.specs.Option.{option_and_then}
use Rattle.std.specs.Str.{bytes_eq}
use Rattle.std.proofs.lemmas.Bool.{and_parts, ltb-true}
use Rattle.std.proofs.lemmas.List.{length-map}
use Rattle.std.proofs.lemmas.List.Folds.{find_at}
use Rattle.icn_code.specs.declared.code.Global.{Global}
use Rattle.icn_code.specs.declared.code.Start.{Start}
use Rattle.icn_code.specs.declared.code.Start.TheVariants.{Null, Procedure, Record, Function}
use Rattle.icn_code.specs.Codes.{Proc, Tables}
use Rattle.icn_code.specs.MainProcedure.{main_of, procedure_at}
use Rattle.icn_code.specs.Rules.{is_global, is_start, keeps_rules, name_of}
use Rattle.icn_defs.specs.KeptProcedures.{IsIn, IsLeast}
use Rattle.icn_prune.specs.KeptCode.{MayBeKept, globals_in, kept_of, mentioned_by, mentioned_in, number_in, own_kept, procedure_of_global}
use Rattle.icn_prune.proofs.LeastSets.{Each, all_of, each_join, each_of, least_set}
use Rattle.icn_prune.proofs.StandingPlaces.{some_injective}
use Rattle.icn_prune.proofs.TableRules.{AreRuled, each_rule}

-- an item of a list of which all pass
passes_got : {A : Type 0} (test : A → Bool) (xs : List A) (k : ℕ) (x : A) → list_all test xs ≡ true → slice_get xs k ≡ Some x → test x ≡ true
passes_got test [] k x h g = absurd (cc)
passes_got test (y ∷ xs) zero x h g = subst (λ z. test z ≡ true) (some_injective y x g) (and_parts (test y) (list_all test xs) h).0
passes_got test (y ∷ xs) (suc k) x h g = passes_got test xs k x (and_parts (test y) (list_all test xs) h).1 g

-- the numbers from 0 on are below their count
range_below : (first count most : ℕ) → first + count ≤ most → Each (λ n. n < most) (range_with_len first count)
range_below first zero most l = tt
range_below first (suc count) most l = (omega (arith, l), range_below (first + 1) count most (omega (arith, l)))

range_has : (first count k : ℕ) (P : ℕ → Type 0) → Each P (range_with_len first count) → k < count → P (first + k)
range_has first zero k P e l = absurd (omega (arith, l))
range_has first (suc count) zero P e l = subst P (same first) e.0
  where
    same : (n : ℕ) → n ≡ n + 0
    same n = omega arith
range_has first (suc count) (suc k) P e l = subst P (next first k) (range_has (first + 1) count k P e.1 (omega (arith, l)))
  where
    next : (a b : ℕ) → (a + 1) + b ≡ a + suc b
    next a b = omega arith

module _ (T : Tables) (r : AreRuled T) where
  -- Procedures that globals begin with are there

  pub start_below : (start : Start) → is_start (length T.records) (length T.procs) start ≡ true → Each (λ n. n < length T.procs)
      (number_in (procedure_at start))
  start_below Null h = tt
  start_below (Record number) h = tt
  start_below (Function func) h = tt
  start_below (Procedure number) h = (ltb-true number (length T.procs) h, tt)

  global_below : (k : ℕ) (o : Option Global) → slice_get T.globals k ≡ o
      → Each (λ n. n < length T.procs) (number_in (option_and_then (λ (global : Global). procedure_at global.start) o))
  global_below k None e = tt
  global_below k (Some global) e =
      start_below global.start (and_parts _ _ (passes_got (is_global (length T.strings) (length T.records) (length T.procs)) T.globals k global r.globals e)).1

  pub place_below : (place : ℕ) → Each (λ n. n < length T.procs) (procedure_of_global T place)
  place_below place = global_below place (slice_get T.globals place) refl

  places_below : (places : List ℕ) → Each (λ n. n < length T.procs) (flat_map (procedure_of_global T) places)
  places_below [] = tt
  places_below (place ∷ places) =
      each_join (λ n. n < length T.procs) (procedure_of_global T place) (flat_map (procedure_of_global T) places) (place_below place) (places_below places)

  pub mentions_below : (ps : List Proc) (number : ℕ) (numbers : List ℕ) → slice_get (map (mentioned_in T) ps) number ≡ Some numbers
      → Each (λ n. n < length T.procs) numbers
  mentions_below [] number numbers g = absurd (cc)
  mentions_below (p ∷ ps) zero numbers g =
      subst (Each (λ n. n < length T.procs)) (some_injective (mentioned_in T p) numbers g) (places_below (globals_in p))
  mentions_below (p ∷ ps) (suc number) numbers g = mentions_below ps number numbers g

  pub main_below : Each (λ n. n < length T.procs) (number_in (main_of T))
  main_below =
      let named = λ (global : Global). bytes_eq (name_of T.strings global) (codes "main") in
      global_below (position_or_len named T.globals) (find named T.globals) (sym (find_at named T.globals))

  -- What is kept for its own sake

  pub many : length (mentioned_by T) ≡ length T.procs
  many = length-map T.procs (mentioned_in T)

  own_below : (named : List ℕ) (all : Bool) → Each (λ n. n < length T.procs) named → Each (λ n. n < length T.procs) (own_kept T named all)
  own_below named true e = range_below 0 (length T.procs) (length T.procs) (omega arith)
  own_below named false e = each_join (λ n. n < length T.procs) (number_in (main_of T)) named main_below e

  -- `main` is among it
  main_own : (named : List ℕ) (all : Bool) (P : ℕ → Type 0) → Each P (own_kept T named all) → (o : Option ℕ) → main_of T ≡ o
      → Each (λ n. n < length T.procs) (number_in o) → Each P (number_in o)
  main_own named all P e None is b = tt
  main_own named true P e (Some number) is b = (subst P (same number) (range_has 0 (length T.procs) number P e b.0), tt)
    where
      same : (n : ℕ) → 0 + n ≡ n
      same n = omega arith
  main_own named false P e (Some number) is b = (first (number_in (main_of T) ++ named) e (ap (λ o. number_in o ++ named) is), tt)
    where
      first : (own : List ℕ) → Each P own → own ≡ number ∷ named → P number
      first own e same = (subst (Each P) same e).0

  pub kept_may_be : (named : List ℕ) (all : Bool) → All (λ number. number < length T.procs) named → MayBeKept T (kept_of T named all)
  kept_may_be named all h =
      let keep = kept_of T named all in
      let own = own_below named all (each_of (λ number. number < length T.procs) named h) in
      let below = subst (λ most. Each (λ n. n < most) (own_kept T named all)) (sym many) own in
      let least : IsLeast (mentioned_by T) (own_kept T named all) keep =
      least_set (mentioned_by T) (own_kept T named all) (all_of (λ n. n < length (mentioned_by T)) (own_kept T named all) below)
      (λ number numbers g. all_of (λ n. n < length (mentioned_by T)) numbers
      (subst (λ most. Each (λ n. n < most) numbers) (sym many) (mentions_below T.procs number numbers g))) in
      record {
        as_many = least.as_many ∙ many;
        main = λ number is. (subst (λ o. Each (IsIn keep) (number_in o)) is
            (main_own named all (IsIn keep) (each_of (IsIn keep) (own_kept T named all) least.own_kept) (main_of T) refl main_below)).0;
        closed = least.closed;
      }

pub code_may_be : (T : Tables) (named : List ℕ) (all : Bool) → keeps_rules T ≡ true → All (λ number. number < length T.procs) named
    → MayBeKept T (kept_of T named all)
code_may_be T named all h n = kept_may_be T (each_rule T h) named all n
