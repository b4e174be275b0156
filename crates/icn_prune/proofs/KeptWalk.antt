-- The walk over the procedures of a code that were met.
use Rattle.std.proofs.Common.{◌≡◌, ℕ, zero, suc, ◌+◌, ◌<◌, ◌≤◌, Bool, true, false, List, [], length, replicate, Some, Result, OnOk, refl, sym, ap, ◌∙◌, subst, arith, get_or}
use Rattle.std.specs.Prelude.{slice_get}
use Rattle.std.specs.List.{All}
use Rattle.std.specs.Option.{option_and_then, option_map}
use Rattle.std.proofs.lemmas.Option.{slice_get-get_or, slice_get-map, slice_get_past, slice_get_within}
use Rattle.icn_code.specs.declared.code.Global.{Global}
use Rattle.icn_code.specs.declared.code.LinkedProcedure.{LinkedProcedure}
use Rattle.icn_code.specs.Codes.{Tables, proc_of, procs_of}
use Rattle.icn_code.specs.MainProcedure.{main_of, procedure_at}
use Rattle.icn_code.specs.Rules.{keeps_rules}
use Rattle.icn_defs.specs.KeptProcedures.{IsIn, after_rounds, kept_from, with_kept}
use Rattle.icn_prune.specs.KeptCode.{mentioned_by, mentioned_in, number_in, procedure_of_global}
use Rattle.icn_prune.specs.Marks.{AddsMarks, IsMarked}
use Rattle.icn_prune.proofs.KeptMarks.{Walks, adds_nothing, none_marked, walk_begins, walk_ends, walk_goes}
use Rattle.icn_prune.proofs.KeptOfCode.{main_below, many, mentions_below, place_below}
use Rattle.icn_prune.proofs.LeastSets.{Each, Within, all_of, kept_there}
use Rattle.icn_prune.proofs.TableRules.{each_rule}

module _ (T : Tables) (rules : keeps_rules T ≡ true) (first : List Bool) (as_many : length first ≡ length T.procs) where
  long : length first ≡ length (mentioned_by T)
  long = as_many ∙ sym (many T (each_rule T rules))

  inside : Within (length first) (mentioned_by T)
  inside number numbers g =
      subst (λ most. Each (λ n. n < most) numbers) (sym as_many) (mentions_below T (each_rule T rules) T.procs number numbers g)

  pub walk_start : (met : List ℕ) → Walks (mentioned_by T) first first met 0
  walk_start met = walk_begins (mentioned_by T) first long inside met

  pub walk_done : (keep : List Bool) (met : List ℕ) (place : ℕ) → IsMarked keep met → length met ≤ place → Walks (mentioned_by T) first keep met place
      → keep ≡ after_rounds (length T.procs) (mentioned_by T) first
  walk_done keep met place m all w =
      walk_ends (mentioned_by T) first long inside keep met place m all w
      ∙ ap (λ n. after_rounds n (mentioned_by T) first) (many T (each_rule T rules))

  pub walk_long : (keep : List Bool) (met : List ℕ) (place : ℕ) → Walks (mentioned_by T) first keep met place → length keep ≡ length T.procs
  walk_long keep met place w = w.as_many ∙ many T (each_rule T rules)

  -- what was met is the number of a procedure
  pub walk_number : (keep : List Bool) (met : List ℕ) (place number : ℕ) → IsMarked keep met → Walks (mentioned_by T) first keep met place
      → slice_get met place ≡ Some number → number < length T.procs
  walk_number keep met place number m w at =
      let within = slice_get_within keep number true (m.met_marked place number at) in
      let same = walk_long keep met place w in
      omega (arith, within, same)

  pub walk_next : (keep after : List Bool) (met grown : List ℕ) (place number : ℕ) (numbers : List ℕ) → IsMarked keep met
      → slice_get met place ≡ Some number → slice_get (mentioned_by T) number ≡ Some numbers → AddsMarks keep met after grown numbers
      → Walks (mentioned_by T) first keep met place → Walks (mentioned_by T) first after grown (place + 1)
  walk_next keep after met grown place number numbers m at is a w =
      let next : place + 1 ≡ suc place = omega arith in
      let same : length keep ≡ length first = walk_long keep met place w ∙ sym as_many in
      let below : Each (λ n. n < length keep) numbers = subst (λ most. Each (λ n. n < most) numbers) (sym same) (inside number numbers is) in
      let there : Each (IsIn after) numbers = subst (λ marks. Each (IsIn marks) numbers) (sym a.marks) (kept_there numbers keep below) in
      subst (Walks (mentioned_by T) first after grown) (sym next)
      (walk_goes (mentioned_by T) first long inside keep after met grown place number numbers m at is there a w)

pub number_at : (met : List ℕ) (place number : ℕ) → place < length met → number ≡ get_or met place 0 → slice_get met place ≡ Some number
number_at met place number l e = slice_get-get_or met place 0 l ∙ ap Some (sym e)

-- what the procedure of a number mentions
pub mentions_at : (T : Tables) (items : List LinkedProcedure) (number : ℕ) (entry : LinkedProcedure) → T.procs ≡ procs_of items
    → number < length items → entry ≡ get_or items number entry → slice_get (mentioned_by T) number ≡ Some (mentioned_in T (proc_of entry))
mentions_at T items number entry e l is =
    slice_get-map (mentioned_in T) T.procs number
    ∙ ap (option_map (mentioned_in T)) (ap (λ ps. slice_get ps number) e ∙ slice_get-map proc_of items number
    ∙ ap (option_map proc_of) (slice_get-get_or items number entry l ∙ ap Some (sym is)))

-- What a global and `main` begin with

global_at : (T : Tables) (slice : List Global) (place : ℕ) (global : Global) → slice ≡ T.globals → place < length slice
    → global ≡ get_or slice place global → slice_get T.globals place ≡ Some global
global_at T slice place global e l is = ap (λ s. slice_get s place) (sym e) ∙ slice_get-get_or slice place global l ∙ ap Some (sym is)

started_at : (T : Tables) (place : ℕ) (global : Global) → slice_get T.globals place ≡ Some global
    → number_in (procedure_at global.start) ≡ procedure_of_global T place
started_at T place global g = ap (λ o. number_in (option_and_then (λ (global : Global). procedure_at global.start) o)) (sym g)

pub global_there : (T : Tables) → keeps_rules T ≡ true → (keep : List Bool) → length keep ≡ length T.procs → (slice : List Global) (place : ℕ)
    (global : Global) → slice ≡ T.globals → place < length slice → global ≡ get_or slice place global
    → All (λ number. number < length keep) (number_in (procedure_at global.start))
global_there T rules keep many slice place global e l is =
    subst (λ most. All (λ number. number < most) (number_in (procedure_at global.start))) (sym many)
    (all_of (λ number. number < length T.procs) (number_in (procedure_at global.start))
    (subst (Each (λ number. number < length T.procs)) (sym (started_at T place global (global_at T slice place global e l is)))
    (place_below T (each_rule T rules) place)))

pub global_adds : {R E : Type 0} (T : Tables) (result : Result R E) (keep after : List Bool) (met grown : List ℕ) (slice : List Global) (place : ℕ)
    (global : Global) → slice ≡ T.globals → place < length slice → global ≡ get_or slice place global
    → OnOk result (AddsMarks keep met after grown (number_in (procedure_at global.start)))
    → OnOk result (AddsMarks keep met after grown (procedure_of_global T place))
global_adds T result keep after met grown slice place global e l is h =
    subst (λ ns. OnOk result (AddsMarks keep met after grown ns)) (started_at T place global (global_at T slice place global e l is)) h

pub no_global_adds : (T : Tables) (keep : List Bool) (met : List ℕ) (slice : List Global) (place : ℕ) → slice ≡ T.globals → length slice ≤ place
    → AddsMarks keep met keep met (procedure_of_global T place)
no_global_adds T keep met slice place e l =
    subst (AddsMarks keep met keep met)
    (ap (λ o. number_in (option_and_then (λ (global : Global). procedure_at global.start) o))
    (sym (ap (λ s. slice_get s place) (sym e) ∙ slice_get_past slice place l)))
    (adds_nothing keep met)

pub main_there : (T : Tables) → keeps_rules T ≡ true → (keep : List Bool) → length keep ≡ length T.procs → (number : ℕ) → main_of T ≡ Some number
    → number < length keep
main_there T rules keep many number e =
    let below = (subst (λ o. Each (λ n. n < length T.procs) (number_in o)) e (main_below T (each_rule T rules))).0 in
    omega (arith, below, many)

-- What is kept in the end

pub none_long : (n : ℕ) → length (replicate n false) ≡ n
none_long zero = refl
none_long (suc n) = ap suc (none_long n)

pub none_met : (keep : List Bool) (met : List ℕ) (n : ℕ) → keep ≡ replicate n false → met ≡ [] → IsMarked keep met
none_met keep met n k m = subst (λ l. IsMarked l met) (sym k) (subst (IsMarked (replicate n false)) (sym m) (none_marked n))

pub kept_ends : (T : Tables) (own : List ℕ) (n : ℕ) (first marked keep : List Bool) → keeps_rules T ≡ true → n ≡ length T.procs → first ≡ replicate n false
    → marked ≡ with_kept own first → keep ≡ after_rounds (length T.procs) (mentioned_by T) marked → keep ≡ kept_from (mentioned_by T) own
kept_ends T own n first marked keep rules long f m k =
    let same = many T (each_rule T rules) in
    k ∙ ap (λ c. after_rounds c (mentioned_by T) marked) (sym same)
    ∙ ap (after_rounds (length (mentioned_by T)) (mentioned_by T))
    (m ∙ ap (with_kept own) (f ∙ ap (λ c. replicate c false) (long ∙ sym same)))
