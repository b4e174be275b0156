-- The table of globals, whose names differ.
use Rattle.std.proofs.Common.{◌≡◌, ℕ, zero, suc, ◌≤◌, ◌<◌, Bool, true, false, not, cond, List, [], ◌∷◌, ◌++◌, length, map, Ok, refl, sym, ap, subst, ◌∙◌, append_assoc, arith}
use Rattle.std.specs.Prelude.{nat_lt}
use Rattle.std.specs.List.{flat_map, list_all}
use Rattle.std.specs.Str.{bytes_eq}
use Rattle.std.specs.Int.{Width, to_le_bytes}
use Rattle.std.proofs.lemmas.Bool.{ltb-true, lt-ltb, and_parts, and_from, or_parts, or_from, not-true, not_from_false}
use Rattle.std.proofs.lemmas.Bool.Decides.{same_from_decides}
use Rattle.std.proofs.lemmas.List.Concat.{flat_map-cons}
use Rattle.std.proofs.lemmas.Slice.Eq.{bytes_eq-Decides}
use Rattle.icn_code.specs.declared.code.Global.{Global}
use Rattle.icn_code.specs.declared.code.Start.{Start}
use Rattle.icn_code.specs.declared.code.Start.TheVariants.{Null, Procedure, Record, Function}
use Rattle.icn_code.specs.Rules.{name_of, has_name, names_differ, is_start, is_global}
use Rattle.icn_tree.specs.NameSets.{NameTest, none_met, with_name}
use Rattle.icn_image.specs.Readers.{◌>>=◌, number_at}
use Rattle.icn_image.specs.Reading.{global_at, globals_from, globals_at, has_proc}
use Rattle.icn_image.specs.Spelling.{table, global}
use Rattle.icn_image.proofs.SpelledFields.{IsBytes, bind_parts, done_injective, Takes, takes_then, IsWide, number_reads}
use Rattle.icn_image.proofs.SpelledGlobals.{start_fits, global_fits, is_new, global_takes, global_again}

-- ---- names

bytes_eq_comm : (a b : List ℕ) → bytes_eq a b ≡ bytes_eq b a
bytes_eq_comm a b =
    let other = bytes_eq-Decides b a in
    same_from_decides (bytes_eq a b) (bytes_eq b a) (bytes_eq-Decides a b) (λ e. sym (other.0 e), λ e. other.1 (sym e))

new_apart : (t m : Bool) → not (cond t true m) ≡ true → (t ≡ false) × (not m ≡ true)
new_apart true m e = absurd cc
new_apart false m e = (refl, e)

new_joined : (t m : Bool) → t ≡ false → not m ≡ true → not (cond t true m) ≡ true
new_joined true m none e = absurd cc
new_joined false m none e = e

met_apart : (strings : List (List ℕ)) (met : NameTest) (name : List ℕ) (gs : List Global) → list_all (is_new strings (with_name met name)) gs ≡ true
    → (list_all (is_new strings met) gs ≡ true) × (has_name (map (name_of strings) gs) name ≡ false)
met_apart strings met name [] all = (refl, refl)
met_apart strings met name (g ∷ gs) all =
    let p = and_parts (is_new strings (with_name met name) g) (list_all (is_new strings (with_name met name)) gs) all in
    let first = new_apart (bytes_eq name (name_of strings g)) (met (name_of strings g)) p.0 in
    let others = met_apart strings met name gs p.1 in (
      and_from (is_new strings met g) (list_all (is_new strings met) gs) first.1 others.0,
      or_from (bytes_eq (name_of strings g) name) (has_name (map (name_of strings) gs) name) (bytes_eq_comm (name_of strings g) name ∙ first.0) others.1,
    )

met_joined : (strings : List (List ℕ)) (met : NameTest) (name : List ℕ) (gs : List Global) → list_all (is_new strings met) gs ≡ true
    → has_name (map (name_of strings) gs) name ≡ false → list_all (is_new strings (with_name met name)) gs ≡ true
met_joined strings met name [] all none = refl
met_joined strings met name (g ∷ gs) all none =
    let p = and_parts (is_new strings met g) (list_all (is_new strings met) gs) all in
    let q = or_parts (bytes_eq (name_of strings g) name) (has_name (map (name_of strings) gs) name) none in
    and_from (is_new strings (with_name met name) g) (list_all (is_new strings (with_name met name)) gs)
    (new_joined (bytes_eq name (name_of strings g)) (met (name_of strings g)) (bytes_eq_comm name (name_of strings g) ∙ q.0) p.0)
    (met_joined strings met name gs p.1 q.1)

all_new : (strings : List (List ℕ)) (gs : List Global) → list_all (is_new strings none_met) gs ≡ true
all_new strings [] = refl
all_new strings (g ∷ gs) = all_new strings gs

-- ---- so many globals

pub record Differ (w : Width) (limit : ℕ) (strings : List (List ℕ)) (records : ℕ) (met : NameTest) (n : ℕ) (bytes : List ℕ) (x : List Global × List ℕ) : Type 0 where
  pub took : Takes bytes (flat_map (global w) x.0) x.1
  pub count : length x.0 ≡ n
  pub fit : list_all (global_fits limit (length strings) records) x.0 ≡ true
  pub new : list_all (is_new strings met) x.0 ≡ true
  pub differ : names_differ (map (name_of strings) x.0) ≡ true

globals_take : (w : Width) (limit : ℕ) → IsWide w limit → (strings : List (List ℕ)) (records : ℕ) → length strings ≤ limit → records ≤ limit
    → (met : NameTest) (n : ℕ) (bytes : List ℕ) (x : List Global × List ℕ) → IsBytes bytes → globals_from w strings records met n bytes ≡ Ok x
    → Differ w limit strings records met n bytes x
unfolding globals_from
globals_take w limit wide strings records few_strings few_records met zero bytes x fits e =
    subst (λ (y : List Global × List ℕ). Differ w limit strings records met 0 bytes y) (done_injective ([], bytes) x e)
    (record { took = record { parts = refl; rest_fits = fits }; count = refl; fit = refl; new = refl; differ = refl })
globals_take w limit wide strings records few_strings few_records met (suc n) bytes x fits e =
    let a = bind_parts (global_at w strings records met bytes)
    (λ first. globals_from w strings records (with_name met (name_of strings first.0)) n first.1 >>= λ others. Ok (first.0 ∷ others.0, others.1)) x e in
    let b = bind_parts (globals_from w strings records (with_name met (name_of strings a.0.0)) n a.0.1) (λ others. Ok (a.0.0 ∷ others.0, others.1)) x a.2 in
    let first = global_takes w limit wide strings records few_strings few_records met bytes a.0 fits a.1 in
    let second = globals_take w limit wide strings records few_strings few_records (with_name met (name_of strings a.0.0)) n a.0.1 b.0 first.0.rest_fits b.1 in
    let both = takes_then bytes (global w a.0.0) a.0.1 (flat_map (global w) b.0.0) b.0.1 first.0 second.took in
    let apart = met_apart strings met (name_of strings a.0.0) b.0.0 second.new in
    subst (λ (y : List Global × List ℕ). Differ w limit strings records met (suc n) bytes y) (done_injective (a.0.0 ∷ b.0.0, b.0.1) x b.2) (record {
      took = rw flat_map-cons both;
      count = ap suc second.count;
      fit = and_from (global_fits limit (length strings) records a.0.0) (list_all (global_fits limit (length strings) records) b.0.0) first.1 second.fit;
      new = and_from (is_new strings met a.0.0) (list_all (is_new strings met) b.0.0) (not_from_false (met (name_of strings a.0.0)) first.2) apart.0;
      differ = and_from (not (has_name (map (name_of strings) b.0.0) (name_of strings a.0.0))) (names_differ (map (name_of strings) b.0.0))
          (not_from_false (has_name (map (name_of strings) b.0.0) (name_of strings a.0.0)) apart.1) second.differ;
    })

globals_again : (w : Width) (limit : ℕ) → IsWide w limit → (strings : List (List ℕ)) (records : ℕ) → length strings ≤ limit → records ≤ limit
    → (met : NameTest) (gs : List Global) (rest : List ℕ) → list_all (global_fits limit (length strings) records) gs ≡ true
    → list_all (is_new strings met) gs ≡ true → names_differ (map (name_of strings) gs) ≡ true
    → globals_from w strings records met (length gs) (flat_map (global w) gs ++ rest) ≡ Ok (gs, rest)
unfolding globals_from
globals_again w limit wide strings records few_strings few_records met [] rest fit new differ = refl
globals_again w limit wide strings records few_strings few_records met (g ∷ gs) rest fit new differ =
    let p = and_parts (global_fits limit (length strings) records g) (list_all (global_fits limit (length strings) records) gs) fit in
    let q = and_parts (is_new strings met g) (list_all (is_new strings met) gs) new in
    let r = and_parts (not (has_name (map (name_of strings) gs) (name_of strings g))) (names_differ (map (name_of strings) gs)) differ in
    let still = met_joined strings met (name_of strings g) gs q.1 (not-true (has_name (map (name_of strings) gs) (name_of strings g)) r.0) in
    let regrouped : flat_map (global w) (g ∷ gs) ++ rest ≡ global w g ++ (flat_map (global w) gs ++ rest) = ap (λ (t : List ℕ). t ++ rest)
    (flat_map-cons (global w) g gs) ∙ append_assoc (global w g) (flat_map (global w) gs) rest in
    ap (globals_from w strings records met (suc (length gs))) regrouped
    ∙ (ap (λ s. s
    >>= λ first. globals_from w strings records (with_name met (name_of strings first.0)) (length gs) first.1 >>= λ others. Ok (first.0 ∷ others.0, others.1))
    (global_again w limit wide strings records few_strings few_records met g (flat_map (global w) gs ++ rest) p.0 (not-true (met (name_of strings g)) q.0))
    ∙ ap (λ s. s >>= λ others. Ok (g ∷ others.0, others.1))
    (globals_again w limit wide strings records few_strings few_records (with_name met (name_of strings g)) gs rest p.1 still r.1))

-- ---- the table

pub record TableDiffers (w : Width) (limit : ℕ) (strings : List (List ℕ)) (records : ℕ) (bytes : List ℕ) (x : List Global × List ℕ) : Type 0 where
  pub took : Takes bytes (table w (global w) x.0) x.1
  pub count : length x.0 < limit
  pub fit : list_all (global_fits limit (length strings) records) x.0 ≡ true
  pub differ : names_differ (map (name_of strings) x.0) ≡ true

pub global_table_takes : (w : Width) (limit : ℕ) → IsWide w limit → (strings : List (List ℕ)) (records : ℕ) → length strings ≤ limit → records ≤ limit
    → (bytes : List ℕ) (x : List Global × List ℕ) → IsBytes bytes → globals_at w strings records bytes ≡ Ok x → TableDiffers w limit strings records bytes x
unfolding globals_at
global_table_takes w limit wide strings records few_strings few_records bytes x fits e =
    let a = bind_parts (number_at w bytes) (λ n. globals_from w strings records none_met n.0 n.1) x e in
    let t = (number_reads w limit wide).takes bytes a.0 fits a.1 in
    let s = globals_take w limit wide strings records few_strings few_records none_met a.0.0 a.0.1 x t.0.rest_fits a.2 in
    let both = takes_then bytes (to_le_bytes w a.0.0) a.0.1 (flat_map (global w) x.0) x.1 t.0 s.took in
    record { took = rw s.count both; count = omega (arith, s.count, ltb-true _ _ t.1); fit = s.fit; differ = s.differ }

pub global_table_again : (w : Width) (limit : ℕ) → IsWide w limit → (strings : List (List ℕ)) (records : ℕ) → length strings ≤ limit → records ≤ limit
    → (gs : List Global) (rest : List ℕ) → length gs < limit → list_all (global_fits limit (length strings) records) gs ≡ true
    → names_differ (map (name_of strings) gs) ≡ true → globals_at w strings records (table w (global w) gs ++ rest) ≡ Ok (gs, rest)
unfolding globals_at
global_table_again w limit wide strings records few_strings few_records gs rest few fit differ =
    ap (globals_at w strings records) (append_assoc (to_le_bytes w (length gs)) (flat_map (global w) gs) rest)
    ∙ (ap (λ s. s >>= λ n. globals_from w strings records none_met n.0 n.1)
    ((number_reads w limit wide).again (length gs) (flat_map (global w) gs ++ rest) (lt-ltb _ _ few))
    ∙ globals_again w limit wide strings records few_strings few_records none_met gs rest fit (all_new strings gs) differ)

-- ---- their procedures are judged later

start_is : (limit records procs : ℕ) (start : Start) → start_fits limit records start ≡ true → has_proc procs start ≡ true → is_start records procs start ≡ true
start_is limit records procs Null fit has = refl
start_is limit records procs (Procedure place) fit has = has
start_is limit records procs (Record place) fit has = fit
start_is limit records procs (Function func) fit has = refl

start_parts : (limit records procs : ℕ) (start : Start) → procs ≤ limit → is_start records procs start ≡ true
    → (start_fits limit records start ≡ true) × (has_proc procs start ≡ true)
start_parts limit records procs Null few is = (refl, refl)
start_parts limit records procs (Procedure place) few is = (lt-ltb place limit (omega (arith, ltb-true place procs is)), is)
start_parts limit records procs (Record place) few is = (is, refl)
start_parts limit records procs (Function func) few is = (refl, refl)

pub globals_are : (limit strings records procs : ℕ) (gs : List Global) → list_all (global_fits limit strings records) gs ≡ true
    → list_all (λ g. has_proc procs g.start) gs ≡ true → list_all (is_global strings records procs) gs ≡ true
globals_are limit strings records procs [] fit has = refl
globals_are limit strings records procs (g ∷ gs) fit has =
    let p = and_parts (global_fits limit strings records g) (list_all (global_fits limit strings records) gs) fit in
    let q = and_parts (has_proc procs g.start) (list_all (λ g. has_proc procs g.start) gs) has in
    let r = and_parts (nat_lt g.name strings) (start_fits limit records g.start) p.0 in
    and_from (is_global strings records procs g) (list_all (is_global strings records procs) gs) (and_from (nat_lt g.name strings)
    (is_start records procs g.start) r.0 (start_is limit records procs g.start r.1 q.0)) (globals_are limit strings records procs gs p.1 q.1)

pub globals_parts : (limit strings records procs : ℕ) (gs : List Global) → procs ≤ limit → list_all (is_global strings records procs) gs ≡ true
    → (list_all (global_fits limit strings records) gs ≡ true) × (list_all (λ g. has_proc procs g.start) gs ≡ true)
globals_parts limit strings records procs [] few are = (refl, refl)
globals_parts limit strings records procs (g ∷ gs) few are =
    let p = and_parts (is_global strings records procs g) (list_all (is_global strings records procs) gs) are in
    let r = and_parts (nat_lt g.name strings) (is_start records procs g.start) p.0 in
    let s = start_parts limit records procs g.start few r.1 in
    let others = globals_parts limit strings records procs gs few p.1 in (
      and_from (global_fits limit strings records g) (list_all (global_fits limit strings records) gs)
          (and_from (nat_lt g.name strings) (start_fits limit records g.start) r.0 s.0) others.0,
      and_from (has_proc procs g.start) (list_all (λ g. has_proc procs g.start) gs) s.1 others.1,
    )
